use Rattle.std.proofs.Common.{arith}
use Rattle.std.proofs.lemmas.Grind.{common_steps}
use Rattle.smithy_wire.proofs.open_containers.OpenContainers.pass_value.Goals as goal

pub returns-in-MapAtKey-clause-refused : goal.returns-in-MapAtKey-clause-refused
returns-in-MapAtKey-clause-refused g c = grind (arith, common_steps)

pub returns-in-MapAtValue-clause-taken : goal.returns-in-MapAtValue-clause-taken
returns-in-MapAtValue-clause-taken g c = grind (arith, common_steps)

pub returns-in-Structure-clause-taken : goal.returns-in-Structure-clause-taken
returns-in-Structure-clause-taken g c = grind (arith, common_steps)

pub returns-in-None-clause-taken : goal.returns-in-None-clause-taken
returns-in-None-clause-taken g c = grind (arith, common_steps)
