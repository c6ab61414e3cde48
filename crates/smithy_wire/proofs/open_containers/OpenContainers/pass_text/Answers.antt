use Rattle.std.proofs.Common.{arith}
use Rattle.std.proofs.lemmas.Grind.{common_steps}
use Rattle.smithy_wire.proofs.open_containers.OpenContainers.pass_text.Goals as goal

pub returns-in-Some-MapAtKey-clause-taken : goal.returns-in-Some-MapAtKey-clause-taken
returns-in-Some-MapAtKey-clause-taken g c = grind (arith, common_steps)
