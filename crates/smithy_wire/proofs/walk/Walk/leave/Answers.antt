use Rattle.std.proofs.Common.{arith}
use Rattle.std.proofs.lemmas.Grind.{common_steps}
use Rattle.smithy_wire.proofs.walk.Walk.leave.Goals as goal

pub returns-clause-outer : goal.returns-clause-outer
returns-clause-outer c = grind (arith, common_steps)
