use Rattle.std.proofs.Common.{arith}
use Rattle.std.proofs.lemmas.Grind.{common_steps}
use Rattle.smithy_declarations.proofs.table_text.read_line.Goals as goal

pub returns-in_ok-push-in-Some-Declares : goal.returns-in_ok-push-in-Some-Declares
returns-in_ok-push-in-Some-Declares c = grind (arith, common_steps)
