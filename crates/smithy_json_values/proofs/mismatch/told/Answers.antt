use Rattle.std.proofs.Common.{sym, ap, ◌∙◌, Err}
use Rattle.smithy_wire.proofs.ScalarReads.{told_value, told_refusal}
use Rattle.smithy_json_values.proofs.mismatch.told.Goals as goal

pub returns-in-Ok : goal.returns-in-Ok
returns-in-Ok g c = rw c.in-Ok.is (sym (told_value _ c.in-Ok.value))

pub returns-in-Err : goal.returns-in-Err
returns-in-Err g c = rw c.in-Err.is (ap Err c.told_refusal.ensures ∙ sym (told_refusal _ c.in-Err.error))
