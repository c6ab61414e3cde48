use Rattle.std.proofs.Common.{ap, ◌∙◌, Some}
use Rattle.smithy_form.proofs.TextForms.{text_is_there, no_text}
use Rattle.smithy_form.proofs.percent.text_of.Goals as goal

pub returns-in-Ok : goal.returns-in-Ok
returns-in-Ok c = ap Some c.in-Ok.ensures.cases.0 ∙ text_is_there c.args.bytes.now c.in-Ok.ensures.cases.1

pub returns-in-Err : goal.returns-in-Err
returns-in-Err c = no_text c.args.bytes.now c.in-Err.ensures.cases.0
