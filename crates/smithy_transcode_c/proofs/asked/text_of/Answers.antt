use Rattle.std.proofs.Common.{sym, ap, ◌∙◌, Some}
use Rattle.smithy_transcode_c.proofs.Texts.{text_is_there, no_text}
use Rattle.smithy_transcode_c.proofs.asked.text_of.Goals as goal

pub returns-in-Ok : goal.returns-in-Ok
returns-in-Ok c = ap Some c.in-Ok.ensures.cases.0 ∙ sym (text_is_there c.args.bytes.now c.in-Ok.ensures.cases.1)

pub returns-in-Err : goal.returns-in-Err
returns-in-Err c = sym (no_text c.args.bytes.now c.in-Err.ensures.cases.0)
