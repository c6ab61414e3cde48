use Rattle.std.proofs.Common.{◌≡◌, cond, subst, vec_items}
use Rattle.std.proofs.lemmas.Result.{err_from_is_err_and}
use Rattle.smithy_json_grammar.specs.EscapedText.{escaped_text}
use Rattle.smithy_json_tokens.specs.DocumentSteps.{Step, where_value, wrong}
use Rattle.smithy_json_tokens.specs.Private.Frames.{frames_view}
use Rattle.smithy_json_tokens.proofs.FrameLemmas.{text_refused}
use Rattle.smithy_json_tokens.proofs.frames.text.Goals as goal

pub returns-in_err-text : goal.returns-in_err-text
returns-in_err-text c =
    let frames = vec_items c.args.frames.now in let may = c.value_may_begin.result in
    let begins = subst (λ xs. (step : Step) → where_value (frames_view xs) step ≡ cond may step wrong) c.deref.ensures.value c.value_may_begin.ensures in
    let p = err_from_is_err_and c.from_residual.result c.from_residual.ensures.1 in
    rw (p.1, p.2) (text_refused (frames_view frames) (escaped_text c.args.raw) may c.args.at c.in_err-text.field-0.0 frames
    c.if-not-value_may_begin.false begins c.in_err-text.ensures)
