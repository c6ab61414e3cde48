use Rattle.std.proofs.Common.{sym, subst, ap, ◌∙◌, [], ◌∷◌, Some, None, Ok, Err, refl, vec_items}
use Rattle.std.proofs.lemmas.Result.{err_from_is_err_and}
use Rattle.smithy_json_tokens.specs.DocumentSteps.{document_step}
use Rattle.smithy_json_tokens.specs.Private.Frames.{frames_view}
use Rattle.smithy_json_tokens.specs.TokenView.{token_offset}
use Rattle.smithy_json_tokens.proofs.FrameLemmas.{goes_with, whole_with, ends_error}
use Rattle.smithy_json_tokens.proofs.document.make_document.Goals as goal

pub returns-in_err-token : goal.returns-in_err-token
returns-in_err-token g c =
    let step = subst (λ item. g.I.Iterator.next_gives c.loop-item.tokens (Some item) c.next.new.self) c.in_err-token.was c.in-Some.ensures.steps in
    let p = err_from_is_err_and c.from_residual.result c.from_residual.ensures.1 in
    rw (p.1, p.2) (c.loop-item.invariant.2 [] (Err c.in_err-token.field-0.0) c.next.new.self (Some (Err c.in_err-token.field-0.0), step, refl))

pub returns-in_err-document : goal.returns-in_err-document
returns-in_err-document g c =
    let l = c.loop-item in
    let step = subst (λ item. g.I.Iterator.next_gives l.tokens (Some item) c.next.new.self) c.in_ok-token.was c.in-Some.ensures.steps in
    let viewed = ap (document_step (frames_view (vec_items l.frames))) c.as_token.ensures.view in
    let p = err_from_is_err_and c.from_residual-in_err-document.result c.from_residual-in_err-document.ensures.1 in
    rw (p.1, p.2) (l.invariant.2 [] (Err c.in_err-document.field-0.0) c.next.new.self
    (Some (Ok c.in_ok-token.token), step, ends_error _ _ _ _ c.in_err-document.field-0.0 [] viewed c.as_token.ensures.place c.in_err-document.ensures))

pub returns-in-Some-2 : goal.returns-in-Some-2
returns-in-Some-2 g c =
    let l = c.loop-item in
    let step = subst (λ item. g.I.Iterator.next_gives l.tokens (Some item) c.next.new.self) c.in_ok-token.was c.in-Some.ensures.steps in
    let viewed = ap (document_step (frames_view (vec_items l.frames))) c.as_token.ensures.view in
    l.invariant.2 [] (Ok c.in-Some-2.document) c.next.new.self
    (Some (Ok c.in_ok-token.token), step, sym viewed ∙ whole_with _ (token_offset c.as_token.result) c.in_ok-document.field-0 c.in-Some-2.document _ c.in_ok-document.ensures c.in-Some-2.is)

pub loop-item-preserved : goal.loop-item-preserved
loop-item-preserved g c =
    let l = c.loop-item in
    let step = subst (λ item. g.I.Iterator.next_gives l.tokens (Some item) c.next.new.self) c.in_ok-token.was c.in-Some.ensures.steps in
    let viewed = ap (document_step (frames_view (vec_items l.frames))) c.as_token.ensures.view in
    let on = sym viewed ∙ goes_with _ (token_offset c.as_token.result) c.in_ok-document.field-0 _ c.in_ok-document.ensures c.in_default-2.is in
    let further = c.in-Some.ensures.goes.on l.invariant.1 in (
      further.0,
      further.1,
      λ taken result t h. l.invariant.2 (c.in_ok-token.token ∷ taken) result t (_, on, (c.next.new.self, step, h)),
    )

pub returns : goal.returns
returns g c =
    c.loop-item.invariant.2 [] (Err c.expected.result) c.next.new.self (None, c.in_default.ensures.steps, (c.expected.ensures.offset, c.expected.ensures.kind))
