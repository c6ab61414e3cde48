use Rattle.std.proofs.Common.{sym, subst, ap, ◌∙◌, [], ◌∷◌, Some, None, Ok, Err, refl}
use Rattle.std.proofs.lemmas.Result.{err_from_is_err_and}
use Rattle.smithy_json_tokens.specs.Skipping.{skip_token}
use Rattle.smithy_json_tokens.proofs.SkipLemmas.{stays_within, ends_done, ends_wrong}
use Rattle.smithy_json_tokens.proofs.skip.skip_from.Goals as goal

pub returns-in_err-token : goal.returns-in_err-token
returns-in_err-token g c =
    let step = subst (λ item. g.I.Iterator.next_gives c.loop-item.tokens (Some item) c.next.new.self) c.in_err-token.was c.in-Some.ensures.steps in
    let p = err_from_is_err_and c.from_residual.result c.from_residual.ensures.1 in
    rw (p.1, p.2) (c.loop-item.invariant.3 [] (Err c.in_err-token.field-0.0) c.next.new.self (Some (Err c.in_err-token.field-0.0), step, refl))

pub loop-item-preserved : goal.loop-item-preserved
loop-item-preserved g c =
    let inv = c.loop-item.invariant in
    let step = subst (λ item. g.I.Iterator.next_gives c.loop-item.tokens (Some item) c.next.new.self) c.in_ok-token.was c.in-Some.ensures.steps in
    let further = c.in-Some.ensures.goes.on inv.1 in
    let more = c.in-On.ensures ∙ ap (skip_token c.args.limit c.loop-item.depth) c.as_token.ensures.view in (
      further.0,
      further.1,
      stays_within c.args.limit (g.T.IsToken.view c.in_ok-token.token) c.loop-item.depth c.in-On.more inv.2 more,
      λ passed result t h. inv.3 (c.in_ok-token.token ∷ passed) result t (c.in-On.more, sym more, (c.next.new.self, step, h)),
    )

pub returns-in-Done : goal.returns-in-Done
returns-in-Done g c =
    let step = subst (λ item. g.I.Iterator.next_gives c.loop-item.tokens (Some item) c.next.new.self) c.in_ok-token.was c.in-Some.ensures.steps in
    let done = c.in-Done.ensures ∙ ap (skip_token c.args.limit c.loop-item.depth) c.as_token.ensures.view in
    c.loop-item.invariant.3 [] (Ok tt) c.next.new.self (Some (Ok c.in_ok-token.token), step, ends_done _ (g.T.IsToken.place c.in_ok-token.token) done)

pub returns-in-Wrong : goal.returns-in-Wrong
returns-in-Wrong g c =
    let step = subst (λ item. g.I.Iterator.next_gives c.loop-item.tokens (Some item) c.next.new.self) c.in_ok-token.was c.in-Some.ensures.steps in
    let wrong = c.in-Wrong.ensures ∙ ap (skip_token c.args.limit c.loop-item.depth) c.as_token.ensures.view in
    let place = c.offset-at.ensures ∙ c.as_token-in-Wrong.ensures.place in
    c.loop-item.invariant.3 [] (Err c.expected.result) c.next.new.self
    (Some (Ok c.in_ok-token.token), step, ends_wrong _ (g.T.IsToken.place c.in_ok-token.token) c.offset-at.result.0 c.expected.result wrong place c.expected.ensures.offset c.expected.ensures.kind)

pub returns : goal.returns
returns g c =
    c.loop-item.invariant.3 [] (Err c.expected-2.result) c.next.new.self (None, c.in_default.ensures.steps, (c.expected-2.ensures.offset, c.expected-2.ensures.kind))
