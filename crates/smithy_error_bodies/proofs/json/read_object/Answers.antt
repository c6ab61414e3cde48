use Rattle.std.proofs.Common.{Some, None, subst, ap, ◌∙◌, sym}
use Rattle.std.proofs.lemmas.Result.{err_from_is_err_and}
use Rattle.smithy_json_tokens.specs.TokenView.{token_view}
use Rattle.smithy_json_tokens.specs.IteratorView.{cursor_of, GivesNext}
use Rattle.smithy_error_bodies.specs.Private.JsonSteps.{fresh, state_of, said_in, reads, Tells}
use Rattle.smithy_error_bodies.proofs.JsonTelling.{error_left, told_on, told_done, told_wrong, none_left}
use Rattle.smithy_error_bodies.proofs.json.read_object.Goals as goal

pub returns-in_err-token-clause-err : goal.returns-in_err-token-clause-err
returns-in_err-token-clause-err c =
    let p = err_from_is_err_and c.from_residual.result c.from_residual.ensures.1 in
    let step = subst (λ item. GivesNext c.loop-item.tokens (Some item) c.next.new.self) c.in_err-token.was c.in-Some.ensures.steps in
    rw p.1 (λ invalid. c.loop-item.invariant.told None (error_left (state_of c.loop-item.reading) c.loop-item.tokens c.next.new.self c.in_err-token.field-0.0 step (p.2.0 invalid)))

pub loop-item-preserved : goal.loop-item-preserved
loop-item-preserved c =
    let inv = c.loop-item.invariant in
    let step = subst (λ item. GivesNext c.loop-item.tokens (Some item) c.next.new.self) c.in_ok-token.was c.in-Some.ensures.steps in
    let further = c.in-Some.ensures.goes.on inv.ends in
    let after = state_of c.take.new.self in
    record {
      can = further.0;
      ends = further.1;
      told = λ r tells. inv.told r (told_on (state_of c.loop-item.reading) after (cursor_of c.loop-item.tokens) (cursor_of c.next.new.self) (token_view c.in_ok-token.token) _ step.1.0
          (c.in_ok-take.ensures.ok ∙ ap (λ turn. (turn, after)) c.in-On.is) r tells);
    }

pub returns-in-Done-clause-ok : goal.returns-in-Done-clause-ok
returns-in-Done-clause-ok c =
    let step = subst (λ item. GivesNext c.loop-item.tokens (Some item) c.next.new.self) c.in_ok-token.was c.in-Some.ensures.steps in
    let after = state_of c.take.new.self in
    subst (λ said. Tells (reads fresh) (cursor_of c.args.tokens.now) (Some said)) (sym c.into_body.ensures)
    (c.loop-item.invariant.told (Some (said_in after)) (told_done (state_of c.loop-item.reading) after (cursor_of c.loop-item.tokens) (cursor_of c.next.new.self) (token_view c.in_ok-token.token) _ step.1.0
    (c.in_ok-take.ensures.ok ∙ ap (λ turn. (turn, after)) c.in-Done.is)))

pub returns-in-Wrong-clause-err : goal.returns-in-Wrong-clause-err
returns-in-Wrong-clause-err c =
    let step = subst (λ item. GivesNext c.loop-item.tokens (Some item) c.next.new.self) c.in_ok-token.was c.in-Some.ensures.steps in
    let after = state_of c.take.new.self in
    λ invalid. c.loop-item.invariant.told None (told_wrong (state_of c.loop-item.reading) after (cursor_of c.loop-item.tokens) (cursor_of c.next.new.self) (token_view c.in_ok-token.token) _ step.1.0
    (c.in_ok-take.ensures.ok ∙ ap (λ turn. (turn, after)) c.in-Wrong.is))

pub returns-clause-err : goal.returns-clause-err
returns-clause-err c = λ invalid. c.loop-item.invariant.told None (none_left (state_of c.loop-item.reading) c.loop-item.tokens c.next.new.self c.in_default.ensures.steps)
