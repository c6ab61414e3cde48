use Rattle.std.proofs.Common.{◌≡◌, Some, None, subst, sym, ap, ◌∙◌}
use Rattle.smithy_json_tokens.specs.TokenRules.{next_answer, FindsContainer}
use Rattle.smithy_json_tokens.specs.TokenRuns.{start}
use Rattle.smithy_json_tokens.specs.TokenView.{token_view}
use Rattle.smithy_json_tokens.specs.IteratorView.{cursor_of, GivesNext}
use Rattle.smithy_error_bodies.specs.Said.{said_by}
use Rattle.smithy_error_bodies.specs.JsonErrors.{JsonSays}
use Rattle.smithy_error_bodies.specs.Private.JsonSteps.{fresh, reads, Tells}
use Rattle.smithy_error_bodies.specs.declared.error_body.ErrorBodyFault.TheVariants.{InvalidInput, NoMemory}
use Rattle.smithy_json_tokens.proofs.FirstFaults.{memory_first}
use Rattle.smithy_error_bodies.proofs.JsonObjects.{says_object, each_ok, each_err, object_container}
use Rattle.std.proofs.lemmas.Result.{err_from_is_err_and}
use Rattle.smithy_error_bodies.proofs.json.read_json_error.Goals as goal

pub returns-then-begins_object-clause-ok : goal.returns-then-begins_object-clause-ok
returns-then-begins_object-clause-ok c =
    let step = subst (λ item. GivesNext c.in_ok-tokens.tokens (Some item) c.next.new.self) c.in_ok-token.was c.in-Some.ensures.steps in
    let is = sym (ap next_answer c.in_ok-tokens.ensures.cursor) ∙ step.1.0 in
    each_ok (λ body. Tells (reads fresh) (cursor_of c.next.new.self) (Some (said_by body))) (λ body. JsonSays c.args.body.now (Some (said_by body))) c.read_object.result
    (λ body told. says_object c.args.body.now (cursor_of c.next.new.self) (token_view c.in_ok-token.token) _ (Some (said_by body)) is (sym c.begins_object.ensures ∙ c.if-begins_object.true) told) c.read_object.ensures.ok

pub returns-then-begins_object-clause-err : goal.returns-then-begins_object-clause-err
returns-then-begins_object-clause-err c =
    let step = subst (λ item. GivesNext c.in_ok-tokens.tokens (Some item) c.next.new.self) c.in_ok-token.was c.in-Some.ensures.steps in
    let is = sym (ap next_answer c.in_ok-tokens.ensures.cursor) ∙ step.1.0 in
    each_err (λ e. e ≡ InvalidInput → Tells (reads fresh) (cursor_of c.next.new.self) None) (λ e. e ≡ InvalidInput → JsonSays c.args.body.now None) c.read_object.result
    (λ e told invalid. says_object c.args.body.now (cursor_of c.next.new.self) (token_view c.in_ok-token.token) _ None is (sym c.begins_object.ensures ∙ c.if-begins_object.true) (told invalid)) c.read_object.ensures.err

pub returns-then-begins_object-clause-memory : goal.returns-then-begins_object-clause-memory
returns-then-begins_object-clause-memory c =
    let step = subst (λ item. GivesNext c.in_ok-tokens.tokens (Some item) c.next.new.self) c.in_ok-token.was c.in-Some.ensures.steps in
    let is = sym (ap next_answer c.in_ok-tokens.ensures.cursor) ∙ step.1.0 in
    let finds = object_container (next_answer (start c.args.body.now)) (token_view c.in_ok-token.token) _ (cursor_of c.next.new.self) is (sym c.begins_object.ensures ∙ c.if-begins_object.true) in
    each_err (λ e. e ≡ InvalidInput → Tells (reads fresh) (cursor_of c.next.new.self) None) (λ e. e ≡ NoMemory → FindsContainer (next_answer (start c.args.body.now))) c.read_object.result
    (λ e told memory. finds) c.read_object.ensures.err

pub returns-in_err-token-clause-memory : goal.returns-in_err-token-clause-memory
returns-in_err-token-clause-memory c =
    let p = err_from_is_err_and c.from_residual-in_err-token.result c.from_residual-in_err-token.ensures.1 in
    let step = subst (λ item. GivesNext c.in_ok-tokens.tokens (Some item) c.next.new.self) c.in_err-token.was c.in-Some.ensures.steps in
    rw p.1 (λ memory. memory_first c.args.body.now c.in_ok-tokens.tokens c.next.new.self c.in_err-token.field-0.0 c.in_ok-tokens.ensures.cursor step.1
    (λ other. let invalid = p.2.1 other in cc (invalid, memory)))
