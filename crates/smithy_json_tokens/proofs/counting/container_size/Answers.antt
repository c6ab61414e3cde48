use Rattle.std.proofs.Common.{sym, subst, Some}
use Rattle.smithy_json_tokens.specs.TokenView.{token_view}
use Rattle.smithy_json_tokens.specs.IteratorView.{cursor_of, GivesNext}
use Rattle.smithy_json_tokens.specs.ContainerSize.{values_inside, Tells, HasSize}
use Rattle.smithy_json_tokens.proofs.CountedValues.{told_through, begun}
use Rattle.smithy_json_tokens.proofs.FirstFaults.{memory_first, begins_found, where_err, through_err}
use Rattle.smithy_json_tokens.proofs.counting.container_size.Goals as goal

pub returns-in-Begins : goal.returns-in-Begins
returns-in-Begins c =
    let step = subst (λ item. GivesNext c.new-tokens.result (Some item) c.next.new.self) c.in-Some-Ok.field-0-is c.in-Some-Ok.ensures.steps in
    record {
      size = told_through (Tells (values_inside 0) (cursor_of c.next.new.self)) (HasSize c.args.input.now) c.values_inside.result
          (begun c.args.input.now (cursor_of c.new-tokens.result) (cursor_of c.next.new.self) (token_view c.in-Some-Ok.token) _ c.new-tokens.ensures.cursor step.1.0 (sym c.in-Begins.ensures)) c.values_inside.ensures;
      memory = where_err c.values_inside.result (begins_found c.args.input.now _ (cursor_of c.new-tokens.result) (cursor_of c.next.new.self) (token_view c.in-Some-Ok.token) c.new-tokens.ensures.cursor step.1.0 (sym c.in-Begins.ensures));
    }

pub returns-in-Some-Err-clause-memory : goal.returns-in-Some-Err-clause-memory
returns-in-Some-Err-clause-memory c =
    let step = subst (λ item. GivesNext c.new-tokens.result (Some item) c.next.new.self) c.in-Some-Err.field-0-is c.in-Some-Err.ensures.steps in
    through_err c.uncounted.result (λ is. memory_first c.args.input.now c.new-tokens.result c.next.new.self c.in-Some-Err.error c.new-tokens.ensures.cursor step.1 (λ other. other is)) c.uncounted.ensures.memory
