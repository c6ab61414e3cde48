-- One head is read, and what it opens becomes due.
use Rattle.std.proofs.Common.{arith, subst, drop, ◌+◌, ℕ}
use Rattle.std.proofs.lemmas.Result.{err_from_is_err_and, IfOk-weaker}
use Rattle.cbor_item.specs.HeadView.{head_read}
use Rattle.cbor_item.specs.Private.Skip.{after_head, stack_of, IsStepAnswer}
use Rattle.cbor_item.proofs.HeadLemmas.{head_is_some}
use Rattle.cbor_item.proofs.SkipSteps.{step_through, past_read_head, head_fault}
use Rattle.cbor_item.proofs.skip.skip_head.Goals as goal

pub returns-in_err-head-clause-step : goal.returns-in_err-head-clause-step
returns-in_err-head-clause-step c =
    let p = err_from_is_err_and c.from_residual.result c.from_residual.ensures.1 in
    let e = c.in_err-head.ensures in
    rw (p.1, p.2) (head_fault (stack_of c.args.due.now.items) c.args.due.now.items (drop c.args.at c.args.input.now) c.args.input.now c.in_err-head.field-0.0 e.truncated e.not_well_formed e.no_other_error)

pub returns-clause-step : goal.returns-clause-step
returns-clause-step c =
    let here = past_read_head (head_read c.in_ok-head.head) (stack_of c.args.due.now.items) c.args.input.now c.args.at c.in_ok-head.ensures.found in
    let P : ℕ → Type 0 = λ n. IsStepAnswer (after_head c.in_ok-head.head.major c.in_ok-head.head.argument (stack_of c.args.due.now.items) (drop (c.args.at + n) c.args.input.now)) c.open_item.new.due.items c.args.input.now c.open_item.result in
    step_through _ _ c.open_item.new.due.items c.args.input.now c.open_item.result here (subst P c.from.ensures c.open_item.ensures.step)

pub returns-clause-smaller : goal.returns-clause-smaller
returns-clause-smaller c =
    let some = head_is_some (drop c.args.at c.args.input.now) (head_read c.in_ok-head.head) c.in_ok-head.ensures.found in
    IfOk-weaker c.open_item.result _ _ (λ end (past, size). (omega arith, size)) c.open_item.ensures.smaller
