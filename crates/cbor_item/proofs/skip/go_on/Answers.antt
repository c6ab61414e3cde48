-- What is due ends, or one more part of it is skipped.
use Rattle.std.proofs.Common.{◌∷◌, drop, ap, ◌∙◌}
use Rattle.std.proofs.lemmas.Result.{err_from_is_err_and}
use Rattle.cbor_item.specs.Private.Skip.{stack_of}
use Rattle.cbor_item.proofs.Passing.{step_to}
use Rattle.cbor_item.proofs.SkipLemmas.{stack_push}
use Rattle.cbor_item.proofs.SkipSteps.{step_through, chunk_then, chunk_fails}
use Rattle.cbor_item.proofs.skip.go_on.Goals as goal

pub returns-in-Ended-clause-step : goal.returns-in-Ended-clause-step
returns-in-Ended-clause-step c =
    let next = c.in-Ended.ensures.next (stack_of c.args.due.now.items) in
    (c.in-Ended.ensures.within.1, step_to (c.args.innermost ∷ stack_of c.args.due.now.items) (drop c.args.at c.args.input.now) _ next)

pub returns-in-Item-clause-step : goal.returns-in-Item-clause-step
returns-in-Item-clause-step c =
    let next = c.in-Item.ensures.next (stack_of c.args.due.now.items) in
    step_through _ _ c.skip_item_then.new.due.items c.args.input.now c.skip_item_then.result
    (step_to (c.args.innermost ∷ stack_of c.args.due.now.items) (drop c.args.at c.args.input.now) _ next) c.skip_item_then.ensures.step

pub returns-in_ok-read_chunk-in-Chunk-clause-step : goal.returns-in_ok-read_chunk-in-Chunk-clause-step
returns-in_ok-read_chunk-in-Chunk-clause-step c =
    let due = stack_of c.args.due.now.items in
    chunk_then c.in-Chunk.major c.args.innermost due c.push.new.self.items c.args.input.now c.args.at c.in_ok-read_chunk-in-Chunk.field-0
    (c.in-Chunk.ensures.next due)
    (ap stack_of c.in_ok-push-in-Chunk.ensures.items ∙ stack_push c.args.due.now.items c.args.innermost)
    c.in_ok-read_chunk-in-Chunk.ensures

pub returns-in_err-read_chunk-in-Chunk-clause-step : goal.returns-in_err-read_chunk-in-Chunk-clause-step
returns-in_err-read_chunk-in-Chunk-clause-step c =
    let r = c.from_residual-in_err-read_chunk-in-Chunk in
    let p = err_from_is_err_and r.result r.ensures.1 in
    let due = stack_of c.args.due.now.items in
    rw (p.1, p.2)
    (chunk_fails c.in-Chunk.major c.args.innermost due c.push.new.self.items c.args.input.now c.args.at c.in_err-read_chunk-in-Chunk.field-0.0
    (c.in-Chunk.ensures.next due) c.in_err-read_chunk-in-Chunk.ensures)
