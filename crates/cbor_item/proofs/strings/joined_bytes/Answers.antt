-- One more chunk at each turn, and a break at the end.
use Rattle.std.proofs.Common.{◌++◌, ◌∷◌, [], ◌∙◌, sym, ap, arith}
use Rattle.std.specs.Prelude.{slice_range}
use Rattle.std.proofs.lemmas.Result.{err_from_is_err_and}
use Rattle.cbor_item.proofs.JoinLemmas.{more_chunk, concat_more, closed, join_fault}
use Rattle.cbor_item.proofs.strings.joined_bytes.Goals as goal

pub returns-in_err-chunk-clause-fault : goal.returns-in_err-chunk-clause-fault
returns-in_err-chunk-clause-fault c =
    let p = err_from_is_err_and c.from_residual.result c.from_residual.ensures.1 in
    let passed = c.chunks.invariant in
    rw (p.1, p.2) (join_fault 2 passed.0 c.args.input.now c.args.at c.chunks.end c.in_err-chunk.field-0.0 (omega arith) passed.1 c.chunks-test.ensures c.in_err-chunk.ensures)

pub chunks-preserved : goal.chunks-preserved
chunks-preserved c =
    let passed = c.chunks.invariant in
    let chunk = c.in_ok-chunk.chunk in (
      passed.0 ++ slice_range c.args.input.now chunk.start chunk.end ∷ [],
      more_chunk 2 passed.0 c.args.input.now c.args.at c.chunks.end chunk passed.1 c.in_ok-chunk.ensures,
      c.in_ok-extend_from_slice.ensures.items ∙ ap (λ l. l ++ slice_range c.args.input.now chunk.start chunk.end) passed.2 ∙ sym (concat_more passed.0 (slice_range c.args.input.now chunk.start chunk.end)),
    )

pub returns-clause-joined : goal.returns-clause-joined
returns-clause-joined c =
    let passed = c.chunks.invariant in
    (passed.0, closed 2 passed.0 c.args.input.now c.args.at c.chunks.end passed.1 c.chunks-test.ensures, passed.2)
