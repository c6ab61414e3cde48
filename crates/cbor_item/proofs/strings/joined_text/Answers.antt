-- One more chunk at each turn, and a break at the end.
use Rattle.std.proofs.Common.{◌++◌, ◌∷◌, [], ◌∙◌, sym, ap, arith, ◌+◌}
use Rattle.std.specs.Prelude.{slice_range, IsTrue}
use Rattle.std.proofs.lemmas.Result.{err_from_is_err_and}
use Rattle.cbor_item.proofs.JoinLemmas.{more_chunk, concat_more, closed, join_fault, text_join, all_more, all_but_one}
use Rattle.cbor_item.proofs.strings.joined_text.Goals as goal

pub returns-in_err-chunk-clause-fault : goal.returns-in_err-chunk-clause-fault
returns-in_err-chunk-clause-fault c =
    let p = err_from_is_err_and c.from_residual.result c.from_residual.ensures.1 in
    let passed = c.chunks.invariant in
    rw (p.1, p.2)
    (text_join c.args.input.now c.args.at c.in_err-chunk.field-0.0
    (join_fault 3 passed.0 c.args.input.now c.args.at c.chunks.end c.in_err-chunk.field-0.0 (omega arith) passed.1 c.chunks-test.ensures c.in_err-chunk.ensures))

pub chunks-preserved : goal.chunks-preserved
chunks-preserved c =
    let passed = c.chunks.invariant in
    let chunk = c.in_ok-chunk.chunk in
    let bytes = slice_range c.args.input.now chunk.start chunk.end in
    let still = c.in_ok-is_utf8.ensures.still in (
      passed.0 ++ bytes ∷ [],
      more_chunk 3 passed.0 c.args.input.now c.args.at c.chunks.end chunk passed.1 c.in_ok-chunk.ensures,
      (
        λ yes. all_more passed.0 bytes (passed.2.0 (still.0 yes).0) (still.0 yes).1,
        λ all. let parts = all_but_one passed.0 bytes all in still.1 (passed.2.1 parts.0, parts.1),
      ),
      λ yes. c.in_ok-is_utf8.ensures.added yes ∙ ap (λ l. l ++ bytes) (passed.3 (still.0 yes).0) ∙ sym (concat_more passed.0 bytes),
    )

pub returns-then-not-is_utf8-clause-fault : goal.returns-then-not-is_utf8-clause-fault
returns-then-not-is_utf8-clause-fault c =
    let passed = c.chunks.invariant in (
      passed.0,
      c.chunks.end + 1,
      closed 3 passed.0 c.args.input.now c.args.at c.chunks.end passed.1 c.chunks-test.ensures,
      λ all. let yes = passed.2.1 all in let no = c.if-not-is_utf8.true in cc,
    )

pub returns-clause-joined : goal.returns-clause-joined
returns-clause-joined c =
    let passed = c.chunks.invariant in
    let yes : IsTrue c.chunks.is_utf8 = c.if-not-is_utf8.false in
    (passed.0, closed 3 passed.0 c.args.input.now c.args.at c.chunks.end passed.1 c.chunks-test.ensures, passed.3 yes, passed.2.0 yes)
