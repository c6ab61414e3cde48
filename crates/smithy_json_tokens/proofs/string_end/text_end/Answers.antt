use Rattle.std.proofs.Common.{arith}
use Rattle.smithy_json_tokens.proofs.ScanLemmas.{text_length-run}
use Rattle.smithy_json_tokens.proofs.ScalarScans.{eq_false}
use Rattle.smithy_json_tokens.proofs.BlockLemmas.{ends_at}
use Rattle.smithy_json_tokens.proofs.string_end.text_end.Goals as goal

pub returns-then-first-input-clause-value : goal.returns-then-first-input-clause-value
returns-then-first-input-clause-value c =
    let stop = c.stop-first.ensures.value in
    let none = ends_at c.args.input.now c.args.at _ stop (λ some. absurd (omega (arith, some, c.if-first-input.true))) in
    omega (arith, text_length-run c.args.input.now c.args.at _ stop, none)

pub returns-then-input-first-ne92-clause-value : goal.returns-then-input-first-ne92-clause-value
returns-then-input-first-ne92-clause-value c =
    let stop = c.stop-first.ensures.value in
    let none = ends_at c.args.input.now c.args.at _ stop (λ some. eq_false _ _ c.if-input-first-ne92.true) in
    omega (arith, text_length-run c.args.input.now c.args.at _ stop, none)

pub returns-clause-value : goal.returns-clause-value
returns-clause-value c = omega (arith, text_length-run c.args.input.now c.args.at _ c.stop-first.ensures.value, c.text_end_by_blocks.ensures.value)
