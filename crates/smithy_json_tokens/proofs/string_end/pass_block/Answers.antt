use Rattle.std.proofs.Common.{◌≡◌, ◌∙◌, ◌+◌, ◌-◌, ◌/◌, ◌^◌, sym, ap, arith, map, drop, true, false}
use Rattle.std.specs.Simd.Lanes.{mask_l, chunk}
use Rattle.smithy_json_grammar.specs.Private.Chars.{ends_run}
use Rattle.smithy_json_tokens.specs.TokenRules.{text_length}
use Rattle.smithy_json_tokens.proofs.ScanLemmas.{text_length-run, text_length-taken}
use Rattle.smithy_json_tokens.proofs.ScalarScans.{eq_false}
use Rattle.smithy_json_tokens.proofs.BlockLemmas.{rest_mask, ends_at, passes, ends_alone}
use Rattle.smithy_json_tokens.proofs.string_end.pass_block.Goals as goal

pub returns-then-stop-input-clause-same_text : goal.returns-then-stop-input-clause-same_text
returns-then-stop-input-clause-same_text c = c.loop-rest.invariant.same_text ∙ text_length-run c.args.input.now c.loop-rest.end _ c.plain_stop-stop.ensures.value

pub returns-then-stop-input-clause-ends : goal.returns-then-stop-input-clause-ends
returns-then-stop-input-clause-ends c = λ _. ends_at c.args.input.now c.loop-rest.end _ c.plain_stop-stop.ensures.value (λ some. absurd (omega (arith, some, c.if-stop-input.true)))

pub returns-then-input-stop-ne92-clause-same_text : goal.returns-then-input-stop-ne92-clause-same_text
returns-then-input-stop-ne92-clause-same_text c = c.loop-rest.invariant.same_text ∙ text_length-run c.args.input.now c.loop-rest.end _ c.plain_stop-stop.ensures.value

pub returns-then-input-stop-ne92-clause-ends : goal.returns-then-input-stop-ne92-clause-ends
returns-then-input-stop-ne92-clause-ends c = λ _. ends_at c.args.input.now c.loop-rest.end _ c.plain_stop-stop.ensures.value (λ some. eq_false _ _ c.if-input-stop-ne92.true)

pub returns-then-input-stop-lt2-clause-same_text : goal.returns-then-input-stop-lt2-clause-same_text
returns-then-input-stop-lt2-clause-same_text c =
    let input = c.args.input.now in
    let stop = c.plain_stop-stop in
    c.loop-rest.invariant.same_text ∙ text_length-run input c.loop-rest.end _ stop.ensures.value
    ∙ ends_alone input stop.result (omega (arith, stop.ensures.bound, c.if-stop-input.false)) (omega (arith, c.if-input-stop-lt2.true)) c.if-input-stop-ne92.false

pub returns-then-next-behind-clause-same_text : goal.returns-then-next-behind-clause-same_text
returns-then-next-behind-clause-same_text c =
    let input = c.args.input.now in
    let stop = c.plain_stop-stop in
    c.loop-rest.invariant.same_text ∙ text_length-run input c.loop-rest.end _ stop.ensures.value
    ∙ text_length-taken input stop.result (omega (arith, stop.ensures.bound, c.if-stop-input.false)) (omega (arith, c.if-input-stop-lt2.false)) c.if-input-stop-ne92.false

pub loop-rest-preserved : goal.loop-rest-preserved
loop-rest-preserved c =
    let input = c.args.input.now in
    let stop = c.plain_stop-stop in
    let end = c.loop-rest.end in
    let behind = c.args.at + 16 in
    let next = stop.result + 2 in
    let place = c.loop-rest.invariant.ordered in
    let more : end + (next - end) ≡ next = omega (arith, stop.ensures.value) in
    let left : behind - end - (next - end) ≡ behind - next = omega (arith, stop.ensures.value, c.if-next-behind.false) in
    let short = rest_mask input end (behind - end) (next - end) (omega (arith, stop.ensures.value, c.if-next-behind.false)) in
    record {
      ordered = omega (arith, stop.ensures.value, place);
      inside = omega (arith, c.if-next-behind.false);
      behind_is = omega arith;
      same_text = c.loop-rest.invariant.same_text ∙ text_length-run input end _ stop.ensures.value
          ∙ text_length-taken input stop.result (omega (arith, stop.ensures.bound, c.if-stop-input.false)) (omega (arith, c.if-input-stop-lt2.false)) c.if-input-stop-ne92.false;
      mask = c.without_lowest-rest.ensures ∙ ap (λ m. m / 2 ^ (next - end)) c.loop-rest.invariant.mask ∙ short ∙ ap (λ k. mask_l (map (ends_run true false) (chunk k (behind - end - (next - end)) input))) more ∙ ap (λ k. mask_l (map (ends_run true false) (chunk next k input))) left;
    }

pub returns-clause-same_text : goal.returns-clause-same_text
returns-clause-same_text c =
    let input = c.args.input.now in
    let end = c.loop-rest.end in
    let behind = c.args.at + 16 in
    let whole : end + (behind - end) ≡ behind = omega (arith, c.loop-rest.invariant.inside, c.loop-rest.invariant.behind_is) in
    let none = passes input end (behind - end) (omega (arith, whole, c.requires.block)) (sym c.loop-rest.invariant.mask ∙ omega (arith, c.loop-rest-test.false)) in
    c.loop-rest.invariant.same_text ∙ none ∙ ap (λ k. k + text_length (drop k input)) whole
