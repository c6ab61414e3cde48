use Rattle.std.proofs.Common.{◌∙◌, arith}
use Rattle.smithy_json_grammar.proofs.LenientTextLemmas.{valid_past_byte}
use Rattle.smithy_json_grammar.proofs.quoted_text.escapes_are_valid.Goals as goal

pub loop-at-preserved-then-bytes-at-ne92 : goal.loop-at-preserved-then-bytes-at-ne92
loop-at-preserved-then-bytes-at-ne92 c = record {
  within = omega (arith, c.loop-at-test.true);
  same = c.loop-at.invariant.same ∙ valid_past_byte c.args.bytes.now c.loop-at.at c.loop-at-test.true c.if-bytes-at-ne92.true;
}
