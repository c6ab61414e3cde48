use Rattle.std.proofs.Common.{ap, ◌∙◌}
use Rattle.smithy_json_values.specs.Codec.{held_grammar}
use Rattle.smithy_json_values.specs.Scalar.{text_of}
use Rattle.smithy_wire.proofs.ScalarReads.{if_ok}
use Rattle.smithy_lint.proofs.JsonNodes.{key_is}
use Rattle.smithy_lint.proofs.json_body.JsonBodyBody.key_text.Goals as goal

pub returns : goal.returns
returns c =
    if_ok c.text_of.result _ _
    (λ text is k stands. ap text_of (key_is (held_grammar c.args.self.now.settings) c.args.self.now.bytes.now c.args.at c.in-Some.string.closing c.in-Some.string.text.now c.in-Some.ensures.found c.in-Some.ensures.text k stands) ∙ is)
    c.text_of.ensures.text
