use Rattle.std.proofs.Common.{◌∙◌}
use Rattle.smithy_json_values.specs.Codec.{held_grammar}
use Rattle.smithy_lint.proofs.JsonNodes.{skips_by}
use Rattle.smithy_lint.proofs.json_body.JsonBodyBody.may_skip.Goals as goal

pub returns : goal.returns
returns c =
    let ends = c.skipped_end.ensures in
    λ x e v. c.is_ok.ensures.value ∙ skips_by (held_grammar c.args.self.now.settings) c.args.self.now.bytes.now c.args.depth c.args.at c.args.self.now.settings.max_depth c.skipped_end.result ends.ok ends.refused x e v
