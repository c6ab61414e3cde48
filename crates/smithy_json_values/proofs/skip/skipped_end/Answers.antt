use Rattle.std.proofs.Common.{rules}
use Rattle.smithy_json_values.specs.LexicalGrammar.{is_skipped_in}
use Rattle.smithy_json_values.specs.Codec.{held_grammar}
use Rattle.smithy_json_values.proofs.SkipSteps.{scalar_ahead, scalar_skips}
use Rattle.smithy_json_values.proofs.skip.skipped_end.Goals as goal

pub returns-in-Some-Scalar : goal.returns-in-Some-Scalar
returns-in-Some-Scalar c =
    let scalar = rw c.in-Some-Scalar.field-0-is at c.in-Some-Scalar.ensures in
    record {
      ok = scalar_skips (held_grammar c.args.input.settings) c.args.input.settings.max_depth c.args.depth c.args.input.bytes.now c.args.at c.in-Some-Scalar.end scalar c.requires.shallow;
      ahead = scalar_ahead (held_grammar c.args.input.settings) (is_skipped_in (held_grammar c.args.input.settings)) c.args.input.bytes.now c.args.at c.in-Some-Scalar.end scalar;
      refused = search rules;
      none_without_limits = search rules;
      deep = search rules;
      too_deep = search rules;
    }
