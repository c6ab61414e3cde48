use Rattle.std.proofs.Common.{◌+◌, rules, slice_range}
use Rattle.std.proofs.lemmas.Bool.{false_from_ne_true}
use Rattle.smithy_json_values.specs.Codec.{held_settings, held_grammar}
use Rattle.smithy_json_values.proofs.StringsOf.{read_is_standard, lenient_is_read}
use Rattle.smithy_json_values.proofs.values.other_string.Goals as goal

pub returns-then-settings : goal.returns-then-settings
returns-then-settings c = record {
  found = search rules;
  text = search rules;
  valid = search rules;
  has_escape = search rules;
  none = λ closing here. false_from_ne_true ((held_grammar c.args.settings.now).is_text (slice_range c.args.input.now (c.args.start + 1) closing)) (λ reads.
      c.requires.other closing (read_is_standard c.args.input.now c.args.start closing (held_settings c.args.settings.now).enforce_strictness c.if-settings.true here reads));
}

pub returns-else-settings : goal.returns-else-settings
returns-else-settings c =
    lenient_is_read (held_settings c.args.settings.now).enforce_strictness c.if-settings.false c.args.input.now c.args.start c.scan_lenient_string.result c.scan_lenient_string.ensures
