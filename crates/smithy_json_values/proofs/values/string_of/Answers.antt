use Rattle.std.proofs.Common.{ap, rules, ◌∙◌}
use Rattle.smithy_json_grammar.proofs.LenientTextLemmas.{string_is_quoted}
use Rattle.smithy_json_values.specs.Codec.{held_settings, held_grammar}
use Rattle.smithy_json_values.proofs.StringsOf.{standard_is_read}
use Rattle.smithy_json_values.proofs.values.string_of.Goals as goal

pub returns-in-Some : goal.returns-in-Some
returns-in-Some c = record {
  found = string_is_quoted c.args.input.now c.args.start c.in-Some.string.closing c.in-Some.ensures.found;
  text = search rules;
  valid = ap (held_grammar c.args.settings.now).is_text c.in-Some.ensures.text
      ∙ standard_is_read c.args.input.now c.args.start c.in-Some.string.closing (held_settings c.args.settings.now).enforce_strictness c.in-Some.ensures.found;
  has_escape = search rules;
  none = search rules;
}
