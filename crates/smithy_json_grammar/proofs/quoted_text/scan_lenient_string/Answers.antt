use Rattle.std.proofs.Common.{ap, rules, ◌∙◌}
use Rattle.smithy_json_grammar.specs.StringText.{is_lenient_text}
use Rattle.smithy_json_grammar.proofs.LenientTextLemmas.{string_is_quoted, string_is_lenient}
use Rattle.smithy_json_grammar.proofs.quoted_text.scan_lenient_string.Goals as goal

pub returns-in-Some : goal.returns-in-Some
returns-in-Some c = record {
  found = string_is_quoted c.args.input.now c.args.at c.in-Some.string.closing c.in-Some.ensures.found;
  text = search rules;
  valid = ap is_lenient_text c.in-Some.ensures.text ∙ string_is_lenient c.args.input.now c.args.at c.in-Some.string.closing c.in-Some.ensures.found;
  has_escape = search rules;
  none = search rules;
}
