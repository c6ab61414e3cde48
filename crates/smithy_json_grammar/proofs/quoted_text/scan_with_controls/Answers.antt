use Rattle.std.proofs.Common.{IsUtf8, rules, sym, ap, ◌∙◌, subst}
use Rattle.smithy_json_grammar.specs.StringText.{escapes_are_valid}
use Rattle.smithy_json_grammar.proofs.LenientTextLemmas.{not_utf8, not_valid, is_lenient}
use Rattle.smithy_json_grammar.proofs.quoted_text.scan_with_controls.Goals as goal

pub returns-in_default : goal.returns-in_default
returns-in_default c =
    let here = c.in_ok-quoted.ensures in
    record {
      found = search rules;
      text = search rules;
      valid = search rules;
      has_escape = search rules;
      none = λ closing is. not_utf8 c.args.input.now c.args.at c.in_ok-quoted.quoted.closing here.found closing is
          (λ utf8. c.in_default.ensures.cases.0 (subst IsUtf8 (sym here.bytes) utf8));
    }

pub returns-then-not-escapes_are_valid : goal.returns-then-not-escapes_are_valid
returns-then-not-escapes_are_valid c =
    let here = c.in_ok-quoted.ensures in
    record {
      found = search rules;
      text = search rules;
      valid = search rules;
      has_escape = search rules;
      none = λ closing is. not_valid c.args.input.now c.args.at c.in_ok-quoted.quoted.closing here.found closing is
          (ap escapes_are_valid (sym here.bytes) ∙ (sym c.escapes_are_valid.ensures ∙ c.if-not-escapes_are_valid.true));
    }

pub returns : goal.returns
returns c =
    let text = c.in-Ok.ensures.cases in
    record {
      found = search rules;
      text = search rules;
      valid = is_lenient c.in-Ok.text.now (subst IsUtf8 (sym text.0) text.1)
          (ap escapes_are_valid text.0 ∙ (sym c.escapes_are_valid.ensures ∙ c.if-not-escapes_are_valid.false));
      has_escape = search rules;
      none = search rules;
    }
