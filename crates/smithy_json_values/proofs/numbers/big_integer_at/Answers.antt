use Rattle.std.proofs.Common.{sym, ◌∙◌, ap}
use Rattle.smithy_declarations.specs.declared.shape_type.Scalar.TheVariants as scalars
use Rattle.smithy_json_values.specs.Scalar.{number_text, big_number, number_says}
use Rattle.smithy_json_values.specs.Codec.{held_settings}
use Rattle.smithy_json_values.specs.LexicalGrammar.{grammar_of}
use Rattle.smithy_json_values.proofs.GrammarReads.{one_in_grammar}
use Rattle.smithy_json_values.proofs.NumberTexts.{says_as_text, says_nothing}
use Rattle.smithy_json_values.proofs.numbers.big_integer_at.Goals as goal

pub returns-in_default-clause-found : goal.returns-in_default-clause-found
returns-in_default-clause-found c = says_nothing (grammar_of (held_settings c.args.settings.now)) scalars.BigInteger c.args.input.now c.args.at (rw c.in_default.is at c.in_ok-text.ensures)

pub returns-in-Value-clause-found : goal.returns-in-Value-clause-found
returns-in-Value-clause-found c =
    let number = rw c.in-Some.is at c.in_ok-text.ensures in
    record {
      found = number.found;
      lies = number.lies;
      is = says_as_text scalars.BigInteger number.found _ number.is ∙ ap (big_number scalars.BigInteger) (sym c.as_str.ensures.value) ∙ (rw c.in-Value.is at c.in_ok-number.ensures.answer);
    }

pub returns-in-Nothing-clause-found : goal.returns-in-Nothing-clause-found
returns-in-Nothing-clause-found c =
    let number = rw c.in-Some.is at c.in_ok-text.ensures in
    λ x e lies.
    let same = one_in_grammar (grammar_of (held_settings c.args.settings.now)) scalars.BigInteger c.args.input.now x number.found c.args.at e _ lies number.lies in
    ap (λ y. number_says scalars.BigInteger (number_text y)) same ∙ says_as_text scalars.BigInteger number.found _ number.is
    ∙ ap (big_number scalars.BigInteger) (sym c.as_str.ensures.value) ∙ (rw c.in-Nothing.is at c.in_ok-number.ensures.answer)

pub returns-clause-found : goal.returns-clause-found
returns-clause-found c =
    let number = rw c.in-Some.is at c.in_ok-text.ensures in
    record {
      found = number.found;
      e = c.in-Some.end;
      lies = number.lies;
      is = says_as_text scalars.BigInteger number.found _ number.is ∙ ap (big_number scalars.BigInteger) (sym c.as_str.ensures.value) ∙ (rw c.in-Beyond.is at c.in_ok-number.ensures.answer);
    }
