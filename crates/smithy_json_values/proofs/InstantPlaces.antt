-- What lies at a place as an instant, whatever the grammar and the settings.
use Rattle.std.proofs.Common.{◌≡◌, ℕ, ℤ, List, true, false, Option, Some, None, refl, ◌∙◌, ap}
use Rattle.std.specs.Prelude.{option_map, if◌then◌else◌}
use Rattle.smithy_instants.specs.declared.format.Format.{Format}
use Rattle.smithy_instants.specs.DateText.{date_of}
use Rattle.smithy_instants.specs.Epoch.{epoch_nanos}
use Rattle.smithy_json_grammar.specs.Unescape.{unescaped}
use Rattle.smithy_declarations.specs.declared.shape_type.Scalar.TheVariants as scalars
use Rattle.smithy_declarations.specs.declared.shape_type.TimestampFormat.{TimestampFormat}
use Rattle.smithy_declarations.specs.Value.{instant, scalar_value}
use Rattle.smithy_wire.specs.Rules.{no_meaning, answer_of}
use Rattle.smithy_json_values.specs.Settings.{Settings}
use Rattle.smithy_json_values.specs.Scalar.{a_boolean, a_number, a_string, takes_seconds, string_form, seconds_read_as, date_says, timestamp_says}
use Rattle.smithy_json_values.specs.LexicalGrammar.{LexicalGrammar, LiesInGrammar}
use Rattle.smithy_json_values.specs.Private.InstantAtPlace.{NoSecondsLie, NoDateLies}
use Rattle.smithy_json_values.specs.Private.ScalarAtPlace.{InstantLies, NoInstantLies}

-- a text that is no date is none
no_date_says : (form : Format) (text : List ℕ) → date_of form text ≡ None → date_says (Some form) (Some text) ≡ no_meaning
no_date_says form text none = ap (λ o. answer_of (option_map (λ n. scalar_value (instant n)) o)) none

no_date : (o : Option Format) → date_says o None ≡ no_meaning
no_date None = refl
no_date (Some form) = refl

-- where a number may stand for an instant, it is so many seconds
pub taken : (c : Settings) (time : Option TimestampFormat) (raw : List ℕ) → takes_seconds c time ≡ true → timestamp_says c time (a_number raw) ≡ seconds_read_as (epoch_nanos raw)
taken c time raw takes = ap (λ b. if b then seconds_read_as (epoch_nanos raw) else no_meaning) takes

module _ (g : LexicalGrammar) (c : Settings) (time : Option TimestampFormat) (i : List ℕ) (a : ℕ) where
  pub no_instant_lies : NoSecondsLie g c time i a → NoDateLies g c time i a → NoInstantLies g c time i a
  no_instant_lies seconds dates (a_boolean b) e lies = no_date (string_form c time)
  no_instant_lies seconds dates (a_number raw) e lies = seconds raw e lies
  no_instant_lies seconds dates (a_string raw) e lies = dates raw e lies

  -- where numbers don't stand for instants, none does
  pub not_taken : takes_seconds c time ≡ false → NoSecondsLie g c time i a
  not_taken none raw e lies = ap (λ b. if b then seconds_read_as (epoch_nanos raw) else no_meaning) none

  -- and no string where strings don't
  pub no_strings : string_form c time ≡ None → NoDateLies g c time i a
  no_strings none raw e lies = ap (λ form. date_says form (unescaped raw)) none

  -- a string of a date is its instant
  pub date_lies : (form : Format) → string_form c time ≡ Some form → (e : ℕ) (raw text : List ℕ) (n : ℤ) → LiesInGrammar g scalars.Timestamp (a_string raw) i a e → unescaped raw ≡ Some text
      → date_of form text ≡ Some n → InstantLies g c time i a n e
  date_lies form there e raw text n lies unescapes is = record {
    found = a_string raw;
    lies = lies;
    is = ap (λ form. date_says form (unescaped raw)) there
        ∙ ap (date_says (Some form)) unescapes
        ∙ ap (λ o. answer_of (option_map (λ n. scalar_value (instant n)) o)) is;
  }

  -- where each string has no text or one that is no date, none is
  pub no_date_lies : (form : Format) → string_form c time ≡ Some form
      → ((raw : List ℕ) (e : ℕ) → LiesInGrammar g scalars.Timestamp (a_string raw) i a e → (text : List ℕ) → unescaped raw ≡ Some text → date_of form text ≡ None) → NoDateLies g c time i a
  no_date_lies form there none raw e lies = ap (λ form. date_says form (unescaped raw)) there ∙ of_text (unescaped raw) refl
    where
      of_text : (o : Option (List ℕ)) → unescaped raw ≡ o → date_says (Some form) o ≡ no_meaning
      of_text None is = refl
      of_text (Some text) is = no_date_says form text (none raw e lies text is)
