-- What JSON writes for an instant, and that it is read as the instant.
use Rattle.std.proofs.Common.{◌≡◌, ◌<◌, ◌^◌, ℕ, ℤ, List, [], ◌∷◌, ◌++◌, length, Bool, true, false, Option, Some, None, refl, sym, ◌∙◌, ap, arith, cond, ◌⊎◌, inl, inr, append_assoc, decimal, IsUtf8}
use Rattle.std.specs.Prelude.{◌/◌, ◌%◌, nat_eq, unsigned_abs, is_some, option_map, option_and_then, unwrap_or}
use Rattle.std.specs.Char.{is_ascii_digit, IsAsciiDigit}
use Rattle.std.specs.Fmt.{sign_text}
use Rattle.std.specs.Int.{is_negative}
use Rattle.std.specs.List.{AllByRecursion}
use Rattle.std.specs.Str.{byte, all_ascii_digits}
use Rattle.std.proofs.lemmas.Bool.{and_parts}
use Rattle.std.proofs.lemmas.Bool.Decides.{nat_tests}
use Rattle.std.proofs.lemmas.List.{append-nil}
use Rattle.smithy_instants.specs.Instant.{nanos_per_second, is_instant}
use Rattle.smithy_instants.specs.DateText.{date_of}
use Rattle.smithy_instants.specs.WrittenDate.{fraction_digits, fraction_text, epoch_text, date_text, holds}
use Rattle.smithy_instants.proofs.EpochRoundTrip.{wide_seconds, epoch_text_reads}
use Rattle.smithy_instants.proofs.FractionTexts.{fraction_is}
use Rattle.smithy_instants.proofs.ReadBack.{written_reads}
use Rattle.smithy_declarations.specs.declared.shape_type.TimestampFormat.{TimestampFormat}
use Rattle.smithy_declarations.specs.declared.shape_type.TimestampFormat.TheVariants.{EpochSeconds, DateTime, HttpDate}
use Rattle.smithy_declarations.specs.TimeForms.{format_of, form_holds}
use Rattle.smithy_declarations.specs.Value.{instant, scalar_value}
use Rattle.smithy_shapes.proofs.InstantTexts.{instant_text_is_utf8}
use Rattle.smithy_shapes.proofs.TimeFormLemmas.{held_writes}
use Rattle.smithy_json_grammar.specs.Ascii.{minus_sign}
use Rattle.smithy_json.specs.Escape.{escaped}
use Rattle.smithy_json_grammar.specs.Unescape.{unescaped}
use Rattle.smithy_json_grammar.specs.Grammar.{IsFrac, IsInt, IsNumber, IsValue}
use Rattle.smithy_json.proofs.DecimalLemmas.{decimal_is_int}
use Rattle.smithy_json.proofs.QuotedLemmas.{quoted_is_string, unescaped_of_escaped}
use Rattle.smithy_json_values.specs.Settings.{Settings}
use Rattle.smithy_json_values.specs.Scalar.{JsonScalar, a_number, a_string, tree_of, format_at, seconds_read_as, date_says, timestamp_says}
use Rattle.smithy_json_codec.proofs.WrittenPlaces.{leaf_bytes}
use Rattle.smithy_wire.specs.Rules.{means, answer_of}

-- what is written: a number of seconds, or a string
abbrev pub instant_leaf : TimestampFormat → ℤ → JsonScalar
instant_leaf EpochSeconds n = a_number (epoch_text n)
instant_leaf form n = a_string (escaped (unwrap_or (date_text (format_of form) n) []))

-- ---- numbers of seconds

are_digits : (ds : List ℕ) → all_ascii_digits ds ≡ true → AllByRecursion IsAsciiDigit ds
are_digits [] h = tt
are_digits (d ∷ ds) h =
    let both = and_parts (is_ascii_digit d) (all_ascii_digits ds) h in
    ((grind (arith, nat_tests), grind (arith, nat_tests)), are_digits ds both.1)

-- a fraction is written as one, and none as nothing
fraction_is_frac : (r : ℕ) → r < 10 ^ 9 → IsFrac (fraction_text 9 r)
unfolding fraction_text
fraction_is_frac r small = by (nat_eq r 0) refl
  where
    some : (t : Bool) (first : ℕ) (ds : List ℕ) → t ≡ false → 0 < length (cond t [] (first ∷ ds))
    some true first ds h = cc
    some false first ds h = omega arith

    by : (t : Bool) → nat_eq r 0 ≡ t → IsFrac (cond t [] (byte "." ∷ fraction_digits 9 r))
    by true e = tt
    by false e = (refl, (some (nat_eq r 0) _ _ e, are_digits (fraction_digits 9 r) (fraction_is 9 r small).digits))

-- a number of a sign, an int and a fraction
number_of : (minus int frac : List ℕ) → (minus ≡ []) ⊎ (minus ≡ minus_sign ∷ []) → IsInt int → IsFrac frac → IsNumber ((minus ++ int) ++ frac)
number_of minus int frac is_minus is_int is_frac = record {
  minus = minus;
  int = int;
  frac = frac;
  exp = [];
  parts = append_assoc minus int frac ∙ ap (λ t. minus ++ (int ++ t)) (sym (append-nil frac));
  is_minus = is_minus;
  is_int = is_int;
  is_frac = is_frac;
  is_exp = tt;
}

sign_is_minus : (b : Bool) → (sign_text b ≡ []) ⊎ (sign_text b ≡ minus_sign ∷ [])
sign_is_minus true = inr refl
sign_is_minus false = inl refl

seconds_are_number : (n : ℤ) → is_instant n ≡ true → IsNumber (epoch_text n)
seconds_are_number n h =
    number_of (sign_text (is_negative n)) (decimal (unsigned_abs n / nanos_per_second)) (fraction_text 9 (unsigned_abs n % nanos_per_second))
    (sign_is_minus (is_negative n)) (decimal_is_int (unsigned_abs n / nanos_per_second) (wide_seconds n h)) (fraction_is_frac (unsigned_abs n % nanos_per_second) (omega arith))

-- ---- dates

-- the text of an instant that a form holds
record IsDate (form : TimestampFormat) (n : ℤ) (t : List ℕ) : Type 0 where
  written : date_text (format_of form) n ≡ Some t
  utf8 : IsUtf8 t
  reads : date_of (format_of form) t ≡ Some n

the_text : (o : Option (List ℕ)) → is_some o ≡ true → o ≡ Some (unwrap_or o [])
the_text None h = cc
the_text (Some t) h = refl

date_of_held : (form : TimestampFormat) (n : ℤ) → is_instant n ≡ true → holds (format_of form) n ≡ true → IsDate form n (unwrap_or (date_text (format_of form) n) [])
date_of_held form n is held =
    let t = unwrap_or (date_text (format_of form) n) [] in
    let written : date_text (format_of form) n ≡ Some t = the_text (date_text (format_of form) n) (held_writes form (instant n) held) in
    record {
      written = written;
      utf8 = instant_text_is_utf8 form n t is written;
      reads = written_reads (format_of form) n t is held written;
    }

date_means : (form : TimestampFormat) (n : ℤ) (t : List ℕ) → IsDate form n t → date_says (Some (format_of form)) (unescaped (escaped t)) ≡ means (scalar_value (instant n))
date_means form n t date =
    ap (λ o. answer_of (option_map (λ n. scalar_value (instant n)) (option_and_then (date_of (format_of form)) o))) (unescaped_of_escaped t)
    ∙ ap (λ o. answer_of (option_map (λ n. scalar_value (instant n)) o)) date.reads

-- ---- in any form

-- what is written in the form of a place is read there, where forms are strict
pub instant_means : (c : Settings) (time : Option TimestampFormat) (form : TimestampFormat) → c.strict_timestamp_formats ≡ true → format_at c time ≡ format_of form
    → (n : ℤ) → is_instant n ≡ true → form_holds form (instant n) ≡ true → timestamp_says c time (instant_leaf form n) ≡ means (scalar_value (instant n))
instant_means c time EpochSeconds strict same n is held = rw (strict, same) (ap seconds_read_as (epoch_text_reads n is) ∙ rw is refl)
instant_means c time DateTime strict same n is held = rw (strict, same) (date_means DateTime n _ (date_of_held DateTime n is held))
instant_means c time HttpDate strict same n is held = rw (strict, same) (date_means HttpDate n _ (date_of_held HttpDate n is held))

pub instant_is_value : (form : TimestampFormat) (n : ℤ) → is_instant n ≡ true → form_holds form (instant n) ≡ true → IsValue (tree_of (instant_leaf form n)) (leaf_bytes (instant_leaf form n))
instant_is_value EpochSeconds n is held = (refl, seconds_are_number n is)
instant_is_value DateTime n is held = quoted_is_string _ (date_of_held DateTime n is held).utf8
instant_is_value HttpDate n is held = quoted_is_string _ (date_of_held HttpDate n is held).utf8
