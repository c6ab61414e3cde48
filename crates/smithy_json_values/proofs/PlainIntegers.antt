-- A whole number of RFC 8259 that has 64 bits stands for itself under all settings.
use Rattle.std.specs.Prelude.{◌&&◌, ◌||◌, ◌++◌, if◌then◌else◌, option_and_then, nat_lt}
use Rattle.std.proofs.Common.{◌≡◌, ◌==◌, ◌+◌, ◌*◌, ◌^◌, ◌≤◌, ℕ, ℤ, pos, neg_ℤ, ◌-ℤ◌, List, [], ◌∷◌, length, take, drop, slice_range, Bool, true, false, Some, None, option_map, refl, sym, ap, ◌∙◌, arith, inl}
use Rattle.std.proofs.lemmas.Bool.Decides.{nat_tests}
use Rattle.std.proofs.Math.Seq.{take-length}
use Rattle.std.proofs.Math.ListN.{drop_of_length-le}
use Rattle.std.specs.List.{position_or_len, before_first, after_first}
use Rattle.std.specs.Char.{is_ascii_digit}
use Rattle.std.specs.Str.{byte, all_ascii_digits}
use Rattle.std.specs.Str.Parse.{digits_value}
use Rattle.smithy_texts.specs.Decimal.{is_point, is_exponent_mark, is_exponent_part, coefficient, is_decimal, written_exponent, net_exponent}
use Rattle.smithy_texts.specs.Numeral.{are_digits, begins_with, without_sign, magnitude, number, signed}
use Rattle.smithy_texts.specs.Ranges.{fits_signed}
use Rattle.smithy_texts.proofs.WrittenNumerals.{IsWrittenNumber, coefficient_digits, filter_digits, mark_is_no_digit, no_fraction, no_sign, none_in_digits, point_is_no_digit}
use Rattle.smithy_instants.specs.Epoch.{scaled}
use Rattle.smithy_shapes.specs.Lemmas.Options.{chosen, made, same_some}
use Rattle.smithy_json_grammar.specs.Ascii.{minus_sign}
use Rattle.smithy_json_grammar.specs.Grammar.{IsNumber}
use Rattle.smithy_json_grammar.specs.Number.{natural_number, whole_number, signed_number, long_number, integral_number}
use Rattle.smithy_json_grammar.specs.NumberGrammar.{IsNumberOf}
use Rattle.smithy_json_grammar.specs.NumberText.{is_number_of}
use Rattle.smithy_json_grammar.specs.Standing.{IsLongAt}
use Rattle.smithy_json_grammar.specs.declared.number_grammar.NumberGrammar.{NumberGrammar}
use Rattle.smithy_json_values.specs.LexicalGrammar.{number_test, is_lenient_decimal}
use Rattle.smithy_json_values.specs.Settings.{Settings}
use Rattle.smithy_json_values.specs.Tokens.{BoundaryBy}
use Rattle.smithy_json_values.specs.TypeMismatch.{begins_as_number}
use Rattle.smithy_json_values.specs.Private.NumberAtPlace.{NumberStands, IntegerStands}
use Rattle.smithy_json_values.proofs.IntegerReads.{whole_is_signed}
use Rattle.smithy_json_values.proofs.NumberRuns.{grammar_stands}

-- ---- the text

-- digits write their number
digits_write : (ds : List ℕ) → nat_lt 0 (length ds) ≡ true → all_ascii_digits ds ≡ true → IsWrittenNumber ds (pos (digits_value 10 ds))
digits_write ds some digits =
    let none = no_sign ds digits in
    let are : are_digits ds ≡ true = ap (λ t. t && all_ascii_digits ds) some ∙ digits in
    record {
      value = ap (λ t. signed t (magnitude ds)) none.begins ∙ ap (λ s. pos (digits_value 10 s)) (filter_digits ds digits);
      after_minus = ap are_digits none.minus ∙ are;
      after_sign = ap are_digits none.sign ∙ are;
      no_point = none_in_digits is_point point_is_no_digit ds digits;
      no_mark = none_in_digits is_exponent_mark mark_is_no_digit ds digits;
      no_point_after_sign = ap (λ t. position_or_len is_point t) none.sign ∙ none_in_digits is_point point_is_no_digit ds digits ∙ ap length (sym none.sign);
    }

-- and behind a minus its negative
minus_writes : (ds : List ℕ) → nat_lt 0 (length ds) ≡ true → all_ascii_digits ds ≡ true → IsWrittenNumber (minus_sign ∷ ds) (neg_ℤ (pos (digits_value 10 ds)))
minus_writes ds some digits =
    let are : are_digits ds ≡ true = ap (λ t. t && all_ascii_digits ds) some ∙ digits in
    let point = none_in_digits is_point point_is_no_digit ds digits in
    let mark = none_in_digits is_exponent_mark mark_is_no_digit ds digits in
    record {
      value = ap (λ s. neg_ℤ (pos (digits_value 10 s))) (filter_digits ds digits);
      after_minus = are;
      after_sign = are;
      no_point = omega arith;
      no_mark = omega arith;
      no_point_after_sign = point;
    }

natural_writes : (ds : List ℕ) (v : ℕ) → natural_number ds ≡ Some v → (nat_lt 0 (length ds) ≡ true) × (all_ascii_digits ds ≡ true) × (digits_value 10 ds ≡ v)
natural_writes [] v h = cc
natural_writes (d ∷ ds) v h =
    let some : nat_lt 0 (length (d ∷ ds)) ≡ true = grind (arith, nat_tests) in
    let all = chosen (all_ascii_digits (d ∷ ds)) (Some (digits_value 10 (d ∷ ds))) v h in
    (some, all.0, same_some _ _ all.1)

-- a whole number's text writes it
whole_writes : (raw : List ℕ) (n : ℤ) → whole_number raw ≡ Some n → IsWrittenNumber raw n
whole_writes [] n h = cc
whole_writes (b ∷ raw) n h = by (b == minus_sign) refl h
  where
    by : (minus : Bool) → (b == minus_sign) ≡ minus
        → (if minus then option_map (λ m. neg_ℤ (pos m)) (natural_number raw) else option_map pos (natural_number (b ∷ raw))) ≡ Some n
        → IsWrittenNumber (b ∷ raw) n
    by true minus h =
        let v = made (λ m. neg_ℤ (pos m)) (natural_number raw) n h in
        let digits = natural_writes raw v.0 v.1 in
        let first : b ≡ minus_sign = grind (arith, nat_tests) in
        rw (first, sym (ap (λ m. neg_ℤ (pos m)) digits.2 ∙ v.2)) (minus_writes raw digits.0 digits.1)
    by false minus h =
        let v = made pos (natural_number (b ∷ raw)) n h in
        let digits = natural_writes (b ∷ raw) v.0 v.1 in
        rw (sym (ap pos digits.2 ∙ v.2)) (digits_write (b ∷ raw) digits.0 digits.1)

-- it is a decimal without a fraction and an exponent
module _ (raw : List ℕ) (n : ℤ) (w : IsWrittenNumber raw n) where
  all : coefficient raw ≡ raw
  all = ap (λ k. take k raw) w.no_mark ∙ take-length raw

  no_part : drop (position_or_len is_exponent_mark raw) raw ≡ []
  no_part = let at_end : length raw ≤ position_or_len is_exponent_mark raw = omega (arith, w.no_mark) in drop_of_length-le raw at_end

  whole_is_decimal : is_decimal raw ≡ true
  whole_is_decimal =
      ap (λ t. are_digits (before_first is_point (without_sign t) ++ after_first is_point (without_sign t)) && is_exponent_part (drop (position_or_len is_exponent_mark raw) raw)) all ∙ ap (λ t. t && is_exponent_part (drop (position_or_len is_exponent_mark raw) raw)) (coefficient_digits raw n w) ∙ ap is_exponent_part no_part

  -- which is equal to it
  whole_is_integral : fits_signed 64 n ≡ true → integral_number raw ≡ Some n
  whole_is_integral fits =
      let past : length raw ≤ position_or_len is_exponent_mark raw + 1 = omega (arith, w.no_mark) in
      let no_exponent : after_first is_exponent_mark raw ≡ [] = drop_of_length-le raw past in
      let written : written_exponent raw ≡ pos 0 = ap number no_exponent in
      let net : net_exponent raw ≡ pos 0 = ap (λ z. z -ℤ pos (length (after_first is_point (coefficient raw)))) written ∙ ap (λ t. pos 0 -ℤ pos (length (after_first is_point t))) all ∙ ap (λ t. pos 0 -ℤ pos (length t)) (no_fraction raw n w) in
      let form : (is_decimal raw && fits_signed 64 (written_exponent raw)) ≡ true = ap (λ b. b && fits_signed 64 (written_exponent raw)) whole_is_decimal ∙ ap (fits_signed 64) written in
      let is_negative = begins_with (byte "-") (coefficient raw) in
      let m = magnitude (coefficient raw) in
      let long = λ (k : ℕ). long_number (signed is_negative k) in
      ap (λ b. if b then option_and_then long (scaled m (net_exponent raw)) else None) form
      ∙ ap (λ e. option_and_then long (scaled m e)) net
      ∙ ap long (let same : m * 10 ^ 0 ≡ m = omega arith in same)
      ∙ ap (λ t. long_number (number t)) all
      ∙ ap long_number w.value
      ∙ ap (λ b. if b then Some n else None) fits

-- its first byte is a sign or a digit
whole_begins : (raw : List ℕ) (n : ℤ) → whole_number raw ≡ Some n → begins_as_number raw ≡ true
whole_begins [] n h = cc
whole_begins (b ∷ raw) n h = by (b == minus_sign) refl h
  where
    first_digit : (s : List ℕ) → all_ascii_digits (b ∷ s) ≡ true → is_ascii_digit b ≡ true
    first_digit s digits = both (is_ascii_digit b) (all_ascii_digits s) digits
      where
        both : (p q : Bool) → (p && q) ≡ true → p ≡ true
        both true q h = refl
        both false q h = cc

    by : (minus : Bool) → (b == minus_sign) ≡ minus
        → (if minus then option_map (λ m. neg_ℤ (pos m)) (natural_number raw) else option_map pos (natural_number (b ∷ raw))) ≡ Some n
        → ((b == minus_sign) || is_ascii_digit b) ≡ true
    by true minus h = ap (λ t. t || is_ascii_digit b) minus
    by false minus h =
        let v = made pos (natural_number (b ∷ raw)) n h in
        let digits = natural_writes (b ∷ raw) v.0 v.1 in
        ap (λ t. t || is_ascii_digit b) minus ∙ first_digit raw digits.1

-- ---- where it stands

-- a number of the standard is one of each grammar
pub of_each_grammar : (g : NumberGrammar) (raw : List ℕ) → IsNumber raw → IsNumberOf g raw
of_each_grammar g raw n = record {
  minus = n.minus;
  int = n.int;
  frac = n.frac;
  exp = n.exp;
  parts = n.parts;
  is_minus = n.is_minus;
  is_int = inl n.is_int;
  is_frac = inl n.is_frac;
  is_exp = n.is_exp;
}

module _ (c : Settings) (i : List ℕ) (start e : ℕ) (n : ℤ) (h : IsLongAt i start e n) where
  abbrev raw : List ℕ
  raw = slice_range i start e

  number_of : IsNumberOf c.numbers raw
  number_of = of_each_grammar c.numbers raw h.number.text

  stands : NumberStands true (is_number_of c.numbers) i start e
  stands = grammar_stands c.numbers i start e (record { ordered = h.number.ordered; within = h.number.within; text = number_of; boundary = h.number.boundary })

  written : IsWrittenNumber raw n
  written = whole_writes raw n h.value

  passes : (strict integral : Bool) → (if strict then is_number_of c.numbers raw else (if integral then is_number_of c.numbers raw else are_digits (without_sign raw))) ≡ true
  passes true integral = stands.passes
  passes false true = stands.passes
  passes false false = written.after_sign

  value : (strict integral : Bool) → (if integral then integral_number raw else (if strict then whole_number raw else signed_number raw)) ≡ Some n
  value strict true = whole_is_integral raw n written h.fits
  value true false = h.value
  value false false = whole_is_signed c.numbers raw number_of ∙ h.value

  boundary : (strict : Bool) → BoundaryBy strict (drop e i)
  boundary true = h.number.boundary
  boundary false = tt

  pub plain_stands : IntegerStands c i start e n
  plain_stands = record {
    run = record { run = stands.run; some = stands.some; passes = passes c.enforce_strictness c.allow_integral_float_numbers; boundary = boundary c.enforce_strictness };
    value = value c.enforce_strictness c.allow_integral_float_numbers;
    fits = h.fits;
  }

  -- and in a document
  held : (strict : Bool) → (if strict then is_number_of c.numbers raw else is_lenient_decimal raw) ≡ true
  held true = stands.passes
  held false = ap (λ t. t && is_decimal raw) (whole_begins raw n h.value) ∙ whole_is_decimal raw n written

  pub plain_is_held : NumberStands c.enforce_strictness (number_test c is_lenient_decimal) i start e
  plain_is_held = record { run = stands.run; some = stands.some; passes = held c.enforce_strictness; boundary = boundary c.enforce_strictness }
