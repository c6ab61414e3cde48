-- From the integers that scanners find to those that lie behind ws, by the settings.
use Rattle.std.proofs.Common.{◌≡◌, ◌⊎◌, ℕ, ℤ, pos, neg_ℤ, List, [], ◌∷◌, ◌++◌, length, slice_range, Bool, true, false, ◌==◌, ◌&&◌, Option, Some, None, option_map, refl, sym, ap, subst, ◌∙◌, arith, inl, inr}
use Rattle.std.proofs.lemmas.Bool.Decides.{nat_tests}
use Rattle.std.specs.Prelude.{if◌then◌else◌, nat_lt}
use Rattle.std.specs.Char.{IsAsciiDigit}
use Rattle.std.specs.Str.{byte, all_ascii_digits}
use Rattle.std.specs.Str.Parse.{digits_value}
use Rattle.smithy_texts.specs.Ranges.{fits_signed}
use Rattle.smithy_texts.specs.Numeral.{are_digits, begins_with, without_sign, magnitude, signed}
use Rattle.smithy_texts.specs.Decimal.{coefficient, is_decimal, written_exponent, net_exponent}
use Rattle.smithy_instants.specs.Epoch.{scaled}
use Rattle.smithy_shapes.specs.Lemmas.Options.{same_some, step_apart, chosen, made}
use Rattle.smithy_json_grammar.specs.Ascii.{is_ws, is_numeric, minus_sign, plus_sign}
use Rattle.smithy_json_grammar.specs.Grammar.{IsInt, AreDigits}
use Rattle.smithy_json_grammar.specs.Number.{natural_number, whole_number, signed_number, long_number, integral_number}
use Rattle.smithy_json_grammar.specs.NumberGrammar.{IsIntOf, IsNumberOf}
use Rattle.smithy_json_grammar.specs.NumberText.{is_number_of}
use Rattle.smithy_json_grammar.specs.Standing.{IsRunAt, StandsAt, IsSignedAt}
use Rattle.smithy_json_grammar.specs.declared.number_grammar.NumberGrammar.{NumberGrammar}
use Rattle.smithy_json_grammar.proofs.SliceLemmas.{length-slice}
use Rattle.smithy_json_grammar.proofs.WholeLemmas.{int_digits}
use Rattle.smithy_json_values.specs.Settings.{Settings}
use Rattle.smithy_json_values.specs.Scalar.{integer_of}
use Rattle.smithy_json_values.specs.LexicalGrammar.{number_test, is_lenient_integer, grammar_of}
use Rattle.smithy_json_values.specs.Private.NumberAtPlace.{NumberStands, IntegerStands}
use Rattle.smithy_json_values.specs.Private.ScalarAtPlace.{IntegerLies}
use Rattle.smithy_json_values.proofs.NumberRuns.{number_lies, number_stands, same_run, grammar_stands, stands_grammar, of_strict, strict_of, of_lenient}

-- ---- behind ws

module _ (c : Settings) (i : List ℕ) (at start : ℕ) (ws : IsRunAt is_ws i at start) (n : ℤ) (e : ℕ) where
  pub integer_lies : IntegerStands c i start e n → IntegerLies (grammar_of c) c 64 i at n e
  integer_lies h = record {
    raw = slice_range i start e;
    lies = number_lies i at start ws c.enforce_strictness (number_test c (is_lenient_integer c)) e h.run;
    is = h.value;
    fits = h.fits;
  }

  pub integer_stands : IntegerLies (grammar_of c) c 64 i at n e → IntegerStands c i start e n
  integer_stands h =
      let there = number_stands i at start ws c.enforce_strictness (number_test c (is_lenient_integer c)) h.raw e h.lies in
      record { run = there.1; value = ap (integer_of c) there.0 ∙ h.is; fits = h.fits }

-- ---- texts

both : (a b : Bool) → a ≡ true → b ≡ true → (a && b) ≡ true
both true b first second = second
both false b first second = cc

natural_digits : (s : List ℕ) (v : ℕ) → natural_number s ≡ Some v → are_digits s ≡ true
natural_digits [] v h = cc
natural_digits (d ∷ s) v h =
    let some : nat_lt 0 (length (d ∷ s)) ≡ true = grind (arith, nat_tests) in
    both (nat_lt 0 (length (d ∷ s))) (all_ascii_digits (d ∷ s)) some (chosen (all_ascii_digits (d ∷ s)) (Some (digits_value 10 (d ∷ s))) v h).0

-- a signed number is digits behind at most one sign
signed_form : (raw : List ℕ) (n : ℤ) → signed_number raw ≡ Some n → are_digits (without_sign raw) ≡ true
signed_form [] n h = cc
signed_form (b ∷ raw) n h = by (b == plus_sign) refl (b == minus_sign) refl h
  where
    by : (plus : Bool) → (b == plus_sign) ≡ plus → (minus : Bool) → (b == minus_sign) ≡ minus
        → (if plus then option_map pos (natural_number raw) else (if minus then option_map (λ m. neg_ℤ (pos m)) (natural_number raw) else option_map pos (natural_number (b ∷ raw)))) ≡ Some n
        → are_digits (without_sign (b ∷ raw)) ≡ true
    by true p minus m h = let v = made pos (natural_number raw) n h in rw p (natural_digits raw v.0 v.1)
    by false p true m h = let v = made (λ m. neg_ℤ (pos m)) (natural_number raw) n h in rw (p, m) (natural_digits raw v.0 v.1)
    by false p false m h = let v = made pos (natural_number (b ∷ raw)) n h in rw (p, m) (natural_digits (b ∷ raw) v.0 v.1)

digit_no_plus : (d : ℕ) → IsAsciiDigit d → (d == plus_sign) ≡ false
digit_no_plus d h = grind (arith, nat_tests)

-- a number of a grammar has no plus in front
no_plus : (g : NumberGrammar) (b : ℕ) (raw : List ℕ) → IsNumberOf g (b ∷ raw) → (b == plus_sign) ≡ false
no_plus g b raw n = by n.minus n.int n.parts n.is_minus n.is_int
  where
    first : (d : ℕ) (rest : List ℕ) → b ∷ raw ≡ d ∷ rest → (d == plus_sign) ≡ false → (b == plus_sign) ≡ false
    first d rest same other = let equal : b ≡ d = cc in ap (λ x. x == plus_sign) equal ∙ other

    by_int : (int : List ℕ) → b ∷ raw ≡ int ++ (n.frac ++ n.exp) → AreDigits int → (b == plus_sign) ≡ false
    by_int [] same are = absurd (let some = are.0 in omega (arith, some))
    by_int (d ∷ int) same are = first d (int ++ (n.frac ++ n.exp)) same (digit_no_plus d are.1.0)

    some_int : (int : List ℕ) → IsInt int → AreDigits int
    some_int [] is = absurd is
    some_int (d ∷ int) is = (omega arith, int_digits (d ∷ int) is)

    by : (minus int : List ℕ) → b ∷ raw ≡ minus ++ (int ++ (n.frac ++ n.exp)) → (minus ≡ []) ⊎ (minus ≡ minus_sign ∷ []) → IsIntOf g minus int n.frac → (b == plus_sign) ≡ false
    by minus int same (inr one) is = first minus_sign (int ++ (n.frac ++ n.exp)) (same ∙ ap (λ m. m ++ (int ++ (n.frac ++ n.exp))) one) refl
    by minus int same (inl none) (inl is) = by_int int (same ∙ ap (λ m. m ++ (int ++ (n.frac ++ n.exp))) none) (some_int int is)
    by minus int same (inl none) (inr (inl are)) = by_int int (same ∙ ap (λ m. m ++ (int ++ (n.frac ++ n.exp))) none) are.1
    by minus int same (inl none) (inr (inr is)) = let clash : [] ≡ minus_sign ∷ [] = sym none ∙ is.1 in cc

-- so as a signed number it is its whole number
pub whole_is_signed : (g : NumberGrammar) (raw : List ℕ) → IsNumberOf g raw → signed_number raw ≡ whole_number raw
whole_is_signed g [] n = refl
whole_is_signed g (b ∷ raw) n = rw (no_plus g b raw n) refl

-- a whole number that a decimal is equal to has 64 bits
pub integral_fits : (text : List ℕ) (n : ℤ) → integral_number text ≡ Some n → fits_signed 64 n ≡ true
integral_fits text n h =
    let found = (chosen (is_decimal text && fits_signed 64 (written_exponent text)) _ n h).1 in
    let scale = step_apart (scaled (magnitude (coefficient text)) (net_exponent text)) (λ m. long_number (signed (begins_with (byte "-") (coefficient text)) m)) n found in
    let z = signed (begins_with (byte "-") (coefficient text)) scale.0 in
    let long = chosen (fits_signed 64 z) (Some z) n scale.2 in
    subst (λ x. fits_signed 64 x ≡ true) (same_some z n long.1) long.0

-- ---- by the settings

module _ (c : Settings) (i : List ℕ) (start e : ℕ) (n : ℤ) where
  abbrev raw : List ℕ
  raw = slice_range i start e

  -- as a sign and digits
  module _ (loose : c.enforce_strictness ≡ false) (plain : c.allow_integral_float_numbers ≡ false) where
    pub of_signed : IsSignedAt i start e n → IntegerStands c i start e n
    of_signed h =
        let size = length-slice i start e h.run.ordered h.run.within in
        let ordered = h.run.ordered in
        record {
          run = of_lenient c (is_lenient_integer c) i start e loose (record { run = h.run; some = omega (arith, λ (none : length raw ≡ 0). no_signed raw none h.value, size, ordered); passes = rw plain (signed_form raw n h.value); boundary = tt });
          value = rw (plain, loose) h.value;
          fits = h.fits;
        }
      where
        no_signed : (s : List ℕ) → length s ≡ 0 → signed_number s ≡ Some n → ⊥
        no_signed [] none is = cc
        no_signed (b ∷ s) none is = omega (arith, none)

    pub signed_of : IntegerStands c i start e n → IsSignedAt i start e n
    signed_of h = record { run = h.run.run; value = rw (plain, loose) at h.value; fits = h.fits }

  -- as whole numbers of a grammar
  module _ (strict : c.enforce_strictness ≡ true) (plain : c.allow_integral_float_numbers ≡ false) where
    pub of_whole : StandsAt (IsNumberOf c.numbers) i start e → whole_number raw ≡ Some n → fits_signed 64 n ≡ true → IntegerStands c i start e n
    of_whole stands value fits = record {
      run = of_strict c (is_lenient_integer c) i start e strict (grammar_stands c.numbers i start e stands);
      value = rw (plain, strict) value;
      fits = fits;
    }

    pub whole_of : IntegerStands c i start e n → StandsAt (IsNumberOf c.numbers) i start e × (whole_number raw ≡ Some n)
    whole_of h =
        (stands_grammar c.numbers i start e (strict_of c (is_lenient_integer c) i start e strict h.run), rw (plain, strict) at h.value)

    -- those that are signed numbers too, by two scanners
    pub of_both : (f : ℕ) → StandsAt (IsNumberOf c.numbers) i start f → IsRunAt is_numeric i start f → IsSignedAt i start e n → IntegerStands c i start e n
    of_both f stands run h =
        let same : f ≡ e = same_run i start f e run h.run in
        let here : StandsAt (IsNumberOf c.numbers) i start e = subst (λ k. StandsAt (IsNumberOf c.numbers) i start k) same stands in
        of_whole here (sym (whole_is_signed c.numbers raw here.text) ∙ h.value) h.fits

    pub both_of : IntegerStands c i start e n → StandsAt (IsNumberOf c.numbers) i start e × IsSignedAt i start e n
    both_of h =
        let there = whole_of h in
        (there.0, record { run = h.run.run; value = whole_is_signed c.numbers raw there.0.text ∙ there.1; fits = h.fits })

  -- as numbers that are equal to one
  module _ (integral : c.allow_integral_float_numbers ≡ true) where
    -- where decimals may be integers, the test of integers is that of the grammar
    same_test : (s : List ℕ) → number_test c (is_number_of c.numbers) s ≡ number_test c (is_lenient_integer c) s
    same_test s = rw integral refl

    pub of_integral : NumberStands c.enforce_strictness (number_test c (is_number_of c.numbers)) i start e → integral_number raw ≡ Some n → IntegerStands c i start e n
    of_integral run value = record {
      run = record { run = run.run; some = run.some; passes = sym (same_test raw) ∙ run.passes; boundary = run.boundary };
      value = rw integral value;
      fits = integral_fits raw n value;
    }

    pub integral_of : IntegerStands c i start e n → NumberStands c.enforce_strictness (number_test c (is_number_of c.numbers)) i start e × (integral_number raw ≡ Some n)
    integral_of h =
        (record { run = h.run.run; some = h.run.some; passes = same_test raw ∙ h.run.passes; boundary = h.run.boundary }, rw integral at h.value)

    -- none stands where the run isn't equal to one
    pub other_integral : (f : ℕ) → IsRunAt is_numeric i start f → integral_number (slice_range i start f) ≡ None → IntegerStands c i start e n → ⊥
    other_integral f run none h =
        let there = integral_of h in
        let same : f ≡ e = same_run i start f e run h.run.run in
        let both : ◌≡◌ {A = Option ℤ} None (Some n) = sym none ∙ ap (λ k. integral_number (slice_range i start k)) same ∙ there.1 in
        cc
