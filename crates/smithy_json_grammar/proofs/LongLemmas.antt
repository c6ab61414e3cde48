-- Where a whole number of 64 bits stands in an input.
use Rattle.std.proofs.Common.{◌≡◌, ◌≢◌, ◌+◌, ◌^◌, ◌≤◌, ◌<◌, ℕ, zero, suc, List, [], ◌∷◌, ◌++◌, length, take, drop, Bool, true, false, not, ◌||◌, Option, Some, None, ℤ, pos, negsuc, neg_ℤ, FitsSigned, w64, nat_lt, nat_le, ◌==◌, slice_range, refl, sym, ap, ◌∙◌, arith, cond, subst}
use Rattle.std.proofs.lemmas.Bool.Decides.{nat_tests}
use Rattle.std.proofs.lemmas.List.{append_assoc, append-nil, length-append, length-drop, take_at, drop-drop, take-append-drop, length-take-le}
use Rattle.std.proofs.lemmas.List.Sums.{prefix_len-le-length}
use Rattle.std.proofs.lemmas.Int.{ints}
use Rattle.std.specs.Char.{is_ascii_digit}
use Rattle.std.specs.Str.Parse.{digits_value, digits_value_after}
use Rattle.smithy_json_grammar.specs.Ascii.{digit_zero}
use Rattle.smithy_json_grammar.specs.Grammar.{IsInt, IsBoundary, AreDigits}
use Rattle.smithy_json_grammar.specs.Number.{whole_number}
use Rattle.smithy_texts.specs.Ranges.{fits_signed}
use Rattle.smithy_json_grammar.specs.Standing.{IsLongAt}
use Rattle.smithy_json_grammar.specs.Private.Numeral.{first_byte, digit_count, run_value, after_minus, is_int_between, long_of}
use Rattle.smithy_json_grammar.proofs.SliceLemmas.{drop-slice, slice_between}
use Rattle.smithy_json_grammar.proofs.NumberLemmas.{IsMinus, begins_minus, first_digits}
use Rattle.smithy_json_grammar.proofs.NumberRestLemmas.{digit_count-digits, after_minus-minus, boundary_ends}
use Rattle.smithy_json_grammar.proofs.WholeLemmas.{signed_value, whole_before, whole_number-parts, no_digits_more, int_digits}

-- what a whole number of 64 bits that stands there is made of
pub record LongParts (input : List ℕ) (at start end : ℕ) (n : ℤ) : Type 0 where
  pub minus : List ℕ
  pub int : List ℕ
  pub is_minus : IsMinus minus
  pub is_int : IsInt int
  pub front : drop at input ≡ minus ++ drop start input
  pub split : drop start input ≡ int ++ drop end input
  pub value : signed_value minus int ≡ n

nothing_more : (minus int more : List ℕ) (n : ℤ) → whole_before minus int more ≡ Some n → (more ≡ []) × (signed_value minus int ≡ n)
nothing_more minus int [] n e = (refl, cc)
nothing_more minus int (b ∷ more) n e = cc

pub long_parts : (input : List ℕ) (at start end : ℕ) (n : ℤ) → drop start input ≡ after_minus (drop at input) → IsLongAt input at end n → LongParts input at start end n
long_parts input at start end n behind long =
    let h = long.number.text in
    let rest = drop end input in
    let value = sym (whole_number-parts h.minus h.int (h.frac ++ h.exp) h.is_minus h.is_int (no_digits_more h.frac h.exp h.is_frac h.is_exp)) ∙ sym (ap whole_number h.parts) ∙ long.value in
    let none = nothing_more h.minus h.int (h.frac ++ h.exp) n value in
    let text : slice_range input at end ≡ h.minus ++ h.int = h.parts ∙ ap (λ t. h.minus ++ (h.int ++ t)) none.0 ∙ ap (λ t. h.minus ++ t) (append-nil h.int) in
    let whole : drop at input ≡ h.minus ++ (h.int ++ rest) =
    drop-slice input at end long.number.ordered ∙ ap (λ t. t ++ rest) text ∙ append_assoc h.minus h.int rest in
    let split = behind ∙ ap after_minus whole ∙ after_minus-minus h.minus h.int rest h.is_minus h.is_int in
    record {
      minus = h.minus;
      int = h.int;
      is_minus = h.is_minus;
      is_int = h.is_int;
      front = whole ∙ ap (λ t. h.minus ++ t) (sym split);
      split = split;
      value = none.1;
    }

some_digit : (int : List ℕ) → IsInt int → 0 < length int
some_digit [] is = absurd is
some_digit (d ∷ int) is = omega arith

-- the sign is there exactly where the digits begin later
sign_is : (input : List ℕ) (at start : ℕ) (minus int : List ℕ) (value : ℕ) → drop at input ≡ minus ++ drop start input → at ≤ length input → start ≤ length input → digits_value 10 int ≡ value
    → signed_value minus int ≡ cond (nat_lt at start) (neg_ℤ (pos value)) (pos value)
sign_is input at start [] int value front before within is =
    let same : at ≡ start = omega (arith, ap length front, length-drop at input, length-drop start input) in
    let test : nat_lt at start ≡ false = grind (arith, nat_tests) in
    rw test (ap pos is)
sign_is input at start (x ∷ minus) int value front before within is =
    let size = ap length front ∙ length-append (x ∷ minus) (drop start input) in
    let later : at < start = omega (arith, size, length-drop at input, length-drop start input) in
    let test : nat_lt at start ≡ true = grind (arith, nat_tests) in
    rw test (ap (λ k. neg_ℤ (pos k)) is)

not_zero_first : (d : ℕ) → d ≢ digit_zero → (d == digit_zero) ≡ false
not_zero_first d h = grind (arith, nat_tests)

int_between : (input : List ℕ) (start end : ℕ) (int rest : List ℕ) → IsInt int → drop start input ≡ int ++ rest → end ≡ start + length int → is_int_between input start end ≡ true
int_between input start end [] rest is split size = absurd is
int_between input start end (d ∷ []) rest is split size =
    let short : nat_le end (start + 1) ≡ true = grind (arith, nat_tests) in
    rw short (or_true (not (first_byte (drop start input) == digit_zero)))
  where
    or_true : (b : Bool) → (b || true) ≡ true
    or_true true = refl
    or_true false = refl
int_between input start end (d ∷ e ∷ int) rest is split size = rw (split, not_zero_first d is.1) refl

module _ (input : List ℕ) (at start : ℕ) (behind : drop start input ≡ after_minus (drop at input)) (within : start ≤ length input) (end : ℕ) (n : ℤ) (long : IsLongAt input at end n) where
  abbrev parts : LongParts input at start end n
  parts = long_parts input at start end n behind long

  count_is : digit_count (drop start input) ≡ length parts.int
  count_is =
      ap digit_count parts.split ∙ digit_count-digits parts.int (drop end input) (int_digits parts.int parts.is_int) (boundary_ends (drop end input) long.number.boundary).0

  pub some_digits : 0 < digit_count (drop start input)
  some_digits = omega (arith, count_is, some_digit parts.int parts.is_int)

  value_is : digits_value 10 parts.int ≡ run_value 0 (drop start input)
  value_is = sym (
      ap (λ k. digits_value_after 10 0 (take k (drop start input))) count_is
      ∙ ap (λ s. digits_value_after 10 0 (take (length parts.int) s)) parts.split
      ∙ ap (digits_value_after 10 0) (take_at parts.int (drop end input) _ refl)
      )

  pub end_is : end ≡ start + digit_count (drop start input)
  end_is =
      let size = ap length parts.split ∙ length-append parts.int (drop end input) in
      omega (arith, count_is, size, some_digit parts.int parts.is_int, length-drop start input, length-drop end input, long.number.within)

  pub signed_is : n ≡ cond (nat_lt at start) (neg_ℤ (pos (run_value 0 (drop start input)))) (pos (run_value 0 (drop start input)))
  signed_is =
      let before : at ≤ length input = omega (arith, long.number.ordered, long.number.within) in
      sym parts.value ∙ sign_is input at start parts.minus parts.int _ parts.front before within value_is

  pub is_int_there : is_int_between input start end ≡ true
  is_int_there = int_between input start end parts.int (drop end input) parts.is_int parts.split (omega (arith, end_is, count_is))

-- ---- what was read

digits_are_int : (digits rest : List ℕ) (start end : ℕ) → AreDigits digits → end ≡ start + length digits → (not (first_byte (digits ++ rest) == digit_zero) || nat_le end (start + 1)) ≡ true → IsInt digits
digits_are_int [] rest start end are size test = absurd (omega (arith, are.0))
digits_are_int (d ∷ []) rest start end are size test = are.1.0
digits_are_int (d ∷ e ∷ digits) rest start end are size test =
    let long : nat_le end (start + 1) ≡ false = grind (arith, nat_tests) in
    let other : (not (d == digit_zero) || false) ≡ true = rw long at test in
    (are.1.0, zero_not (d == digit_zero) refl other, are.1.1)
  where
    zero_not : (b : Bool) → (d == digit_zero) ≡ b → (not b || false) ≡ true → d ≢ digit_zero
    zero_not true is other = cc
    zero_not false is other = grind (arith, nat_tests)

pub long_of_some : (negative : Bool) (magnitude : ℕ) (n : ℤ) → long_of negative magnitude ≡ Some n → (cond negative (neg_ℤ (pos magnitude)) (pos magnitude) ≡ n) × (fits_signed 64 n ≡ true)
long_of_some negative magnitude n e = go (fits_signed 64 (cond negative (neg_ℤ (pos magnitude)) (pos magnitude))) refl
  where
    go : (fits : Bool) → fits_signed 64 (cond negative (neg_ℤ (pos magnitude)) (pos magnitude)) ≡ fits → (cond negative (neg_ℤ (pos magnitude)) (pos magnitude) ≡ n) × (fits_signed 64 n ≡ true)
    go true fits =
        let found : ◌≡◌ {A = Option ℤ} (Some (cond negative (neg_ℤ (pos magnitude)) (pos magnitude))) (Some n) = rw fits at e in
        let same : cond negative (neg_ℤ (pos magnitude)) (pos magnitude) ≡ n = cc in
        (same, subst (λ z. fits_signed 64 z ≡ true) same fits)
    go false fits =
        let found : ◌≡◌ {A = Option ℤ} None (Some n) = rw fits at e in cc

wide_positive : (v : ℕ) → 2 ^ 64 ≤ v → fits_signed 64 (pos v) ≡ false
wide_positive v wide = grind (arith, nat_tests)

wide_negative : (v : ℕ) → 2 ^ 64 ≤ v → fits_signed 64 (neg_ℤ (pos v)) ≡ false
wide_negative zero wide = absurd (omega arith)
wide_negative (suc v) wide = grind (arith, nat_tests)

-- a magnitude of more than 64 bits has no number of 64 bits
pub wide_is_not_long : (negative : Bool) (v : ℕ) → 2 ^ 64 ≤ v → fits_signed 64 (cond negative (neg_ℤ (pos v)) (pos v)) ≡ false
wide_is_not_long true v wide = wide_negative v wide
wide_is_not_long false v wide = wide_positive v wide

pub long_of_none : (negative : Bool) (magnitude : ℕ) → long_of negative magnitude ≡ None → fits_signed 64 (cond negative (neg_ℤ (pos magnitude)) (pos magnitude)) ≡ false
long_of_none negative magnitude e = go (fits_signed 64 (cond negative (neg_ℤ (pos magnitude)) (pos magnitude))) refl
  where
    go : (fits : Bool) → fits_signed 64 (cond negative (neg_ℤ (pos magnitude)) (pos magnitude)) ≡ fits → fits_signed 64 (cond negative (neg_ℤ (pos magnitude)) (pos magnitude)) ≡ false
    go true fits =
        let found : ◌≡◌ {A = Option ℤ} (Some (cond negative (neg_ℤ (pos magnitude)) (pos magnitude))) None = rw fits at e in cc
    go false fits = fits

module _ (input : List ℕ) (at start : ℕ) (behind : drop start input ≡ after_minus (drop at input)) (within : start ≤ length input) (end : ℕ) (n : ℤ) (long : IsLongAt input at end n) where
  -- so none stands there whose digits write too much
  not_long : fits_signed 64 (cond (nat_lt at start) (neg_ℤ (pos (run_value 0 (drop start input)))) (pos (run_value 0 (drop start input)))) ≡ false → ⊥
  not_long fails =
      let signed = ap (fits_signed 64) (signed_is input at start behind within end n long) in
      let fits = long.fits in cc

  pub no_wide_long : 2 ^ 64 ≤ run_value 0 (drop start input) → ⊥
  no_wide_long wide = not_long (wide_is_not_long (nat_lt at start) (run_value 0 (drop start input)) wide)

  pub no_long : long_of (nat_lt at start) (run_value 0 (drop start input)) ≡ None → ⊥
  no_long none = not_long (long_of_none (nat_lt at start) (run_value 0 (drop start input)) none)

module _ (input : List ℕ) (at start end : ℕ) (n : ℤ) (behind : drop start input ≡ after_minus (drop at input)) (ordered : at ≤ start) (within : start ≤ length input)
    (some : 0 < digit_count (drop start input)) (size : end ≡ start + digit_count (drop start input)) where
  abbrev count : ℕ
  count = digit_count (drop start input)

  abbrev int : List ℕ
  int = take count (drop start input)

  abbrev minus : List ℕ
  minus = (begins_minus (drop at input)).part

  short : count ≤ length (drop start input)
  short = prefix_len-le-length is_ascii_digit (drop start input)

  front : drop at input ≡ minus ++ drop start input
  front = (begins_minus (drop at input)).split ∙ ap (λ t. minus ++ t) (sym behind)

  split : drop start input ≡ int ++ drop end input
  split =
      sym (take-append-drop count (drop start input))
      ∙ ap (λ t. int ++ t) (drop-drop count start input ∙ ap (λ k. drop k input) (sym size))

  digits : AreDigits int
  digits = (omega (arith, length-take-le count (drop start input) short), first_digits (drop start input))

  -- the digits that were read are those of a whole number of 64 bits
  pub long_found : end ≤ length input → is_int_between input start end ≡ true → IsBoundary (drop end input) → long_of (nat_lt at start) (run_value 0 (drop start input)) ≡ Some n
      → IsLongAt input at end n
  long_found fits test boundary value =
      let is_int = digits_are_int int (drop end input) start end digits (omega (arith, length-take-le count (drop start input) short)) (rw (← split) test) in
      let is_minus = (begins_minus (drop at input)).is in
      let text : slice_range input at end ≡ minus ++ int =
      slice_between input at end (minus ++ int) (omega arith) fits (front ∙ ap (λ t. minus ++ t) split ∙ sym (append_assoc minus int (drop end input))) in
      let long = long_of_some (nat_lt at start) (run_value 0 (drop start input)) n value in
      let whole = whole_number-parts minus int [] is_minus is_int tt in
      let parts : slice_range input at end ≡ minus ++ (int ++ []) = text ∙ ap (λ t. minus ++ t) (sym (append-nil int)) in
      record {
        number = record {
          ordered = omega arith;
          within = fits;
          text = record { minus = minus; int = int; frac = []; exp = []; parts = parts; is_minus = is_minus; is_int = is_int; is_frac = tt; is_exp = tt };
          boundary = boundary;
        };
        value = ap whole_number parts ∙ whole ∙ ap Some (sign_is input at start minus int _ front (omega arith) within refl ∙ long.0);
        fits = long.1;
      }

-- such a number is one of an i64
pub long_fits : (z : ℤ) → fits_signed 64 z ≡ true → FitsSigned w64 z
long_fits (pos n) fits =
    let below : n < 2 ^ 63 = grind (arith, nat_tests) in
    search (arith, ints)
long_fits (negsuc n) fits =
    let below : n < 2 ^ 63 = grind (arith, nat_tests) in
    search (arith, ints)
