-- A whole number of 128 bits is written as a number that writes it, and so is a decimal.
use Rattle.std.proofs.Common.{◌≡◌, ◌^◌, ◌<◌, ◌+◌, ◌%◌, length, cond, ℕ, zero, suc, List, [], ◌∷◌, ◌++◌, get_or, true, false, ◌==◌, Some, ℤ, pos, negsuc, neg_ℤ, decimal, refl, sym, ap, ◌∙◌, arith, subst, inl, inr}
use Rattle.std.proofs.lemmas.Bool.Decides.{nat_tests}
use Rattle.std.proofs.lemmas.List.{append-nil}
use Rattle.std.proofs.lemmas.List.{length-append, get_or_append_left}
use Rattle.std.proofs.lemmas.Fmt.{decimal_is_IsNumeral_wide, decimal_digit, decimal_by_steps_wide}
use Rattle.std.specs.Char.{IsAsciiDigit, digit_value}
use Rattle.std.specs.Fmt.{signed_decimal}
use Rattle.std.specs.List.{AllByRecursion}
use Rattle.std.specs.Str.{byte}
use Rattle.std.specs.Str.Parse.{AllDigits}
use Rattle.smithy_json_grammar.specs.Ascii.{minus_sign}
use Rattle.smithy_json_grammar.specs.Grammar.{AreDigits, IsInt, IsExp, IsNumber}
use Rattle.smithy_json_grammar.specs.Number.{whole_number}
use Rattle.smithy_texts.specs.Ranges.{fits_signed, is_exponent}
use Rattle.smithy_texts.specs.Decimal.{exponent_text, decimal_text}
use Rattle.smithy_texts.proofs.OnLiterals.{smithy_texts_on_literals}
use Rattle.smithy_json_grammar.proofs.NumberLemmas.{IsMinus}
use Rattle.smithy_json_grammar.proofs.WholeLemmas.{signed_value, whole_number-parts}

is_digit : (d : ℕ) → digit_value d < 10 → IsAsciiDigit d
is_digit d h = (grind (arith, nat_tests), grind (arith, nat_tests))

are_digits : (ds : List ℕ) → AllDigits 10 ds → AllByRecursion IsAsciiDigit ds
are_digits [] all = tt
are_digits (d ∷ ds) all = (is_digit d all.0, are_digits ds all.1)

-- digits that don't begin with a zero are an int
int_from : (ds : List ℕ) → 48 < get_or ds 0 0 → AllByRecursion IsAsciiDigit ds → IsInt ds
int_from [] first all = omega arith
int_from (d ∷ []) first all = all.0
int_from (d ∷ e ∷ ds) first all = (all.0, (λ zero. omega arith), all.1)

-- a number that isn't 0 is not written with a zero first
first_is_no_zero : (n : ℕ) → 0 < n → n < 10 ^ 64 → 48 < get_or (decimal n) 0 0
first_is_no_zero n some small = (decimal_by_steps_wide (λ m ds. (0 < length ds) × (0 < m → 48 < get_or ds 0 0)) (λ m l. (omega arith, λ a. omega arith))
    (λ m ds l h. (omega (arith, length-append ds ((48 + m % 10) ∷ [])), λ a. omega (arith, get_or_append_left ds ((48 + m % 10) ∷ []) 0 0 h.0, h.1 (omega arith)))) n small).1 some

pub decimal_is_int : (n : ℕ) → n < 10 ^ 64 → IsInt (decimal n)
decimal_is_int zero small = subst IsInt (sym (decimal_digit 0 (omega arith))) (omega arith, omega arith)
decimal_is_int (suc n) small =
    int_from (decimal (suc n)) (first_is_no_zero (suc n) (omega arith) small) (are_digits (decimal (suc n)) (decimal_is_IsNumeral_wide (suc n) small).0.1)

-- a number without fraction and exponent, and what it writes
module _ (minus int : List ℕ) (is_minus : IsMinus minus) (is_int : IsInt int) where
  parts_are_number : IsNumber (minus ++ int)
  parts_are_number = record {
    minus = minus;
    int = int;
    frac = [];
    exp = [];
    parts = ap (λ t. minus ++ t) (sym (append-nil int));
    is_minus = is_minus;
    is_int = is_int;
    is_frac = tt;
    is_exp = tt;
  }

  parts_write : whole_number (minus ++ int) ≡ Some (signed_value minus int)
  parts_write = ap (λ t. whole_number (minus ++ t)) (sym (append-nil int)) ∙ whole_number-parts minus int [] is_minus is_int tt

positive_fits : (n : ℕ) → fits_signed 128 (pos n) ≡ true → n < 10 ^ 64
positive_fits n fits = let below : n < 2 ^ 127 = grind (arith, nat_tests) in omega arith

negative_fits : (n : ℕ) → fits_signed 128 (negsuc n) ≡ true → suc n < 10 ^ 64
negative_fits n fits = let below : n < 2 ^ 127 = grind (arith, nat_tests) in omega arith

-- the text of a whole number is a number
pub decimal_is_number : (z : ℤ) → fits_signed 128 z ≡ true → IsNumber (signed_decimal z)
decimal_is_number (pos n) fits = parts_are_number [] (decimal n) (inl refl) (decimal_is_int n (positive_fits n fits))
decimal_is_number (negsuc n) fits =
    parts_are_number (minus_sign ∷ []) (decimal (suc n)) (inr refl) (decimal_is_int (suc n) (negative_fits n fits))

-- that writes it
pub decimal_writes : (z : ℤ) → fits_signed 128 z ≡ true → whole_number (signed_decimal z) ≡ Some z
decimal_writes (pos n) fits =
    let small = positive_fits n fits in
    parts_write [] (decimal n) (inl refl) (decimal_is_int n small)
    ∙ ap (λ m. Some (pos m)) (decimal_is_IsNumeral_wide n small).1
decimal_writes (negsuc n) fits =
    let small = negative_fits n fits in
    parts_write (minus_sign ∷ []) (decimal (suc n)) (inr refl) (decimal_is_int (suc n) small)
    ∙ ap (λ m. Some (neg_ℤ (pos m))) (decimal_is_IsNumeral_wide (suc n) small).1

-- ---- decimals

digits_of : (n : ℕ) → n < 10 ^ 64 → AreDigits (decimal n)
digits_of n small = let numeral = decimal_is_IsNumeral_wide n small in (numeral.0.0, are_digits (decimal n) numeral.0.1)

positive_exponent : (n : ℕ) → is_exponent (pos n) ≡ true → n < 10 ^ 64
positive_exponent n fits = let below : n < 2 ^ 63 = grind (arith, nat_tests) in omega arith

negative_exponent : (n : ℕ) → is_exponent (negsuc n) ≡ true → suc n < 10 ^ 64
negative_exponent n fits = let below : suc n < 2 ^ 63 = grind (arith, nat_tests) in omega arith

some_exponent : (n : ℕ) → exponent_text (pos (suc n)) ≡ byte "e" ∷ signed_decimal (pos (suc n))
some_exponent n =
    let positive : (suc n == 0) ≡ false = grind (arith, nat_tests) in
    ap (λ t. cond t [] (byte "e" ∷ signed_decimal (pos (suc n)))) positive

-- an exponent is written as one, and 0 as nothing
exponent_is : (e : ℤ) → is_exponent e ≡ true → IsExp (exponent_text e)
unfolding smithy_texts_on_literals
exponent_is (pos zero) fits = tt
exponent_is (pos (suc n)) fits = subst IsExp (sym (some_exponent n)) (refl, ([], decimal (suc n), refl, inl refl, digits_of (suc n) (positive_exponent (suc n) fits)))
exponent_is (negsuc n) fits = (refl, (minus_sign ∷ [], decimal (suc n), refl, inr (inr refl), digits_of (suc n) (negative_exponent n fits)))

with_exponent : (minus int exp : List ℕ) → IsMinus minus → IsInt int → IsExp exp → IsNumber (minus ++ (int ++ exp))
with_exponent minus int exp is_minus is_int is_exp = record {
  minus = minus;
  int = int;
  frac = [];
  exp = exp;
  parts = refl;
  is_minus = is_minus;
  is_int = is_int;
  is_frac = tt;
  is_exp = is_exp;
}

-- the text of a decimal within its limits is a number
pub decimal_text_is_number : (m e : ℤ) → fits_signed 128 m ≡ true → is_exponent e ≡ true → IsNumber (decimal_text m e)
decimal_text_is_number (pos n) e fits small =
    with_exponent [] (decimal n) (exponent_text e) (inl refl) (decimal_is_int n (positive_fits n fits)) (exponent_is e small)
decimal_text_is_number (negsuc n) e fits small =
    with_exponent (minus_sign ∷ []) (decimal (suc n)) (exponent_text e) (inr refl) (decimal_is_int (suc n) (negative_fits n fits)) (exponent_is e small)
