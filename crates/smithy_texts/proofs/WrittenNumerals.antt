-- The written texts of numbers are read as these numbers.
use Rattle.std.proofs.Common.{◌≡◌, ◌+◌, ◌<◌, ◌^◌, ◌&&◌, nat_lt, ℕ, zero, suc, List, [], ◌∷◌, ◌++◌, length, take, drop, filter, Bool, cond, true, false, not, refl, sym, ap, subst, ◌∙◌, arith, ℤ, pos, negsuc, neg_ℤ, ◌-ℤ◌, unsigned_abs, nat_eq, Some, None, ◌≤◌, FitsSigned}
use Rattle.std.specs.Int.{w128}
use Rattle.std.proofs.lemmas.Int.{ints}
use Rattle.std.proofs.lemmas.List.{append-nil}
use Rattle.std.proofs.Math.Seq.{take-append_seam, drop-append_seam, drop-append-add, take-length}
use Rattle.std.proofs.Math.ListN.{drop_of_length-le}
use Rattle.std.proofs.lemmas.Bool.Decides.{nat_tests}
use Rattle.std.proofs.lemmas.Fmt.{decimal_is_IsNumeral_wide}
use Rattle.std.proofs.lemmas.Str.Parse.{IsNumeralModel, numerals_by_value, tells_all_ascii_digits}
use Rattle.std.specs.Char.{is_ascii_digit}
use Rattle.std.specs.Fmt.{decimal, signed_decimal}
use Rattle.std.specs.List.{position_or_len, before_first, after_first}
use Rattle.std.specs.Str.{byte, all_ascii_digits}
use Rattle.std.specs.Str.Parse.{digits_value}
use Rattle.smithy_texts.specs.Numeral.{are_digits, begins_with, without_minus, without_sign, magnitude, number}
use Rattle.smithy_texts.specs.Decimal.{integer_form, is_point, is_exponent_mark, are_digits_with_point, coefficient, is_decimal, mantissa, written_exponent, net_exponent, exponent_text, decimal_text, decimal_of, exponents_fit, is_exponent_part}
use Rattle.smithy_texts.specs.Ranges.{fits_signed, is_exponent}

pub own : IsNumeralModel (λ ds. all_ascii_digits ds ≡ true) (digits_value 10)
own = numerals_by_value (λ ds. all_ascii_digits ds ≡ true) tells_all_ascii_digits

-- digits alone are kept
pub filter_digits : (ds : List ℕ) → all_ascii_digits ds ≡ true → filter is_ascii_digit ds ≡ ds
filter_digits [] h = refl
filter_digits (c ∷ ds) h = by (is_ascii_digit c) (filter_digits ds) h
  where
    by : (t : Bool) → (all_ascii_digits ds ≡ true → filter is_ascii_digit ds ≡ ds) → (t && all_ascii_digits ds) ≡ true → cond t (c ∷ filter is_ascii_digit ds) (filter is_ascii_digit ds) ≡ c ∷ ds
    by true ih h = ap (λ l. c ∷ l) (ih h)
    by false ih h = cc

-- what a byte that no digit is passes nowhere among digits
pub none_in_digits : (p : ℕ → Bool) → ((c : ℕ) → is_ascii_digit c ≡ true → p c ≡ false) → (ds : List ℕ) → all_ascii_digits ds ≡ true → position_or_len p ds ≡ length ds
none_in_digits p none [] h = refl
none_in_digits p none (c ∷ ds) h = by (is_ascii_digit c) (none c) (none_in_digits p none ds) h
  where
    by : (t : Bool) → (t ≡ true → p c ≡ false) → (all_ascii_digits ds ≡ true → position_or_len p ds ≡ length ds) → (t && all_ascii_digits ds) ≡ true → cond (not (p c)) (1 + position_or_len p ds) 0 ≡ suc (length ds)
    by true fails ih h = ap (λ t. cond (not t) (1 + position_or_len p ds) 0) (fails refl) ∙ (let e = ih h in omega arith)
    by false fails ih h = cc

-- the first place that passes comes after a front in which none does
pub position-append : (p : ℕ → Bool) (xs : List ℕ) (x : ℕ) (ys : List ℕ) → position_or_len p xs ≡ length xs → p x ≡ true → position_or_len p (xs ++ x ∷ ys) ≡ length xs
position-append p [] x ys none here = ap (λ t. cond (not t) (1 + position_or_len p ys) 0) here
position-append p (c ∷ xs) x ys none here = by (p c) none (λ e. position-append p xs x ys e here)
  where
    by : (t : Bool) → cond (not t) (1 + position_or_len p xs) 0 ≡ suc (length xs) → (position_or_len p xs ≡ length xs → position_or_len p (xs ++ x ∷ ys) ≡ length xs) → cond (not t) (1 + position_or_len p (xs ++ x ∷ ys)) 0 ≡ suc (length xs)
    by false none ih = let e = ih (omega arith) in omega arith
    by true none ih = absurd (omega arith)

not_minus : (c : ℕ) (ds : List ℕ) → all_ascii_digits (c ∷ ds) ≡ true → (nat_eq c 45 ≡ false) × (nat_eq c 43 ≡ false)
not_minus c ds h = grind (arith, nat_tests)

-- digits begin with no sign
pub record HasNoSign (ds : List ℕ) : Type 0 where
  pub minus : without_minus ds ≡ ds
  pub sign : without_sign ds ≡ ds
  pub begins : begins_with (byte "-") ds ≡ false

pub no_sign : (ds : List ℕ) → all_ascii_digits ds ≡ true → HasNoSign ds
no_sign [] h = record { minus = refl; sign = refl; begins = refl }
no_sign (c ∷ ds) h =
    let none = not_minus c ds h in
    record {
      minus = ap (λ t. cond t ds (c ∷ ds)) none.0;
      sign = grind (arith, nat_tests);
      begins = none.0;
    }

-- a text writes this number, with a minus or nothing before its digits
pub record IsWrittenNumber (text : List ℕ) (z : ℤ) : Type 0 where
  pub value : number text ≡ z
  pub after_minus : are_digits (without_minus text) ≡ true
  pub after_sign : are_digits (without_sign text) ≡ true
  pub no_point : position_or_len is_point text ≡ length text
  pub no_mark : position_or_len is_exponent_mark text ≡ length text
  -- the point lacks behind the sign too
  pub no_point_after_sign : position_or_len is_point (without_sign text) ≡ length (without_sign text)

pub point_is_no_digit : (c : ℕ) → is_ascii_digit c ≡ true → is_point c ≡ false
point_is_no_digit c h = grind (arith, nat_tests)

pub mark_is_no_digit : (c : ℕ) → is_ascii_digit c ≡ true → is_exponent_mark c ≡ false
mark_is_no_digit c h = grind (arith, nat_tests)

pub written_decimal : (n : ℕ) → n < 10 ^ 64 → IsWrittenNumber (decimal n) (pos n)
written_decimal n small =
    let ds = decimal n in
    let numeral = decimal_is_IsNumeral_wide n small in
    let digits : all_ascii_digits ds ≡ true = own.from ds numeral.0.1 in
    let some : nat_lt 0 (length ds) ≡ true = grind (arith, nat_tests, numeral.0.0) in
    let are : are_digits ds ≡ true = ap (λ t. t && all_ascii_digits ds) some ∙ digits in
    let none = no_sign ds digits in
    let size : magnitude ds ≡ n = ap (digits_value 10) (filter_digits ds digits) ∙ numeral.1 in
    record {
      value = ap (λ t. cond t (neg_ℤ (pos (magnitude ds))) (pos (magnitude ds))) none.begins ∙ ap pos size;
      after_minus = ap are_digits none.minus ∙ are;
      after_sign = ap are_digits none.sign ∙ are;
      no_point = none_in_digits is_point point_is_no_digit ds digits;
      no_mark = none_in_digits is_exponent_mark mark_is_no_digit ds digits;
      no_point_after_sign = ap (λ t. position_or_len is_point t) none.sign ∙ none_in_digits is_point point_is_no_digit ds digits ∙ ap length (sym none.sign);
    }

pub written_negative : (n : ℕ) → n < 10 ^ 64 → IsWrittenNumber (45 ∷ decimal n) (neg_ℤ (pos n))
written_negative n small =
    let ds = decimal n in
    let numeral = decimal_is_IsNumeral_wide n small in
    let digits : all_ascii_digits ds ≡ true = own.from ds numeral.0.1 in
    let some : nat_lt 0 (length ds) ≡ true = grind (arith, nat_tests, numeral.0.0) in
    let are : are_digits ds ≡ true = ap (λ t. t && all_ascii_digits ds) some ∙ digits in
    let size : magnitude ds ≡ n = ap (digits_value 10) (filter_digits ds digits) ∙ numeral.1 in
    let point = none_in_digits is_point point_is_no_digit ds digits in
    let mark = none_in_digits is_exponent_mark mark_is_no_digit ds digits in
    record {
      value = ap (λ k. neg_ℤ (pos k)) size;
      after_minus = are;
      after_sign = are;
      no_point = omega arith;
      no_mark = omega arith;
      no_point_after_sign = point;
    }

-- the text of a whole number writes it
pub written_number : (z : ℤ) → unsigned_abs z < 10 ^ 64 → IsWrittenNumber (signed_decimal z) z
written_number (pos n) small = written_decimal n small
written_number (negsuc n) small = written_negative (suc n) small

pub integer_form_of_written : (z : ℤ) → unsigned_abs z < 10 ^ 64 → integer_form (signed_decimal z) ≡ Some z
integer_form_of_written z small =
    let w = written_number z small in
    ap (λ t. cond t (Some (number (signed_decimal z))) None) w.after_minus ∙ ap Some w.value

-- a text writes this mantissa and this exponent
pub record IsWrittenDecimal (text : List ℕ) (m e : ℤ) : Type 0 where
  pub form : is_decimal text ≡ true
  pub mantissa_is : mantissa text ≡ m
  pub written_is : written_exponent text ≡ e
  pub net_is : net_exponent text ≡ e

-- a written number has no fraction
pub no_fraction : (c : List ℕ) (m : ℤ) → IsWrittenNumber c m → after_first is_point c ≡ []
no_fraction c m w = let past : length c ≤ position_or_len is_point c + 1 = omega (arith, w.no_point) in drop_of_length-le c past

-- and is a coefficient
pub coefficient_digits : (c : List ℕ) (m : ℤ) → IsWrittenNumber c m → are_digits_with_point (without_sign c) ≡ true
coefficient_digits c m w =
    let t = without_sign c in
    let before : before_first is_point t ≡ t = ap (λ n. take n t) w.no_point_after_sign ∙ take-length t in
    let past : length t ≤ position_or_len is_point t + 1 = omega (arith, w.no_point_after_sign) in
    let after : after_first is_point t ≡ [] = drop_of_length-le t past in
    ap (λ a. are_digits (a ++ after_first is_point t)) before ∙ ap (λ b. are_digits (t ++ b)) after ∙ ap are_digits (append-nil t) ∙ w.after_sign

minus_none : (e : ℤ) → e -ℤ pos 0 ≡ e
minus_none e = omega (arith, ints)

-- what a text writes whose coefficient and exponent are written numbers
from_parts : (text c : List ℕ) (m e : ℤ) → IsWrittenNumber c m → coefficient text ≡ c → number (after_first is_exponent_mark text) ≡ e
    → is_exponent_part (drop (position_or_len is_exponent_mark text) text) ≡ true → IsWrittenDecimal text m e
from_parts text c m e w whole written part =
    let digits = ap (λ t. are_digits_with_point (without_sign t)) whole ∙ coefficient_digits c m w in
    let none : length (after_first is_point (coefficient text)) ≡ 0 = ap (λ t. length (after_first is_point t)) whole ∙ ap length (no_fraction c m w) in
    record {
      form = ap (λ t. t && is_exponent_part (drop (position_or_len is_exponent_mark text) text)) digits ∙ part;
      mantissa_is = ap number whole ∙ w.value;
      written_is = written;
      net_is = ap (λ z. z -ℤ pos (length (after_first is_point (coefficient text)))) written ∙ ap (λ n. e -ℤ pos n) none ∙ minus_none e;
    }

-- a coefficient alone
parts_alone : (text : List ℕ) (m : ℤ) → IsWrittenNumber text m → IsWrittenDecimal text m (pos 0)
parts_alone text m w =
    let whole : before_first is_exponent_mark text ≡ text = ap (λ n. take n text) w.no_mark ∙ take-length text in
    let at_end : length text ≤ position_or_len is_exponent_mark text = omega (arith, w.no_mark) in
    let past : length text ≤ position_or_len is_exponent_mark text + 1 = omega (arith, w.no_mark) in
    let rest : drop (position_or_len is_exponent_mark text) text ≡ [] = drop_of_length-le text at_end in
    let none : after_first is_exponent_mark text ≡ [] = drop_of_length-le text past in
    from_parts text text m (pos 0) w whole (ap number none) (ap is_exponent_part rest)

-- a coefficient, a mark and an exponent
parts_both : (c x : List ℕ) (m e : ℤ) → IsWrittenNumber c m → IsWrittenNumber x e → IsWrittenDecimal (c ++ byte "e" ∷ x) m e
parts_both c x m e w v =
    let text = c ++ byte "e" ∷ x in
    let place : position_or_len is_exponent_mark text ≡ length c = position-append is_exponent_mark c (byte "e") x w.no_mark refl in
    let whole : before_first is_exponent_mark text ≡ c = ap (λ n. take n text) place ∙ take-append_seam c (byte "e" ∷ x) in
    let rest : drop (position_or_len is_exponent_mark text) text ≡ byte "e" ∷ x = ap (λ n. drop n text) place ∙ drop-append_seam c (byte "e" ∷ x) in
    let after : after_first is_exponent_mark text ≡ x = ap (λ n. drop (n + 1) text) place ∙ drop-append-add c (byte "e" ∷ x) 1 in
    from_parts text c m e w whole (ap number after ∙ v.value) (ap is_exponent_part rest ∙ v.after_sign)

some_exponent : (n : ℕ) → exponent_text (pos (suc n)) ≡ byte "e" ∷ signed_decimal (pos (suc n))
some_exponent n = let positive : nat_eq (suc n) 0 ≡ false = grind (arith, nat_tests) in ap (λ t. cond t [] (byte "e" ∷ signed_decimal (pos (suc n)))) positive

pub written_parts : (m e : ℤ) → unsigned_abs m < 10 ^ 64 → unsigned_abs e < 10 ^ 64 → IsWrittenDecimal (decimal_text m e) m e
written_parts m (negsuc n) small_m small_e = parts_both (signed_decimal m) (signed_decimal (negsuc n)) m (negsuc n) (written_number m small_m) (written_number (negsuc n) small_e)
written_parts m (pos zero) small_m small_e = let P : List ℕ → Type 0 = λ t. IsWrittenDecimal t m (pos 0) in subst P (sym (append-nil (signed_decimal m))) (parts_alone (signed_decimal m) m (written_number m small_m))
written_parts m (pos (suc n)) small_m small_e =
    let P : List ℕ → Type 0 = λ t. IsWrittenDecimal (signed_decimal m ++ t) m (pos (suc n)) in
    subst P (sym (some_exponent n)) (parts_both (signed_decimal m) (signed_decimal (pos (suc n))) m (pos (suc n)) (written_number m small_m) (written_number (pos (suc n)) small_e))

-- a number of 128 bits, in both words
pub fits_signed-wide : (z : ℤ) → FitsSigned w128 z → fits_signed 128 z ≡ true
fits_signed-wide z h = grind (arith, ints)

pub small_wide : (z : ℤ) → FitsSigned w128 z → unsigned_abs z < 10 ^ 64
small_wide z h = omega (arith, ints)

pub small_exponent : (z : ℤ) → is_exponent z ≡ true → unsigned_abs z < 10 ^ 64
small_exponent z h = grind (arith, nat_tests)

-- what `from_parts` writes
pub record IsWrittenCarried (m e : ℤ) : Type 0 where
  pub parts : decimal_of (decimal_text m e) ≡ Some (m, e)
  pub form : is_decimal (decimal_text m e) ≡ true
  pub fit : exponents_fit (decimal_text m e) ≡ true

pub written_carried : (m e : ℤ) → FitsSigned w128 m → is_exponent e ≡ true → IsWrittenCarried m e
written_carried m e wide small =
    let w = written_parts m e (small_wide m wide) (small_exponent e small) in
    let text = decimal_text m e in
    let fit : exponents_fit text ≡ true = ap (λ z. is_exponent z && is_exponent (net_exponent text)) w.written_is ∙ ap (λ t. t && is_exponent (net_exponent text)) small ∙ ap is_exponent w.net_is ∙ small in
    let mantissa_fits : fits_signed 128 (mantissa text) ≡ true = ap (fits_signed 128) w.mantissa_is ∙ fits_signed-wide m wide in
    let all : (is_decimal text && exponents_fit text && fits_signed 128 (mantissa text)) ≡ true = ap (λ t. t && exponents_fit text && fits_signed 128 (mantissa text)) w.form ∙ ap (λ t. t && fits_signed 128 (mantissa text)) fit ∙ mantissa_fits in
    record {
      parts = ap (λ t. cond t (Some (mantissa text, net_exponent text)) None) all ∙ ap (λ z. Some (z, net_exponent text)) w.mantissa_is ∙ ap (λ z. Some (m, z)) w.net_is;
      form = w.form;
      fit = fit;
    }

-- the digits of a written number
pub record IsWrittenDigits (ds : List ℕ) (n : ℕ) : Type 0 where
  pub digits : all_ascii_digits ds ≡ true
  pub some : 0 < length ds
  pub value : magnitude ds ≡ n

pub written_digits : (n : ℕ) → n < 10 ^ 64 → IsWrittenDigits (decimal n) n
written_digits n small =
    let numeral = decimal_is_IsNumeral_wide n small in
    let digits : all_ascii_digits (decimal n) ≡ true = own.from (decimal n) numeral.0.1 in
    record { digits = digits; some = numeral.0.0; value = ap (digits_value 10) (filter_digits (decimal n) digits) ∙ numeral.1 }
