-- A written number of seconds is read as its instant.
use Rattle.std.proofs.Common.{◌≡◌, ◌+◌, ◌-◌, ◌*◌, ◌/◌, ◌%◌, ◌^◌, ◌<◌, ◌≤◌, ◌&&◌, ℕ, suc, List, [], ◌∷◌, ◌++◌, length, take, drop, filter, Bool, cond, true, false, not, nat_eq, refl, sym, ap, subst, ◌∙◌, arith, Some, None, option_map, ℤ, pos, negsuc, ◌+ℤ◌, ◌-ℤ◌, unsigned_abs, eqb-true}
use Rattle.std.proofs.Math.Seq.{take-append_seam, drop-append-add, take-length}
use Rattle.std.proofs.Math.ListN.{drop_of_length-le}
use Rattle.std.proofs.lemmas.Bool.Decides.{nat_tests}
use Rattle.std.proofs.lemmas.List.{append-nil, length-append}
use Rattle.std.specs.Char.{is_ascii_digit}
use Rattle.std.specs.List.{position_or_len, before_first, after_first}
use Rattle.std.specs.Str.{byte, all_ascii_digits}
use Rattle.smithy_texts.specs.Numeral.{are_digits, magnitude, without_sign, begins_with}
use Rattle.smithy_texts.specs.Decimal.{is_point, is_exponent_mark, are_digits_with_point, is_decimal, coefficient, is_exponent_part, written_exponent, net_exponent}
use Rattle.smithy_texts.specs.Numeral.{number, signed}
use Rattle.smithy_texts.specs.Ranges.{fits_signed}
use Rattle.smithy_instants.specs.Epoch.{is_epoch, epoch_nanos, scaled}
use Rattle.smithy_instants.specs.Instant.{nanos_per_second, is_instant}
use Rattle.smithy_instants.specs.WrittenDate.{epoch_text, fraction_text, fraction_digits}
use Rattle.std.specs.Fmt.{decimal, sign_text}
use Rattle.std.specs.Int.{is_negative}
use Rattle.std.proofs.Math.Nat.{add-mul, mul_assoc}
use Rattle.std.proofs.lemmas.Nat.{pow-add}
use Rattle.jiff_core.proofs.SignedLemmas.{signed_arith}
use Rattle.smithy_instants.proofs.EpochLemmas.{instant_fits}
use Rattle.std.specs.Char.{digit_value}
use Rattle.std.specs.Str.Parse.{digits_value_after}
use Rattle.std.proofs.lemmas.List.Elements.{filter-append}
use Rattle.smithy_texts.proofs.NumeralLemmas.{are_digits-append}
use Rattle.smithy_instants.proofs.FractionTexts.{value_after, fraction_is}
use Rattle.smithy_texts.proofs.WrittenNumerals.{IsWrittenNumber, coefficient_digits, no_fraction, no_sign, none_in_digits, mark_is_no_digit, point_is_no_digit, position-append, filter_digits, written_decimal, written_digits, small_wide}

-- a text without a mark, by the digits before and behind its point
pub record IsPlain (text : List ℕ) (is_negative : Bool) (m places : ℕ) : Type 0 where
  pub no_mark : position_or_len is_exponent_mark text ≡ length text
  pub form : are_digits_with_point (without_sign text) ≡ true
  pub sign : begins_with (byte "-") text ≡ is_negative
  pub digits : magnitude text ≡ m
  pub behind : length (after_first is_point text) ≡ places

-- what such a text means
pub record HasParts (text : List ℕ) (is_negative : Bool) (m places : ℕ) : Type 0 where
  pub form : is_epoch text ≡ true
  pub sign : begins_with (byte "-") (coefficient text) ≡ is_negative
  pub digits : magnitude (coefficient text) ≡ m
  pub net : net_exponent text ≡ pos 0 -ℤ pos places

pub parts_of_plain : (text : List ℕ) (b : Bool) (m places : ℕ) → IsPlain text b m places → HasParts text b m places
parts_of_plain text b m places p =
    let whole : coefficient text ≡ text = ap (λ n. take n text) p.no_mark ∙ take-length text in
    let at_end : length text ≤ position_or_len is_exponent_mark text = omega (arith, p.no_mark) in
    let past : length text ≤ position_or_len is_exponent_mark text + 1 = omega (arith, p.no_mark) in
    let rest : drop (position_or_len is_exponent_mark text) text ≡ [] = drop_of_length-le text at_end in
    let none : after_first is_exponent_mark text ≡ [] = drop_of_length-le text past in
    let written : written_exponent text ≡ pos 0 = ap number none in
    let decimal : is_decimal text ≡ true = ap (λ t. are_digits_with_point (without_sign t) && is_exponent_part (drop (position_or_len is_exponent_mark text) text)) whole
    ∙ ap (λ t. t && is_exponent_part (drop (position_or_len is_exponent_mark text) text)) p.form ∙ ap is_exponent_part rest in
    record {
      form = ap (λ z. is_decimal text && fits_signed 64 z) written ∙ ap (λ t. t && fits_signed 64 (pos 0)) decimal;
      sign = ap (begins_with (byte "-")) whole ∙ p.sign;
      digits = ap magnitude whole ∙ p.digits;
      net = ap (λ z. z -ℤ pos (length (after_first is_point (coefficient text)))) written ∙ ap (λ t. pos 0 -ℤ pos (length (after_first is_point t))) whole ∙ ap (λ n. pos 0 -ℤ pos n) p.behind;
    }

one_more : (text : List ℕ) → position_or_len is_point (45 ∷ text) + 1 ≡ suc (position_or_len is_point text + 1)
one_more text = omega arith

-- a minus before such a text
pub plain_minus : (text : List ℕ) (m places : ℕ) → IsPlain text false m places → without_sign text ≡ text → IsPlain (45 ∷ text) true m places
plain_minus text m places p same = record {
  no_mark = omega (arith, p.no_mark);
  form = ap are_digits_with_point (sym same) ∙ p.form;
  sign = refl;
  digits = p.digits;
  behind = ap (λ n. length (drop n (45 ∷ text))) (one_more text) ∙ p.behind;
}

-- a search goes on behind a front in which nothing passes
position_skip : (p : ℕ → Bool) (xs ys : List ℕ) → position_or_len p xs ≡ length xs → position_or_len p (xs ++ ys) ≡ length xs + position_or_len p ys
position_skip p [] ys none = omega arith
position_skip p (c ∷ xs) ys none = by (p c) none (λ e. position_skip p xs ys e)
  where
    by : (t : Bool) → cond (not t) (1 + position_or_len p xs) 0 ≡ suc (length xs) → (position_or_len p xs ≡ length xs → position_or_len p (xs ++ ys) ≡ length xs + position_or_len p ys)
        → cond (not t) (1 + position_or_len p (xs ++ ys)) 0 ≡ suc (length xs) + position_or_len p ys
    by false none ih = let e = ih (omega arith) in omega arith
    by true none ih = absurd (omega arith)

value_append : (n : ℕ) (xs ys : List ℕ) → digits_value_after 10 n (xs ++ ys) ≡ digits_value_after 10 (digits_value_after 10 n xs) ys
value_append n [] ys = refl
value_append n (c ∷ xs) ys = value_append (n * 10 + digit_value c) xs ys

-- digits alone
pub plain_digits : (ds : List ℕ) (m : ℕ) → IsWrittenNumber ds (pos m) → all_ascii_digits ds ≡ true → magnitude ds ≡ m → IsPlain ds false m 0
plain_digits ds m w digits value = record {
  no_mark = w.no_mark;
  form = coefficient_digits ds (pos m) w;
  sign = (no_sign ds digits).begins;
  digits = value;
  behind = ap length (no_fraction ds (pos m) w);
}

no_sign_before : (ds more : List ℕ) → all_ascii_digits ds ≡ true → 0 < length ds → (without_sign (ds ++ more) ≡ ds ++ more) × (begins_with (byte "-") (ds ++ more) ≡ false)
no_sign_before [] more h some = absurd (omega arith)
no_sign_before (c ∷ ds) more h some = (grind (arith, nat_tests), grind (arith, nat_tests))

-- digits, a point and digits
pub plain_fraction : (ds f : List ℕ) (m : ℕ) → IsWrittenNumber ds (pos m) → all_ascii_digits ds ≡ true → 0 < length ds → magnitude ds ≡ m → all_ascii_digits f ≡ true
    → IsPlain (ds ++ byte "." ∷ f) false (m * 10 ^ length f + magnitude f) (length f)
plain_fraction ds f m w digits some value fraction =
    let text = ds ++ byte "." ∷ f in
    let sign = no_sign_before ds (byte "." ∷ f) digits some in
    let mark = none_in_digits is_exponent_mark mark_is_no_digit f fraction in
    let size = length-append ds (byte "." ∷ f) in
    let no_point = none_in_digits is_point point_is_no_digit ds digits in
    let place : position_or_len is_point text ≡ length ds = position-append is_point ds (byte ".") f no_point refl in
    let before : before_first is_point text ≡ ds = ap (λ n. take n text) place ∙ take-append_seam ds (byte "." ∷ f) in
    let after : after_first is_point text ≡ f = ap (λ n. drop (n + 1) text) place ∙ drop-append-add ds (byte "." ∷ f) 1 in
    let tests : are_digits (ds ++ f) ≡ true = are_digits-append ds f ∙ grind (arith, nat_tests) in
    let kept : filter is_ascii_digit text ≡ ds ++ f = filter-append is_ascii_digit ds (byte "." ∷ f) ∙ ap (λ l. l ++ filter is_ascii_digit f) (filter_digits ds digits) ∙ ap (λ l. ds ++ l) (filter_digits f fraction) in
    let front : digits_value_after 10 0 ds ≡ m = ap (digits_value_after 10 0) (sym (filter_digits ds digits)) ∙ value in
    let back : digits_value_after 10 0 f ≡ magnitude f = ap (digits_value_after 10 0) (sym (filter_digits f fraction)) in
    record {
      no_mark = position_skip is_exponent_mark ds (byte "." ∷ f) w.no_mark ∙ omega (arith, mark, size);
      form = ap are_digits_with_point sign.0 ∙ ap (λ a. are_digits (a ++ after_first is_point text)) before ∙ ap (λ b. are_digits (ds ++ b)) after ∙ tests;
      sign = sign.1;
      digits = ap (digits_value_after 10 0) kept ∙ value_append 0 ds f ∙ ap (λ n. digits_value_after 10 n f) front ∙ value_after m f ∙ ap (λ n. m * 10 ^ length f + n) back;
      behind = ap length after;
    }

-- the nanoseconds of a text, by its digits and how many of them stand behind the point
parts_epoch : (text : List ℕ) (b : Bool) (m places a : ℕ) → HasParts text b m places → places ≤ 9 → m * 10 ^ (9 - places) ≡ a → epoch_nanos text ≡ Some (signed b a)
parts_epoch text b m places a p few value =
    let power : pos 0 -ℤ pos places +ℤ pos 9 ≡ pos (9 - places) = omega (arith, signed_arith) in
    ap (λ t. cond t (option_map (signed (begins_with (byte "-") (coefficient text))) (scaled (magnitude (coefficient text)) (net_exponent text +ℤ pos 9))) None) p.form
    ∙ ap (λ s. option_map (signed s) (scaled (magnitude (coefficient text)) (net_exponent text +ℤ pos 9))) p.sign
    ∙ ap (λ k. option_map (signed b) (scaled k (net_exponent text +ℤ pos 9))) p.digits
    ∙ ap (λ e. option_map (signed b) (scaled m (e +ℤ pos 9))) p.net ∙ ap (λ e. option_map (signed b) (scaled m e)) power ∙ ap (λ k. Some (signed b k)) value

-- a text of digits alone, of any size
plain_of_digits : (ds : List ℕ) → all_ascii_digits ds ≡ true → 0 < length ds → IsPlain ds false (magnitude ds) 0
plain_of_digits ds digits some =
    let sign = no_sign ds digits in
    let mark = none_in_digits is_exponent_mark mark_is_no_digit ds digits in
    let point = none_in_digits is_point point_is_no_digit ds digits in
    let before : before_first is_point ds ≡ ds = ap (λ n. take n ds) point ∙ take-length ds in
    let after : after_first is_point ds ≡ [] = drop_of_length-le ds (omega (arith, point)) in
    let form : are_digits_with_point ds ≡ true = ap (λ a. are_digits (a ++ after_first is_point ds)) before ∙ ap (λ b. are_digits (ds ++ b)) after ∙ ap are_digits (append-nil ds) ∙ grind (arith, nat_tests) in
    record {
      no_mark = mark;
      form = ap are_digits_with_point sign.sign ∙ form;
      sign = sign.begins;
      digits = refl;
      behind = ap length after;
    }

-- its seconds
pub digits_epoch : (ds : List ℕ) → are_digits ds ≡ true → epoch_nanos ds ≡ Some (pos (magnitude ds * 10 ^ 9))
digits_epoch ds are =
    let digits : all_ascii_digits ds ≡ true = grind (arith, nat_tests) in
    let some : 0 < length ds = grind (arith, nat_tests) in
    parts_epoch ds false (magnitude ds) 0 (magnitude ds * 10 ^ 9) (parts_of_plain ds false (magnitude ds) 0 (plain_of_digits ds digits some)) (omega arith) refl

-- the text of seconds without a sign
record IsBody (text : List ℕ) (q r : ℕ) : Type 0 where
  number : ℕ
  places : ℕ
  plain : IsPlain text false number places
  few : places ≤ 9
  value : number * 10 ^ (9 - places) ≡ q * 10 ^ 9 + r
  no_sign_first : without_sign text ≡ text

body : (q r : ℕ) → q < 10 ^ 64 → r < 10 ^ 9 → IsBody (decimal q ++ fraction_text 9 r) q r
unfolding fraction_text
body q r wide small = by (nat_eq r 0) refl
  where
    by : (t : Bool) → nat_eq r 0 ≡ t → IsBody (decimal q ++ cond t [] (byte "." ∷ fraction_digits 9 r)) q r
    by true e =
        let w = written_decimal q wide in
        let ds = written_digits q wide in
        let none : r ≡ 0 = eqb-true r 0 e in
        let P : List ℕ → Type 0 = λ t. IsBody t q r in
        subst P (sym (append-nil (decimal q))) (record {
          number = q;
          places = 0;
          plain = plain_digits (decimal q) q w ds.digits ds.value;
          few = omega arith;
          value = omega arith;
          no_sign_first = (no_sign (decimal q) ds.digits).sign;
        })
    by false e =
        let w = written_decimal q wide in
        let ds = written_digits q wide in
        let f = fraction_is 9 r small in
        let fs = fraction_digits 9 r in
        let m = q * 10 ^ length fs + magnitude fs in
        let left : length fs + (9 - length fs) ≡ 9 = (let s = f.short in omega arith) in
        let whole : m * 10 ^ (9 - length fs) ≡ q * 10 ^ 9 + r =
        add-mul (q * 10 ^ length fs) (magnitude fs) (10 ^ (9 - length fs))
        ∙ ap (λ k. k + magnitude fs * 10 ^ (9 - length fs)) (mul_assoc q (10 ^ length fs) (10 ^ (9 - length fs)) ∙ ap (λ p. q * p) (sym (pow-add 10 (length fs) (9 - length fs)) ∙ ap (λ k. 10 ^ k) left))
        ∙ ap (λ k. q * 10 ^ 9 + k) f.value in
        record {
          number = m;
          places = length fs;
          plain = plain_fraction (decimal q) fs q w ds.digits ds.some ds.value f.digits;
          few = f.short;
          value = whole;
          no_sign_first = (no_sign_before (decimal q) (byte "." ∷ fs) ds.digits ds.some).0;
        }

size_is : (a : ℕ) → a / nanos_per_second * 10 ^ 9 + a % nanos_per_second ≡ a
size_is a = omega arith

pub wide_seconds : (n : ℤ) → is_instant n ≡ true → unsigned_abs n / nanos_per_second < 10 ^ 64
wide_seconds n h = let f = instant_fits n h in let s = small_wide n f in omega arith

pub not_negative : (a : ℕ) → is_negative (pos a) ≡ false
not_negative a = grind (arith, nat_tests)

-- the written seconds of an instant are read as this instant
pub epoch_text_reads : (n : ℤ) → is_instant n ≡ true → epoch_nanos (epoch_text n) ≡ Some n
epoch_text_reads (pos a) h =
    let b = body (a / nanos_per_second) (a % nanos_per_second) (wide_seconds (pos a) h) (omega arith) in
    let t = decimal (a / nanos_per_second) ++ fraction_text 9 (a % nanos_per_second) in
    ap (λ s. epoch_nanos ((sign_text s ++ decimal (a / nanos_per_second)) ++ fraction_text 9 (a % nanos_per_second))) (not_negative a)
    ∙ parts_epoch t false b.number b.places a (parts_of_plain t false b.number b.places b.plain) b.few (b.value ∙ size_is a)
epoch_text_reads (negsuc k) h =
    let a = suc k in
    let b = body (a / nanos_per_second) (a % nanos_per_second) (wide_seconds (negsuc k) h) (omega arith) in
    let t = decimal (a / nanos_per_second) ++ fraction_text 9 (a % nanos_per_second) in
    parts_epoch (45 ∷ t) true b.number b.places a (parts_of_plain (45 ∷ t) true b.number b.places (plain_minus t b.number b.places b.plain b.no_sign_first)) b.few (b.value ∙ size_is a)
