-- Where a whole number stands whose text is an optional sign and digits.
use Rattle.std.proofs.Common.{◌≡◌, ◌+◌, ◌-◌, ◌^◌, ◌≤◌, ◌<◌, ℕ, List, [], ◌∷◌, ◌++◌, length, take, drop, get_or, Bool, true, false, ◌==◌, Option, Some, None, option_map, ℤ, pos, neg_ℤ, slice_index, slice_range, refl, sym, ap, ◌∙◌, arith, cond, inl, inr, nat_lt, drop_of_length-le}
use Rattle.std.proofs.lemmas.Bool.Decides.{nat_tests}
use Rattle.std.proofs.lemmas.List.{append_assoc, length-append, length-drop, drop-drop, get_or-drop, take_at, take-append-drop, length-take-le}
use Rattle.std.proofs.lemmas.List.Sums.{prefix_len-le-length, prefix_len_passes}
use Rattle.std.specs.Char.{is_ascii_digit, IsAsciiDigit}
use Rattle.std.specs.List.{AllByRecursion}
use Rattle.std.specs.Str.{all_ascii_digits}
use Rattle.std.specs.Str.Parse.{digits_value, digits_value_after}
use Rattle.smithy_texts.specs.Ranges.{fits_signed}
use Rattle.smithy_json_grammar.specs.Ascii.{minus_sign, plus_sign, is_numeric, is_ws}
use Rattle.smithy_json_grammar.specs.Grammar.{AreDigits, IsSign, IsBoundary}
use Rattle.smithy_json_grammar.specs.Number.{natural_number, signed_number}
use Rattle.smithy_json_grammar.specs.Standing.{IsRunAt, IsSignedAt}
use Rattle.smithy_json_grammar.specs.Private.Numeral.{first_byte, digit_count, run_value, after_sign, long_of}
use Rattle.smithy_json_grammar.proofs.SliceLemmas.{drop-slice, slice_between}
use Rattle.smithy_json_grammar.proofs.NumberLemmas.{Begins, begins_sign, first_digits}
use Rattle.smithy_json_grammar.proofs.NumberRestLemmas.{NoDigit, digit_alone, digit_count-digits, after_sign-sign}
use Rattle.smithy_json_grammar.proofs.WholeLemmas.{natural_digits}
use Rattle.smithy_json_grammar.proofs.LongLemmas.{wide_is_not_long, long_of_none, long_of_some}

-- the number of digits with their sign
abbrev pub with_sign : Bool → ℕ → ℤ
with_sign negative n = cond negative (neg_ℤ (pos n)) (pos n)

-- ---- what a signed number is made of

digit_is : (b : ℕ) → is_ascii_digit b ≡ true → IsAsciiDigit b
digit_is b h = (grind (arith, nat_tests), grind (arith, nat_tests))

are_all : (digits : List ℕ) → all_ascii_digits digits ≡ true → AllByRecursion IsAsciiDigit digits
are_all [] h = tt
are_all (d ∷ digits) h = go (is_ascii_digit d) refl (are_all digits)
  where
    go : (digit : Bool) → is_ascii_digit d ≡ digit → (all_ascii_digits digits ≡ true → AllByRecursion IsAsciiDigit digits) → AllByRecursion IsAsciiDigit (d ∷ digits)
    go true digit more = (digit_is d digit, more (rw digit at h))
    go false digit more = let bad : false ≡ true = rw digit at h in cc

of_digits : (f : ℕ → ℤ) (digits : List ℕ) (n : ℤ) → option_map f (natural_number digits) ≡ Some n → AreDigits digits × (f (digits_value 10 digits) ≡ n)
of_digits f [] n e = cc
of_digits f (d ∷ digits) n e = go (all_ascii_digits (d ∷ digits)) refl
  where
    go : (all : Bool) → all_ascii_digits (d ∷ digits) ≡ all → AreDigits (d ∷ digits) × (f (digits_value 10 (d ∷ digits)) ≡ n)
    go true all =
        let found : ◌≡◌ {A = Option ℤ} (Some (f (digits_value 10 (d ∷ digits)))) (Some n) = ap (λ t. option_map f (cond t (Some (digits_value 10 (d ∷ digits))) None)) (sym all) ∙ e in
        ((omega arith, are_all (d ∷ digits) all), cc)
    go false all =
        let none : ◌≡◌ {A = Option ℤ} None (Some n) = ap (λ t. option_map f (cond t (Some (digits_value 10 (d ∷ digits))) None)) (sym all) ∙ e in cc

pub record SignedParts (text : List ℕ) (n : ℤ) : Type 0 where
  pub sign : List ℕ
  pub digits : List ℕ
  pub split : text ≡ sign ++ digits
  pub is_sign : IsSign sign
  pub are : AreDigits digits
  pub value : with_sign (first_byte text == minus_sign) (digits_value 10 digits) ≡ n

pub signed_parts : (text : List ℕ) (n : ℤ) → signed_number text ≡ Some n → SignedParts text n
signed_parts [] n e = cc
signed_parts (b ∷ text) n e = go (b == plus_sign) refl (b == minus_sign) refl
  where
    go : (plus : Bool) → (b == plus_sign) ≡ plus → (minus : Bool) → (b == minus_sign) ≡ minus → SignedParts (b ∷ text) n
    go true plus minus _ =
        let found = of_digits pos text n (rw plus at e) in
        let first : b ≡ plus_sign = grind (arith, nat_tests) in
        record { sign = plus_sign ∷ []; digits = text; split = ap (λ x. x ∷ text) first; is_sign = inr (inl refl); are = found.0; value = rw first found.1 }
    go false plus true minus =
        let found = of_digits (λ v. neg_ℤ (pos v)) text n (rw (plus, minus) at e) in
        let first : b ≡ minus_sign = grind (arith, nat_tests) in
        record { sign = minus_sign ∷ []; digits = text; split = ap (λ x. x ∷ text) first; is_sign = inr (inr refl); are = found.0; value = rw minus found.1 }
    go false plus false minus =
        let found = of_digits pos (b ∷ text) n (rw (plus, minus) at e) in
        record { sign = []; digits = b ∷ text; split = refl; is_sign = inl refl; are = found.0; value = rw minus found.1 }

-- ---- where one stands

numeric_other : (b : ℕ) → is_numeric b ≡ false → is_ascii_digit b ≡ false
numeric_other b h = grind (arith, nat_tests)

-- behind a run no byte of numbers comes
run_ends : (input : List ℕ) (at end : ℕ) → IsRunAt is_numeric input at end → is_numeric (first_byte (drop end input)) ≡ false
run_ends input at end run = go (nat_lt end (length input)) refl
  where
    go : (inside : Bool) → nat_lt end (length input) ≡ inside → is_numeric (first_byte (drop end input)) ≡ false
    go true inside =
        let here : end + 0 ≡ end = omega arith in
        ap is_numeric (get_or-drop end input 0 0 ∙ ap (λ k. get_or input k 0) here) ∙ run.stops (grind (arith, nat_tests))
    go false inside =
        let past : length input ≤ end = grind (arith, nat_tests) in
        ap (λ s. is_numeric (first_byte s)) (drop_of_length-le input past)

ws_stops : (b : ℕ) → is_ws b ≡ true → is_numeric b ≡ false
ws_stops b h = grind (arith, nat_tests)

-- what may follow a value is no byte of numbers
pub boundary_stops : (rest : List ℕ) → IsBoundary rest → is_numeric (first_byte rest) ≡ false
boundary_stops [] h = refl
boundary_stops (b ∷ rest) (inl h) = ws_stops b h
boundary_stops (b ∷ rest) (inr (inl h)) = rw h refl
boundary_stops (b ∷ rest) (inr (inr (inl h))) = rw h refl
boundary_stops (b ∷ rest) (inr (inr (inr h))) = rw h refl

first_of : (text rest : List ℕ) → 0 < length text → first_byte (text ++ rest) ≡ first_byte text
first_of [] rest some = absurd (omega (arith, some))
first_of (b ∷ text) rest some = refl

module _ (input : List ℕ) (at start : ℕ) (behind : drop start input ≡ after_sign (drop at input)) (within : start ≤ length input) where
  abbrev pub is_negative : Bool
  is_negative = first_byte (drop at input) == minus_sign

  module _ (end : ℕ) (n : ℤ) (signed : IsSignedAt input at end n) where
    parts : SignedParts (slice_range input at end) n
    parts = signed_parts (slice_range input at end) n signed.value

    none : NoDigit (drop end input)
    none = numeric_other (first_byte (drop end input)) (run_ends input at end signed.run)

    here : drop at input ≡ parts.sign ++ (parts.digits ++ drop end input)
    here = drop-slice input at end signed.run.ordered ∙ ap (λ t. t ++ drop end input) parts.split ∙ append_assoc parts.sign parts.digits (drop end input)

    split : drop start input ≡ parts.digits ++ drop end input
    split = behind ∙ ap after_sign here ∙ after_sign-sign parts.sign parts.digits (drop end input) parts.is_sign parts.are

    counted : digit_count (drop start input) ≡ length parts.digits
    counted = ap digit_count split ∙ digit_count-digits parts.digits (drop end input) parts.are.1 none

    pub some_digits : 0 < digit_count (drop start input)
    some_digits = let some = parts.are.0 in omega (arith, counted, some)

    pub end_is : end ≡ start + digit_count (drop start input)
    end_is =
        let size = ap length split ∙ length-append parts.digits (drop end input) in
        let some = parts.are.0 in
        let last = signed.run.within in
        omega (arith, counted, size, some, length-drop start input, length-drop end input, last)

    first_same : first_byte (slice_range input at end) ≡ first_byte (drop at input)
    first_same =
        let some = parts.are.0 in
        let size : 0 < length (slice_range input at end) = omega (arith, ap length parts.split, length-append parts.sign parts.digits, some) in
        sym (ap first_byte (drop-slice input at end signed.run.ordered) ∙ first_of (slice_range input at end) (drop end input) size)

    value : run_value 0 (drop start input) ≡ digits_value 10 parts.digits
    value =
        ap (λ k. digits_value_after 10 0 (take k (drop start input))) counted
        ∙ ap (λ s. digits_value_after 10 0 (take (length parts.digits) s)) split
        ∙ ap (digits_value_after 10 0) (take_at parts.digits (drop end input) _ refl)

    pub signed_is : with_sign is_negative (run_value 0 (drop start input)) ≡ n
    signed_is =
        ap (with_sign is_negative) value ∙ ap (λ b. with_sign (b == minus_sign) (digits_value 10 parts.digits)) (sym first_same) ∙ parts.value

    not_signed : fits_signed 64 (with_sign is_negative (run_value 0 (drop start input))) ≡ false → ⊥
    not_signed fails =
        let same = ap (fits_signed 64) signed_is in
        let fits = signed.fits in cc

    pub no_wide : 2 ^ 64 ≤ run_value 0 (drop start input) → ⊥
    no_wide wide = not_signed (wide_is_not_long is_negative (run_value 0 (drop start input)) wide)

    pub no_long : long_of is_negative (run_value 0 (drop start input)) ≡ None → ⊥
    no_long out = not_signed (long_of_none is_negative (run_value 0 (drop start input)) out)

    pub run_ends_there : is_numeric (first_byte (drop end input)) ≡ false
    run_ends_there = run_ends input at end signed.run

-- ---- what was read

numeric_digit : (b : ℕ) → is_ascii_digit b ≡ true → is_numeric b ≡ true
numeric_digit b h = grind (arith, nat_tests)

signed_digits : (sign digits : List ℕ) → IsSign sign → AreDigits digits → signed_number (sign ++ digits) ≡ Some (with_sign (first_byte (sign ++ digits) == minus_sign) (digits_value 10 digits))
signed_digits sign [] is are = absurd (omega (arith, are.0))
signed_digits sign (d ∷ digits) (inl none) are =
    let alone = digit_alone d are.1.0 in
    rw (none, alone.0, alone.1) (ap (option_map pos) (natural_digits d digits are.1))
signed_digits sign (d ∷ digits) (inr (inl plus)) are = rw plus (ap (option_map pos) (natural_digits d digits are.1))
signed_digits sign (d ∷ digits) (inr (inr minus)) are = rw minus (ap (option_map (λ v. neg_ℤ (pos v))) (natural_digits d digits are.1))

module _ (input : List ℕ) (at start end : ℕ) (n : ℤ) (behind : drop start input ≡ after_sign (drop at input)) (ordered : at ≤ start) (within : start ≤ length input)
    (some : 0 < digit_count (drop start input)) (size : end ≡ start + digit_count (drop start input)) (inside : end ≤ length input) where
  abbrev front : Begins IsSign (drop at input) (after_sign (drop at input))
  front = begins_sign (drop at input)

  abbrev count : ℕ
  count = digit_count (drop start input)

  abbrev digits : List ℕ
  digits = take count (drop start input)

  split_front : drop at input ≡ front.part ++ drop start input
  split_front = front.split ∙ ap (λ t. front.part ++ t) (sym behind)

  start_is : start ≡ at + length front.part
  start_is = omega (arith, ap length split_front, length-append front.part (drop start input), length-drop at input, length-drop start input)

  are : AreDigits digits
  are = (omega (arith, length-take-le count (drop start input) (prefix_len-le-length is_ascii_digit (drop start input))), first_digits (drop start input))

  text : slice_range input at end ≡ front.part ++ digits
  text =
      let rest : drop start input ≡ digits ++ drop end input = sym (take-append-drop count (drop start input)) ∙ ap (λ t. digits ++ t) (drop-drop count start input ∙ ap (λ k. drop k input) (sym size)) in
      slice_between input at end (front.part ++ digits) (omega arith) inside (split_front ∙ ap (λ t. front.part ++ t) rest ∙ sym (append_assoc front.part digits (drop end input)))

  -- the one byte of a sign is one of numbers
  sign_passes : (sign : List ℕ) → IsSign sign → drop at input ≡ sign ++ drop start input → (k : ℕ) → at ≤ k → k < at + length sign → is_numeric (slice_index input k) ≡ true
  sign_passes sign (inl none) here k from to = absurd (omega (arith, ap length none))
  sign_passes sign (inr (inl plus)) here k from to =
      let same : k ≡ at + 0 = omega (arith, ap length plus) in
      ap (λ i. is_numeric (slice_index input i)) same ∙ ap is_numeric (sym (get_or-drop at input 0 0) ∙ ap first_byte (here ∙ ap (λ t. t ++ drop start input) plus))
  sign_passes sign (inr (inr minus)) here k from to =
      let same : k ≡ at + 0 = omega (arith, ap length minus) in
      ap (λ i. is_numeric (slice_index input i)) same ∙ ap is_numeric (sym (get_or-drop at input 0 0) ∙ ap first_byte (here ∙ ap (λ t. t ++ drop start input) minus))

  passes : (k : ℕ) → at ≤ k → k < end → is_numeric (slice_index input k) ≡ true
  passes k from to = go (nat_lt k start) refl
    where
      go : (early : Bool) → nat_lt k start ≡ early → is_numeric (slice_index input k) ≡ true
      go true early =
          let before : k < start = grind (arith, nat_tests) in
          sign_passes front.part front.is split_front k from (omega (arith, start_is))
      go false early =
          let behind_sign : start ≤ k = grind (arith, nat_tests) in
          let there : start + (k - start) ≡ k = omega arith in
          let digit = prefix_len_passes is_ascii_digit (drop start input) (k - start) 0 (omega arith) in
          numeric_digit (slice_index input k) (sym (ap is_ascii_digit (get_or-drop start input (k - start) 0 ∙ ap (λ i. get_or input i 0) there)) ∙ digit)

  stops_here : is_numeric (first_byte (drop end input)) ≡ false → end < length input → is_numeric (slice_index input end) ≡ false
  stops_here stop short =
      let here : end + 0 ≡ end = omega arith in
      sym (ap is_numeric (get_or-drop end input 0 0 ∙ ap (λ k. get_or input k 0) here)) ∙ stop

  pub signed_found : is_numeric (first_byte (drop end input)) ≡ false → long_of (first_byte (drop at input) == minus_sign) (run_value 0 (drop start input)) ≡ Some n → IsSignedAt input at end n
  signed_found stop value =
      let long = long_of_some (first_byte (drop at input) == minus_sign) (run_value 0 (drop start input)) n value in
      let some_byte : 0 < length (slice_range input at end) = let more = are.0 in omega (arith, ap length text, length-append front.part digits, more) in
      let first : first_byte (front.part ++ digits) ≡ first_byte (drop at input) =
      ap first_byte (sym text) ∙ sym (ap first_byte (drop-slice input at end (omega arith)) ∙ first_of (slice_range input at end) (drop end input) some_byte) in
      record {
        run = record { ordered = omega arith; within = inside; pass = passes; stops = stops_here stop };
        value = ap signed_number text ∙ signed_digits front.part digits front.is are ∙ ap (λ b. Some (with_sign (b == minus_sign) (digits_value 10 digits))) first ∙ ap Some long.0;
        fits = long.1;
      }
