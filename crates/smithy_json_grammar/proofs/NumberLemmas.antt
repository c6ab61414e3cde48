-- The text of a number: what the computed rests say, and that they are the rests of the grammar.
use Rattle.std.proofs.Common.{◌≡◌, ◌≢◌, ◌+◌, ◌≤◌, ◌<◌, ℕ, suc, List, [], ◌∷◌, ◌++◌, length, take, drop, Bool, true, false, ◌||◌, ◌==◌, Option, Some, None, refl, sym, ap, ◌∙◌, arith, inl, inr, subst, cond, ◌⊎◌}
use Rattle.std.proofs.lemmas.Bool.Decides.{nat_tests}
use Rattle.std.proofs.lemmas.List.{take-append-drop, append_assoc, length-take-le}
use Rattle.std.proofs.lemmas.List.Sums.{prefix_len-le-length}
use Rattle.std.specs.Char.{is_ascii_digit, IsAsciiDigit}
use Rattle.std.specs.List.{AllByRecursion}
use Rattle.smithy_json_grammar.specs.Ascii.{minus_sign, plus_sign, digit_zero, decimal_point, is_e}
use Rattle.smithy_json_grammar.specs.Grammar.{AreDigits, IsInt, IsFrac, IsSign, IsExp}
use Rattle.smithy_json_grammar.specs.Private.Numeral.{first_byte, digit_count, after_digits, after_minus, after_sign, after_int, after_frac, after_exp}

-- a part of P comes first, and then the rest
pub record Begins (P : List ℕ → Type 0) (s rest : List ℕ) : Type 0 where
  pub part : List ℕ
  pub split : s ≡ part ++ rest
  pub is : P part

abbrev pub IsMinus : List ℕ → Type 0
IsMinus minus = (minus ≡ []) ⊎ (minus ≡ minus_sign ∷ [])

-- ---- what was found is of the grammar

digit_test : (b : ℕ) → is_ascii_digit b ≡ true → IsAsciiDigit b
digit_test b h = (grind (arith, nat_tests), grind (arith, nat_tests))

pub first_digits : (s : List ℕ) → AllByRecursion IsAsciiDigit (take (digit_count s) s)
first_digits [] = tt
first_digits (b ∷ s) = go (is_ascii_digit b) refl (digit_count s) (first_digits s)
  where
    go : (digit : Bool) → is_ascii_digit b ≡ digit → (n : ℕ) → AllByRecursion IsAsciiDigit (take n s) → AllByRecursion IsAsciiDigit (take (cond digit (1 + n) 0) (b ∷ s))
    go true digit n rest =
        let one : suc n ≡ 1 + n = omega arith in
        subst (λ k. AllByRecursion IsAsciiDigit (take k (b ∷ s))) one (digit_test b digit, rest)
    go false digit n rest = tt

pub begins_digits : (s rest : List ℕ) → after_digits s ≡ Some rest → Begins AreDigits s rest
begins_digits s rest e = go (digit_count s == 0) refl
  where
    go : (none : Bool) → (digit_count s == 0) ≡ none → Begins AreDigits s rest
    go true none = let no : ◌≡◌ {A = Option (List ℕ)} None (Some rest) = rw none at e in cc
    go false none =
        let found : ◌≡◌ {A = Option (List ℕ)} (Some (drop (digit_count s) s)) (Some rest) = rw none at e in
        let same : drop (digit_count s) s ≡ rest = cc in
        let some : 0 < digit_count s = grind (arith, nat_tests) in
        let short : digit_count s ≤ length s = prefix_len-le-length is_ascii_digit s in
        record {
          part = take (digit_count s) s;
          split = sym (take-append-drop (digit_count s) s) ∙ ap (λ t. take (digit_count s) s ++ t) same;
          is = (omega (arith, length-take-le (digit_count s) s short), first_digits s);
        }

-- a first byte that isn't 0 is there
pub first_is : (s : List ℕ) (b : ℕ) → first_byte s ≡ b → 0 < b → s ≡ b ∷ drop 1 s
first_is [] b e some = absurd (omega arith)
first_is (c ∷ s) b e some = ap (λ x. x ∷ s) e

pub begins_minus : (s : List ℕ) → Begins IsMinus s (after_minus s)
begins_minus s = go (first_byte s == minus_sign) refl
  where
    go : (minus : Bool) → (first_byte s == minus_sign) ≡ minus → Begins IsMinus s (cond minus (drop 1 s) s)
    go true minus = record { part = minus_sign ∷ []; split = first_is s minus_sign (grind (arith, nat_tests)) (omega arith); is = inr refl }
    go false minus = record { part = []; split = refl; is = inl refl }

pub begins_sign : (s : List ℕ) → Begins IsSign s (after_sign s)
begins_sign s = go (first_byte s == minus_sign) refl (first_byte s == plus_sign) refl
  where
    go : (minus : Bool) → (first_byte s == minus_sign) ≡ minus → (plus : Bool) → (first_byte s == plus_sign) ≡ plus → Begins IsSign s (cond (minus || plus) (drop 1 s) s)
    go true minus plus _ = record { part = minus_sign ∷ []; split = first_is s minus_sign (grind (arith, nat_tests)) (omega arith); is = inr (inr refl) }
    go false minus true plus = record { part = plus_sign ∷ []; split = first_is s plus_sign (grind (arith, nat_tests)) (omega arith); is = inr (inl refl) }
    go false minus false plus = record { part = []; split = refl; is = inl refl }

-- digits that don't begin with 0 are an int
pub digits_int : (digits rest : List ℕ) → AreDigits digits → first_byte (digits ++ rest) ≢ digit_zero → IsInt digits
digits_int [] rest are other = absurd (omega (arith, are.0))
digits_int (d ∷ []) rest are other = are.1.0
digits_int (d ∷ e ∷ digits) rest are other = (are.1.0, other, are.1.1)

pub begins_int : (s rest : List ℕ) → after_int s ≡ Some rest → Begins IsInt s rest
begins_int s rest e = go (first_byte s == digit_zero) refl
  where
    go : (zero_first : Bool) → (first_byte s == digit_zero) ≡ zero_first → Begins IsInt s rest
    go true zero_first =
        let found : ◌≡◌ {A = Option (List ℕ)} (Some (drop 1 s)) (Some rest) = rw zero_first at e in
        let same : drop 1 s ≡ rest = cc in
        record {
          part = digit_zero ∷ [];
          split = first_is s digit_zero (grind (arith, nat_tests)) (omega arith) ∙ ap (λ t. digit_zero ∷ t) same;
          is = (omega arith, omega arith);
        }
    go false zero_first =
        let digits = begins_digits s rest (rw zero_first at e) in
        let other : first_byte s ≢ digit_zero = grind (arith, nat_tests) in
        record { part = digits.part; split = digits.split; is = digits_int digits.part rest digits.is (subst (λ t. first_byte t ≢ digit_zero) digits.split other) }

pub begins_frac : (s rest : List ℕ) → after_frac s ≡ Some rest → Begins IsFrac s rest
begins_frac s rest e = go (first_byte s == decimal_point) refl
  where
    go : (point : Bool) → (first_byte s == decimal_point) ≡ point → Begins IsFrac s rest
    go true point =
        let digits = begins_digits (drop 1 s) rest (rw point at e) in
        record {
          part = decimal_point ∷ digits.part;
          split = first_is s decimal_point (grind (arith, nat_tests)) (omega arith) ∙ ap (λ t. decimal_point ∷ t) digits.split;
          is = (refl, digits.is);
        }
    go false point =
        let found : ◌≡◌ {A = Option (List ℕ)} (Some s) (Some rest) = rw point at e in
        record { part = []; split = cc; is = tt }

e_is_some : (b : ℕ) → is_e b ≡ true → 0 < b
e_is_some b h = grind (arith, nat_tests)

pub begins_exp : (s rest : List ℕ) → after_exp s ≡ Some rest → Begins IsExp s rest
begins_exp s rest e = go (is_e (first_byte s)) refl
  where
    go : (letter : Bool) → is_e (first_byte s) ≡ letter → Begins IsExp s rest
    go true letter =
        let sign = begins_sign (drop 1 s) in
        let digits = begins_digits (after_sign (drop 1 s)) rest (rw letter at e) in
        record {
          part = first_byte s ∷ (sign.part ++ digits.part);
          split = first_is s (first_byte s) refl (e_is_some (first_byte s) letter)
              ∙ ap (λ t. first_byte s ∷ t) (sign.split ∙ ap (λ t. sign.part ++ t) digits.split ∙ sym (append_assoc sign.part digits.part rest));
          is = (letter, (sign.part, digits.part, refl, sign.is, digits.is));
        }
    go false letter =
        let found : ◌≡◌ {A = Option (List ℕ)} (Some s) (Some rest) = rw letter at e in
        record { part = []; split = cc; is = tt }
