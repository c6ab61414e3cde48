-- After each part of a number of the grammar the computed rest is the rest.
use Rattle.std.proofs.Common.{◌≡◌, ◌≢◌, ◌+◌, ℕ, suc, List, [], ◌∷◌, ◌++◌, length, Bool, true, false, ◌==◌, Some, option_and_then, refl, ap, ◌∙◌, arith, inl, inr}
use Rattle.std.proofs.lemmas.Bool.Decides.{nat_tests}
use Rattle.std.proofs.lemmas.List.{append_assoc, drop_at}
use Rattle.std.specs.Char.{is_ascii_digit, IsAsciiDigit}
use Rattle.std.specs.List.{AllByRecursion}
use Rattle.smithy_json_grammar.specs.Ascii.{minus_sign, plus_sign, digit_zero, decimal_point, is_e, is_ws}
use Rattle.smithy_json_grammar.specs.Grammar.{AreDigits, IsInt, IsFrac, IsSign, IsExp, IsBoundary}
use Rattle.smithy_json_grammar.specs.Private.Numeral.{first_byte, digit_count, after_digits, after_minus, after_sign, after_int, after_frac, after_exp, after_whole, after_frac_and_exp}
use Rattle.smithy_json_grammar.proofs.NumberLemmas.{IsMinus}

-- no digit comes first
abbrev pub NoDigit : List ℕ → Type 0
NoDigit s = is_ascii_digit (first_byte s) ≡ false

pub digit_test : (b : ℕ) → IsAsciiDigit b → is_ascii_digit b ≡ true
digit_test b h = grind (arith, nat_tests)

pub digit_count-digits : (digits rest : List ℕ) → AllByRecursion IsAsciiDigit digits → NoDigit rest → digit_count (digits ++ rest) ≡ length digits
digit_count-digits [] [] are none = refl
digit_count-digits [] (b ∷ rest) are none = rw none refl
digit_count-digits (d ∷ digits) rest are none =
    let one : 1 + length digits ≡ suc (length digits) = omega arith in
    rw (digit_test d are.0, digit_count-digits digits rest are.1 none) one

pub after_digits-digits : (digits rest : List ℕ) → AreDigits digits → NoDigit rest → after_digits (digits ++ rest) ≡ Some rest
after_digits-digits digits rest are none =
    let some : (length digits == 0) ≡ false = let positive = are.0 in grind (arith, nat_tests) in
    rw (digit_count-digits digits rest are.1 none, some) (ap Some (drop_at digits rest _ refl))

-- a digit is neither a sign nor a point
pub digit_alone : (b : ℕ) → IsAsciiDigit b → ((b == minus_sign) ≡ false) × ((b == plus_sign) ≡ false)
digit_alone b h = (grind (arith, nat_tests), grind (arith, nat_tests))

pub after_minus-minus : (minus int rest : List ℕ) → IsMinus minus → IsInt int → after_minus (minus ++ (int ++ rest)) ≡ int ++ rest
after_minus-minus minus [] rest is int_is = absurd int_is
after_minus-minus minus (d ∷ []) rest (inl none) int_is = rw (none, (digit_alone d int_is).0) refl
after_minus-minus minus (d ∷ e ∷ int) rest (inl none) int_is = rw (none, (digit_alone d int_is.0).0) refl
after_minus-minus minus (d ∷ int) rest (inr one) int_is = rw one refl

pub after_sign-sign : (sign digits rest : List ℕ) → IsSign sign → AreDigits digits → after_sign (sign ++ (digits ++ rest)) ≡ digits ++ rest
after_sign-sign sign [] rest is are = absurd (omega (arith, are.0))
after_sign-sign sign (d ∷ digits) rest (inl none) are = rw (none, (digit_alone d are.1.0).0, (digit_alone d are.1.0).1) refl
after_sign-sign sign (d ∷ digits) rest (inr (inl plus)) are = rw plus refl
after_sign-sign sign (d ∷ digits) rest (inr (inr minus)) are = rw minus refl

not_zero : (b : ℕ) → b ≢ digit_zero → (b == digit_zero) ≡ false
not_zero b h = grind (arith, nat_tests)

pub after_int-int : (int rest : List ℕ) → IsInt int → NoDigit rest → after_int (int ++ rest) ≡ Some rest
after_int-int [] rest is none = absurd is
after_int-int (d ∷ []) rest is none = go (d == digit_zero) refl
  where
    go : (zero_first : Bool) → (d == digit_zero) ≡ zero_first → after_int (d ∷ rest) ≡ Some rest
    go true zero_first = rw zero_first refl
    go false zero_first = rw zero_first (after_digits-digits (d ∷ []) rest (omega arith, (is, tt)) none)
after_int-int (d ∷ e ∷ int) rest is none =
    rw (not_zero d is.1) (after_digits-digits (d ∷ e ∷ int) rest (omega arith, (is.0, is.2)) none)

after_frac-frac : (frac rest : List ℕ) → IsFrac frac → NoDigit rest → (first_byte rest == decimal_point) ≡ false → after_frac (frac ++ rest) ≡ Some rest
after_frac-frac [] rest is none other = rw other refl
after_frac-frac (point ∷ digits) rest is none other = rw is.0 (after_digits-digits digits rest is.1 none)

pub after_exp-exp : (exp rest : List ℕ) → IsExp exp → NoDigit rest → is_e (first_byte rest) ≡ false → after_exp (exp ++ rest) ≡ Some rest
after_exp-exp [] rest is none other = rw other refl
after_exp-exp (e ∷ signed) rest is none other =
    let sign = is.1.0 in
    let digits = is.1.1 in
    let split : signed ++ rest ≡ sign ++ (digits ++ rest) = ap (λ t. t ++ rest) is.1.2 ∙ append_assoc sign digits rest in
    rw is.0 (ap (λ t. after_digits (after_sign t)) split ∙ ap after_digits (after_sign-sign sign digits rest is.1.3 is.1.4) ∙ after_digits-digits digits rest is.1.4 none)

-- ---- what may come behind a number

ws_ends : (b : ℕ) → is_ws b ≡ true → (is_ascii_digit b ≡ false) × ((b == decimal_point) ≡ false) × (is_e b ≡ false)
ws_ends b h = (grind (arith, nat_tests), grind (arith, nat_tests), grind (arith, nat_tests))

pub boundary_ends : (rest : List ℕ) → IsBoundary rest → NoDigit rest × ((first_byte rest == decimal_point) ≡ false) × (is_e (first_byte rest) ≡ false)
boundary_ends [] h = (refl, refl, refl)
boundary_ends (b ∷ rest) (inl h) = ws_ends b h
boundary_ends (b ∷ rest) (inr (inl h)) = rw h (refl, refl, refl)
boundary_ends (b ∷ rest) (inr (inr (inl h))) = rw h (refl, refl, refl)
boundary_ends (b ∷ rest) (inr (inr (inr h))) = rw h (refl, refl, refl)

e_ends : (b : ℕ) → is_e b ≡ true → (is_ascii_digit b ≡ false) × ((b == decimal_point) ≡ false)
e_ends b h = (grind (arith, nat_tests), grind (arith, nat_tests))

pub before_exp : (exp rest : List ℕ) → IsExp exp → IsBoundary rest → NoDigit (exp ++ rest) × ((first_byte (exp ++ rest) == decimal_point) ≡ false)
before_exp [] rest is ends = let b = boundary_ends rest ends in (b.0, b.1)
before_exp (e ∷ exp) rest is ends = e_ends e is.0

before_frac : (frac rest : List ℕ) → IsFrac frac → NoDigit rest → NoDigit (frac ++ rest)
before_frac [] rest is none = none
before_frac (point ∷ frac) rest is none = rw is.0 refl

-- the rest of a number, after its whole part and then after the others
pub after_whole-number : (minus int frac exp rest : List ℕ) → IsMinus minus → IsInt int → IsFrac frac → IsExp exp → IsBoundary rest
    → after_whole (minus ++ (int ++ (frac ++ (exp ++ rest)))) ≡ Some (frac ++ (exp ++ rest))
after_whole-number minus int frac exp rest m i f e ends =
    ap after_int (after_minus-minus minus int (frac ++ (exp ++ rest)) m i)
    ∙ after_int-int int (frac ++ (exp ++ rest)) i (before_frac frac (exp ++ rest) f (before_exp exp rest e ends).0)

pub after_frac_and_exp-number : (frac exp rest : List ℕ) → IsFrac frac → IsExp exp → IsBoundary rest → after_frac_and_exp (frac ++ (exp ++ rest)) ≡ Some rest
after_frac_and_exp-number frac exp rest f e ends =
    let before = before_exp exp rest e ends in
    let end = boundary_ends rest ends in
    ap (option_and_then after_exp) (after_frac-frac frac (exp ++ rest) f before.0 before.1) ∙ after_exp-exp exp rest e end.0 end.2
