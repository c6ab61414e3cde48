-- The whole number of a number's text.
use Rattle.std.proofs.Common.{◌≡◌, ℕ, List, [], ◌∷◌, ◌++◌, true, false, ◌==◌, Option, Some, None, option_map, ℤ, pos, neg_ℤ, refl, ap, arith, inl, inr, cond}
use Rattle.std.proofs.lemmas.Bool.Decides.{nat_tests}
use Rattle.std.proofs.lemmas.List.{append-nil}
use Rattle.std.specs.Char.{is_ascii_digit, IsAsciiDigit}
use Rattle.std.specs.List.{AllByRecursion}
use Rattle.std.specs.Str.{all_ascii_digits}
use Rattle.std.specs.Str.Parse.{digits_value}
use Rattle.smithy_json_grammar.specs.Ascii.{minus_sign, is_e}
use Rattle.smithy_json_grammar.specs.Grammar.{IsInt, IsFrac, IsExp}
use Rattle.smithy_json_grammar.specs.Number.{natural_number, whole_number}
use Rattle.smithy_json_grammar.proofs.NumberLemmas.{IsMinus}

digit_test : (b : ℕ) → IsAsciiDigit b → is_ascii_digit b ≡ true
digit_test b h = grind (arith, nat_tests)

not_minus : (b : ℕ) → IsAsciiDigit b → (b == minus_sign) ≡ false
not_minus b h = grind (arith, nat_tests)

e_test : (b : ℕ) → is_e b ≡ true → is_ascii_digit b ≡ false
e_test b h = grind (arith, nat_tests)

-- the number that an int writes behind a minus, or none
abbrev pub signed_value : List ℕ → List ℕ → ℤ
signed_value [] int = pos (digits_value 10 int)
signed_value (_ ∷ _) int = neg_ℤ (pos (digits_value 10 int))

-- the same where more follows the int: no whole number
abbrev pub whole_before : List ℕ → List ℕ → List ℕ → Option ℤ
whole_before minus int [] = Some (signed_value minus int)
whole_before minus int (_ ∷ _) = None

-- nothing, or a byte that is no digit
abbrev pub NoDigitsMore : List ℕ → Type 0
NoDigitsMore [] = Unit {0}
NoDigitsMore (b ∷ _) = is_ascii_digit b ≡ false

pub int_digits : (int : List ℕ) → IsInt int → AllByRecursion IsAsciiDigit int
int_digits [] is = absurd is
int_digits (d ∷ []) is = (is, tt)
int_digits (d ∷ e ∷ int) is = (is.0, is.2)

all_digits : (digits : List ℕ) → AllByRecursion IsAsciiDigit digits → all_ascii_digits digits ≡ true
all_digits [] are = refl
all_digits (d ∷ digits) are = rw (digit_test d are.0, all_digits digits are.1) refl

not_all : (digits : List ℕ) (b : ℕ) (rest : List ℕ) → AllByRecursion IsAsciiDigit digits → is_ascii_digit b ≡ false → all_ascii_digits (digits ++ b ∷ rest) ≡ false
not_all [] b rest are other = rw other refl
not_all (d ∷ digits) b rest are other = rw (digit_test d are.0, not_all digits b rest are.1 other) refl

pub natural_digits : (d : ℕ) (digits : List ℕ) → AllByRecursion IsAsciiDigit (d ∷ digits) → natural_number (d ∷ digits) ≡ Some (digits_value 10 (d ∷ digits))
natural_digits d digits are = ap (λ all. cond all (Some (digits_value 10 (d ∷ digits))) None) (all_digits (d ∷ digits) are)

natural_more : (d : ℕ) (digits : List ℕ) (b : ℕ) (rest : List ℕ) → AllByRecursion IsAsciiDigit (d ∷ digits) → is_ascii_digit b ≡ false → natural_number (d ∷ digits ++ b ∷ rest) ≡ None
natural_more d digits b rest are other = ap (λ all. cond all (Some (digits_value 10 (d ∷ digits ++ b ∷ rest))) None) (not_all (d ∷ digits) b rest are other)

pub whole_number-parts : (minus int more : List ℕ) → IsMinus minus → IsInt int → NoDigitsMore more → whole_number (minus ++ (int ++ more)) ≡ whole_before minus int more
whole_number-parts minus [] more m i none = absurd i
whole_number-parts [] (d ∷ int) [] m i none =
    let digits = int_digits (d ∷ int) i in
    rw (append-nil int, not_minus d digits.0) (ap (option_map pos) (natural_digits d int digits))
whole_number-parts [] (d ∷ int) (b ∷ more) m i none =
    let digits = int_digits (d ∷ int) i in
    rw (not_minus d digits.0) (ap (option_map pos) (natural_more d int b more digits none))
whole_number-parts (x ∷ minus) (d ∷ int) more (inl m) i none = cc
whole_number-parts (x ∷ minus) (d ∷ int) [] (inr m) i none =
    let first : x ≡ minus_sign = cc in
    let rest : minus ≡ [] = cc in
    rw (first, rest, append-nil int) (ap (option_map (λ n. neg_ℤ (pos n))) (natural_digits d int (int_digits (d ∷ int) i)))
whole_number-parts (x ∷ minus) (d ∷ int) (b ∷ more) (inr m) i none =
    let first : x ≡ minus_sign = cc in
    let rest : minus ≡ [] = cc in
    rw (first, rest) (ap (option_map (λ n. neg_ℤ (pos n))) (natural_more d int b more (int_digits (d ∷ int) i) none))

pub no_digits_more : (frac exp : List ℕ) → IsFrac frac → IsExp exp → NoDigitsMore (frac ++ exp)
no_digits_more [] [] f e = tt
no_digits_more [] (b ∷ exp) f e = e_test b e.0
no_digits_more (point ∷ frac) exp f e = rw f.0 refl
