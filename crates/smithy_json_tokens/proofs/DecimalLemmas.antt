-- Every number of the grammar has the form of a decimal number.
use Rattle.std.proofs.Common.{◌≡◌, ◌+◌, ℕ, suc, List, [], ◌∷◌, ◌++◌, length, take, drop, Bool, true, false, cond, not, ◌==◌, ◌||◌, ◌&&◌, ◌⊎◌, nat_lt, inl, inr, refl, sym, ap, ◌∙◌, arith, subst, append_assoc, append-nil, take_at, drop_at}
use Rattle.std.proofs.lemmas.Bool.Decides.{nat_tests}
use Rattle.std.proofs.lemmas.List.{drop-drop}
use Rattle.std.specs.Char.{is_ascii_digit, IsAsciiDigit}
use Rattle.std.specs.List.{AllByRecursion, prefix_len, position_or_len}
use Rattle.std.specs.Str.{byte, all_ascii_digits}
use Rattle.smithy_json_grammar.specs.Ascii.{minus_sign}
use Rattle.smithy_json_grammar.specs.Grammar.{AreDigits, IsInt, IsFrac, IsSign, IsExp, IsNumber}
use Rattle.smithy_types.specs.Numeral.{are_digits, without_sign}
use Rattle.smithy_types.specs.Decimal.{is_point, is_exponent_mark, are_digits_with_point, is_exponent_part, is_decimal}

record DigitTests (d : ℕ) : Type 0 where
  digit : is_ascii_digit d ≡ true
  no_mark : is_exponent_mark d ≡ false
  no_point : is_point d ≡ false
  no_sign : (d == byte "+" || d == byte "-") ≡ false

tests : (d : ℕ) → IsAsciiDigit d → DigitTests d
tests d h = record { digit = grind (arith, nat_tests); no_mark = grind (arith, nat_tests); no_point = grind (arith, nat_tests); no_sign = grind (arith, nat_tests) }

-- ---- digits

all_digits : (s : List ℕ) → AllByRecursion IsAsciiDigit s → all_ascii_digits s ≡ true
all_digits [] h = refl
all_digits (d ∷ s) h = rw ((tests d h.0).digit, all_digits s h.1) refl

some_digits : (s : List ℕ) → AreDigits s → are_digits s ≡ true
some_digits [] h = absurd (omega (arith, h.0))
some_digits (d ∷ s) h =
    let some : nat_lt 0 (suc (length s)) ≡ true = grind (arith, nat_tests) in
    ap (λ b. b && all_ascii_digits (d ∷ s)) some ∙ all_digits (d ∷ s) h.1

digits_both : (s r : List ℕ) → AllByRecursion IsAsciiDigit s → AllByRecursion IsAsciiDigit r → AllByRecursion IsAsciiDigit (s ++ r)
digits_both [] r h k = k
digits_both (d ∷ s) r h k = (h.0, digits_both s r h.1 k)

longer : (s r : List ℕ) → AreDigits s → AllByRecursion IsAsciiDigit r → AreDigits (s ++ r)
longer [] r h k = absurd (omega (arith, h.0))
longer (d ∷ s) r h k = (omega arith, (h.1.0, digits_both s r h.1.1 k))

int_digits : (int : List ℕ) → IsInt int → AreDigits int
int_digits [] h = absurd h
int_digits (d ∷ []) h = (omega arith, (h, tt))
int_digits (d ∷ e ∷ int) h = (omega arith, (h.0, h.2))

-- ---- where a byte first stands that passes a test

abbrev Begins : (ℕ → Bool) → List ℕ → Type 0
Begins p [] = Unit {0}
Begins p (b ∷ r) = p b ≡ true

abbrev NonePass : (ℕ → Bool) → List ℕ → Type 0
NonePass p s = AllByRecursion (λ b. p b ≡ false) s

none_both : (p : ℕ → Bool) (s r : List ℕ) → NonePass p s → NonePass p r → NonePass p (s ++ r)
none_both p [] r h k = k
none_both p (b ∷ s) r h k = (h.0, none_both p s r h.1 k)

ends : (p : ℕ → Bool) (s r : List ℕ) → NonePass p s → Begins p r → position_or_len p (s ++ r) ≡ length s
ends p [] [] h k = refl
ends p [] (b ∷ r) h k = ap (λ e. cond (not e) (1 + prefix_len (λ c. not (p c)) r) 0) k
ends p (b ∷ s) r h k =
    let n = prefix_len (λ c. not (p c)) (s ++ r) in
    let one : 1 + n ≡ suc n = omega arith in
    ap (λ e. cond (not e) (1 + n) 0) h.0 ∙ one ∙ ap suc (ends p s r h.1 k)

no_points : (s : List ℕ) → AllByRecursion IsAsciiDigit s → NonePass is_point s
no_points [] h = tt
no_points (d ∷ s) h = ((tests d h.0).no_point, no_points s h.1)

no_marks : (s : List ℕ) → AllByRecursion IsAsciiDigit s → NonePass is_exponent_mark s
no_marks [] h = tt
no_marks (d ∷ s) h = ((tests d h.0).no_mark, no_marks s h.1)

-- ---- the coefficient

-- without a sign
no_sign : (s r : List ℕ) → AreDigits s → without_sign (s ++ r) ≡ s ++ r
no_sign [] r h = absurd (omega (arith, h.0))
no_sign (d ∷ s) r h = ap (λ x. cond x (s ++ r) (d ∷ (s ++ r))) (tests d h.1.0).no_sign

unsigned : (minus s r : List ℕ) → (minus ≡ []) ⊎ (minus ≡ minus_sign ∷ []) → AreDigits s → without_sign (minus ++ (s ++ r)) ≡ s ++ r
unsigned minus s r (inl h) are = ap (λ m. without_sign (m ++ (s ++ r))) h ∙ no_sign s r are
unsigned minus s r (inr h) are = ap (λ m. without_sign (m ++ (s ++ r))) h

frac_begins : (frac : List ℕ) → IsFrac frac → Begins is_point frac
frac_begins [] h = tt
frac_begins (b ∷ digits) h = ap is_point h.0

-- behind the point
behind : (int frac : List ℕ) → IsFrac frac → (digits : List ℕ) × (drop (length int + 1) (int ++ frac) ≡ digits) × AllByRecursion IsAsciiDigit digits
behind int [] h = ([], sym (drop-drop 1 (length int) (int ++ [])) ∙ ap (drop 1) (drop_at int [] _ refl), tt)
behind int (b ∷ digits) h = (digits, sym (drop-drop 1 (length int) (int ++ b ∷ digits)) ∙ ap (drop 1) (drop_at int (b ∷ digits) _ refl), h.1.1)

with_point : (int frac : List ℕ) → IsInt int → IsFrac frac → are_digits_with_point (int ++ frac) ≡ true
with_point int frac i f =
    let are = int_digits int i in
    let rest = behind int frac f in
    ap (λ k. are_digits (take k (int ++ frac) ++ drop (k + 1) (int ++ frac))) (ends is_point int frac (no_points int are.1) (frac_begins frac f))
    ∙ ap (λ t. are_digits (t ++ drop (length int + 1) (int ++ frac))) (take_at int frac _ refl)
    ∙ ap (λ t. are_digits (int ++ t)) rest.1
    ∙ some_digits (int ++ rest.0) (longer int rest.0 are rest.2)

frac_no_marks : (frac : List ℕ) → IsFrac frac → NonePass is_exponent_mark frac
frac_no_marks [] h = tt
frac_no_marks (b ∷ digits) h = (ap is_exponent_mark h.0, no_marks digits h.1.1)

minus_no_marks : (minus : List ℕ) → (minus ≡ []) ⊎ (minus ≡ minus_sign ∷ []) → NonePass is_exponent_mark minus
minus_no_marks minus (inl k) = subst (NonePass is_exponent_mark) (sym k) tt
minus_no_marks minus (inr k) = subst (NonePass is_exponent_mark) (sym k) (refl, tt)

-- ---- the exponent

exp_begins : (exp : List ℕ) → IsExp exp → Begins is_exponent_mark exp
exp_begins [] h = tt
exp_begins (e ∷ rest) h = h.0

exponent : (exp : List ℕ) → IsExp exp → is_exponent_part exp ≡ true
exponent [] h = refl
exponent (e ∷ rest) h =
    let sign = h.1.0 in
    let digits = h.1.1 in
    ap (λ t. are_digits (without_sign t)) h.1.2 ∙ ap are_digits (signed sign digits h.1.3 h.1.4) ∙ some_digits digits h.1.4
  where
    signed : (sign digits : List ℕ) → IsSign sign → AreDigits digits → without_sign (sign ++ digits) ≡ digits
    signed sign digits (inl k) are = ap (λ s. without_sign (s ++ digits)) k ∙ ap without_sign (sym (append-nil digits)) ∙ no_sign digits [] are ∙ append-nil digits
    signed sign digits (inr (inl k)) are = ap (λ s. without_sign (s ++ digits)) k
    signed sign digits (inr (inr k)) are = ap (λ s. without_sign (s ++ digits)) k

-- ---- a number

pub number_is_decimal : (raw : List ℕ) → IsNumber raw → is_decimal raw ≡ true
number_is_decimal raw h =
    let front = h.minus ++ (h.int ++ h.frac) in
    let are = int_digits h.int h.is_int in
    let split : raw ≡ front ++ h.exp = h.parts ∙ (simp append_assoc) in
    let none = none_both is_exponent_mark h.minus (h.int ++ h.frac) (minus_no_marks h.minus h.is_minus) (none_both is_exponent_mark h.int h.frac (no_marks h.int are.1) (frac_no_marks h.frac h.is_frac)) in
    let n = ends is_exponent_mark front h.exp none (exp_begins h.exp h.is_exp) in
    ap is_decimal split
    ∙ ap (λ k. are_digits_with_point (without_sign (take k (front ++ h.exp))) && is_exponent_part (drop k (front ++ h.exp))) n
    ∙ ap (λ t. are_digits_with_point (without_sign t) && is_exponent_part (drop (length front) (front ++ h.exp))) (take_at front h.exp _ refl)
    ∙ ap (λ t. are_digits_with_point (without_sign front) && is_exponent_part t) (drop_at front h.exp _ refl)
    ∙ ap (λ t. are_digits_with_point t && is_exponent_part h.exp) (unsigned h.minus h.int h.frac h.is_minus are)
    ∙ ap (λ c. c && is_exponent_part h.exp) (with_point h.int h.frac h.is_int h.is_frac)
    ∙ exponent h.exp h.is_exp
