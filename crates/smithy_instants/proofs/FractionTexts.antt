-- A written fraction is read as the fraction that it is.
use Rattle.std.proofs.Common.{◌≡◌, ◌+◌, ◌-◌, ◌*◌, ◌/◌, ◌%◌, ◌^◌, ◌<◌, ◌≤◌, ◌&&◌, ℕ, zero, suc, List, [], ◌∷◌, length, Bool, cond, true, false, nat_eq, refl, sym, ap, ◌∙◌, arith}
use Rattle.std.proofs.Math.Nat.{mul_assoc, div-add-mod, mul_comm, add-mul, mod-lt, div-lt_iff_lt-mul}
use Rattle.std.proofs.lemmas.Bool.Decides.{nat_tests}
use Rattle.std.proofs.lemmas.Bool.{eqb-true}
use Rattle.std.proofs.lemmas.Nat.{pow-add}
use Rattle.std.specs.Char.{is_ascii_digit, digit_value}
use Rattle.std.specs.Str.{all_ascii_digits}
use Rattle.std.specs.Str.Parse.{digits_value_after}
use Rattle.smithy_texts.specs.Numeral.{magnitude}
use Rattle.smithy_instants.specs.WrittenDate.{fraction_digits}
use Rattle.smithy_texts.proofs.WrittenNumerals.{filter_digits}
use Rattle.smithy_instants.proofs.PowerLemmas.{power_positive}

-- digits behind a number count less than its last
pub value_after : (a : ℕ) (ds : List ℕ) → digits_value_after 10 a ds ≡ a * 10 ^ length ds + digits_value_after 10 0 ds
value_after a [] = omega arith
value_after a (c ∷ ds) =
    let d = digit_value c in
    let left = value_after (a * 10 + d) ds in
    let right = value_after (0 * 10 + d) ds in
    let p = 10 ^ length ds in
    let next : 10 ^ suc (length ds) ≡ p * 10 = ap (λ k. 10 ^ k) more ∙ pow-add 10 (length ds) 1 in
    let a1 : (a * 10 + d) * p ≡ a * (p * 10) + d * p = add-mul (a * 10) d p ∙ ap (λ n. n + d * p) (mul_assoc a 10 p ∙ ap (λ n. a * n) (mul_comm 10 p)) in
    let a2 : a * 10 ^ suc (length ds) ≡ a * (p * 10) = ap (λ n. a * n) next in
    let a3 : (0 * 10 + d) * p ≡ d * p = ap (λ n. n * p) (omega arith) in
    omega arith
  where
    more : suc (length ds) ≡ length ds + 1
    more = omega arith

-- the digits of a fraction of so many places
pub record IsFraction (ds : List ℕ) (width n : ℕ) : Type 0 where
  pub digits : all_ascii_digits ds ≡ true
  pub short : length ds ≤ width
  pub value : magnitude ds * 10 ^ (width - length ds) ≡ n

quotient_small : (p n : ℕ) → 0 < p → n < p * 10 → n / p < 10
quotient_small p n h small = (div-lt_iff_lt-mul h).1 (let c = mul_comm p 10 in omega arith)

first_digit : (d : ℕ) → d < 10 → (is_ascii_digit (48 + d) ≡ true) × (digit_value (48 + d) ≡ d)
first_digit d h = (grind (arith, nat_tests), grind (arith, nat_tests))

-- one digit and the fraction behind it
pub fraction_more : (ds : List ℕ) (width n : ℕ) → n / 10 ^ width < 10 → IsFraction ds width (n % 10 ^ width) → IsFraction ((48 + n / 10 ^ width) ∷ ds) (suc width) n
fraction_more ds width n small i =
    let p = 10 ^ width in
    let q = n / p in
    let c = 48 + q in
    let first = first_digit q small in
    let len = length ds in
    let all : all_ascii_digits (c ∷ ds) ≡ true = ap (λ t. t && all_ascii_digits ds) first.0 ∙ i.digits in
    let whole : magnitude (c ∷ ds) ≡ q * 10 ^ len + magnitude ds =
    ap (λ l. digits_value_after 10 0 l) (filter_digits (c ∷ ds) all) ∙ value_after (0 * 10 + digit_value c) ds
    ∙ ap (λ d. d * 10 ^ len + digits_value_after 10 0 ds) (let e = first.1 in omega arith)
    ∙ ap (λ l. q * 10 ^ len + digits_value_after 10 0 l) (sym (filter_digits ds i.digits)) in
    let less : suc width - suc len ≡ width - len = omega arith in
    let power : 10 ^ len * 10 ^ (width - len) ≡ p = sym (pow-add 10 len (width - len)) ∙ ap (λ k. 10 ^ k) (let s = i.short in omega arith) in
    let times : (q * 10 ^ len + magnitude ds) * 10 ^ (width - len) ≡ q * p + n % p =
    add-mul (q * 10 ^ len) (magnitude ds) (10 ^ (width - len)) ∙ ap (λ m. m + magnitude ds * 10 ^ (width - len)) (mul_assoc q (10 ^ len) (10 ^ (width - len)) ∙ ap (λ m. q * m) power)
    ∙ ap (λ m. q * p + m) i.value in
    let split : q * p + n % p ≡ n = ap (λ m. m + n % p) (mul_comm q p) ∙ div-add-mod n p in
    record {
      digits = all;
      short = omega (arith, i.short);
      value = ap (λ m. m * 10 ^ (suc width - suc len)) whole ∙ ap (λ k. (q * 10 ^ len + magnitude ds) * 10 ^ k) less ∙ times ∙ split;
    }

pub fraction_is : (width n : ℕ) → n < 10 ^ width → IsFraction (fraction_digits width n) width n
fraction_is zero n small = record { digits = refl; short = omega arith; value = omega arith }
fraction_is (suc width) n small = by (nat_eq n 0) refl (fraction_is width (n % 10 ^ width) (mod-lt n (power_positive width)))
  where
    by : (t : Bool) → nat_eq n 0 ≡ t → IsFraction (fraction_digits width (n % 10 ^ width)) width (n % 10 ^ width)
        → IsFraction (cond t [] ((48 + n / 10 ^ width) ∷ fraction_digits width (n % 10 ^ width))) (suc width) n
    by true e i = let none : n ≡ 0 = eqb-true n 0 e in record { digits = refl; short = omega arith; value = omega arith }
    by false e i =
        let ten : 10 ^ suc width ≡ 10 ^ width * 10 = ap (λ k. 10 ^ k) (omega arith) ∙ pow-add 10 width 1 in
        fraction_more (fraction_digits width (n % 10 ^ width)) width n (quotient_small (10 ^ width) n (power_positive width) (omega arith)) i
