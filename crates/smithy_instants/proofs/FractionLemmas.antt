-- The digits of a fraction of a second.
use Rattle.std.proofs.Common.{◌≡◌, ◌+◌, ◌-◌, ◌*◌, ◌^◌, ◌<◌, ◌≤◌, ◌&&◌, nat_lt, ℕ, List, length, Bool, true, false, sym, ap, ◌∙◌, arith}
use Rattle.std.proofs.Math.Nat.{pow-le-pow_right, mul-lt-mul_of_pos_right}
use Rattle.std.proofs.lemmas.Int.Digits.{digits_value-lt}
use Rattle.std.proofs.lemmas.Nat.{pow-add}
use Rattle.std.specs.Str.{all_ascii_digits}
use Rattle.std.specs.Str.Parse.{digits_value}
use Rattle.smithy_texts.specs.Numeral.{are_digits, magnitude}
use Rattle.smithy_texts.proofs.WrittenNumerals.{filter_digits, own}
use Rattle.smithy_instants.proofs.PowerLemmas.{power_positive}

all_of : (a b : Bool) → (a && b) ≡ true → b ≡ true
all_of true b h = h
all_of false b h = cc

-- digits write less than their power of ten
pub digits_small : (ds : List ℕ) → are_digits ds ≡ true → magnitude ds < 10 ^ length ds
digits_small ds h =
    let digits = all_of (nat_lt 0 (length ds)) (all_ascii_digits ds) h in
    let same : magnitude ds ≡ digits_value 10 ds = ap (digits_value 10) (filter_digits ds digits) in
    omega (arith, same, digits_value-lt 10 ds (own.to ds digits))

-- at most nine digits, and zeros up to nine
pub record IsSmallFraction (ds : List ℕ) : Type 0 where
  pub fraction : magnitude ds < 1_000_000_000
  pub nanos : magnitude ds * 10 ^ (9 - length ds) < 1_000_000_000

pub fraction_fits : (ds : List ℕ) → are_digits ds ≡ true → length ds ≤ 9 → IsSmallFraction ds
fraction_fits ds h l =
    let small = digits_small ds h in
    let most = pow-le-pow_right {n = 10} (omega arith) {i = length ds} {j = 9} l in
    let nine : length ds + (9 - length ds) ≡ 9 = omega arith in
    let whole : 10 ^ length ds * 10 ^ (9 - length ds) ≡ 10 ^ 9 = sym (pow-add 10 (length ds) (9 - length ds)) ∙ ap (λ k. 10 ^ k) nine in
    let times = mul-lt-mul_of_pos_right {k = 10 ^ (9 - length ds)} small (power_positive (9 - length ds)) in
    record { fraction = omega arith; nanos = omega arith }
