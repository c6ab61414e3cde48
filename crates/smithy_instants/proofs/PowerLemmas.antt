-- Powers of ten, and numbers times a power of ten.
use Rattle.std.proofs.Common.{◌≡◌, ◌≢◌, ◌+◌, ◌-◌, ◌*◌, ◌/◌, ◌%◌, ◌^◌, ◌<◌, ◌≤◌, ℕ, zero, suc, cond, true, false, nat_eq, sym, ap, ◌∙◌, arith, ℤ, pos, negsuc, ◌+ℤ◌, ◌≤ℤ◌, unsigned_abs, Some, None}
use Rattle.std.proofs.Math.Nat.{pow-le-pow_right, mul-div_cancel, div-add-mod, mul-mod_right, mul_comm, mul_assoc}
use Rattle.std.proofs.lemmas.Bool.Decides.{nat_tests}
use Rattle.std.proofs.lemmas.Int.{ints}
use Rattle.std.proofs.lemmas.Nat.{pow-add}
use Rattle.smithy_instants.specs.Epoch.{scaled}

ten_positive : 0 < 10
ten_positive = omega arith

pub power_positive : (k : ℕ) → 0 < 10 ^ k
power_positive k = let one = pow-le-pow_right {n = 10} ten_positive {i = 0} {j = k} (omega arith) in omega arith

-- 38 is the last power of ten below 2^128
pub small_power : (k : ℕ) → k < 39 → 10 ^ k < 2 ^ 128
small_power k h = let most = pow-le-pow_right {n = 10} ten_positive {i = k} {j = 38} (omega arith) in omega arith

pub times_at_least : (v n : ℕ) → 0 < v → n ≤ v * n
times_at_least (suc v) n h = omega arith
times_at_least zero n h = absurd (omega arith)

pub great_power : (v k : ℕ) → 0 < v → 39 ≤ k → 2 ^ 128 ≤ v * 10 ^ k
great_power v k h g =
    let least = pow-le-pow_right {n = 10} ten_positive {i = 39} {j = k} g in
    let times = times_at_least v (10 ^ k) h in omega arith

-- a product with a greater power of ten, as a product with a lesser one
shift : (m a b : ℕ) → m * 10 ^ (a + b) ≡ m * 10 ^ a * 10 ^ b
shift m a b = ap (λ p. m * p) (pow-add 10 a b) ∙ sym (mul_assoc m (10 ^ a) (10 ^ b))

-- a whole multiple of the divisor
whole_part : (q d : ℕ) → 0 < d → cond (nat_eq (q * d % d) 0) (Some (q * d / d)) None ≡ Some q
whole_part q d h =
    let none : q * d % d ≡ 0 = ap (λ n. n % d) (mul_comm q d) ∙ mul-mod_right d q in
    let test : nat_eq (q * d % d) 0 ≡ true = grind (arith, nat_tests) in
    ap (λ t. cond t (Some (q * d / d)) None) test ∙ ap Some (mul-div_cancel q h)

pub scaled_whole : (m z : ℕ) (s : ℤ) → pos 0 ≤ℤ (s +ℤ pos z) → scaled (m * 10 ^ z) s ≡ Some (m * 10 ^ unsigned_abs (s +ℤ pos z))
scaled_whole m z (pos e) h = ap Some (sym (shift m z e)) ∙ ap (λ k. Some (m * 10 ^ k)) (omega (arith, ints))
scaled_whole m z (negsuc e) h =
    let above : suc e ≤ z = omega (arith, ints) in
    let rest = z - suc e in
    let same : m * 10 ^ z ≡ m * 10 ^ rest * 10 ^ suc e = ap (λ k. m * 10 ^ k) (omega arith) ∙ shift m rest (suc e) in
    let size : rest ≡ unsigned_abs (negsuc e +ℤ pos z) = omega (arith, ints) in
    ap (λ n. cond (nat_eq (n % 10 ^ suc e) 0) (Some (n / 10 ^ suc e)) None) same
    ∙ whole_part (m * 10 ^ rest) (10 ^ suc e) (power_positive (suc e)) ∙ ap (λ k. Some (m * 10 ^ k)) size

cancel : (a b d : ℕ) → 0 < d → a * d ≡ b * d → a ≡ b
cancel a b d h e = sym (mul-div_cancel a h) ∙ ap (λ n. n / d) e ∙ mul-div_cancel b h

-- no multiple of ten is a multiple of a greater power of ten
no_multiple : (m z e q : ℕ) → z < suc e → m * 10 ^ z ≡ q * 10 ^ suc e → m % 10 ≡ 0
no_multiple m z e q h same =
    let k = e - z in
    let split : q * 10 ^ suc e ≡ q * 10 ^ (k + 1) * 10 ^ z = ap (λ n. q * 10 ^ n) (omega arith) ∙ shift q (k + 1) z in
    let m_is : m ≡ q * 10 ^ (k + 1) = cancel m (q * 10 ^ (k + 1)) (10 ^ z) (power_positive z) (same ∙ split) in
    let ten : q * 10 ^ (k + 1) ≡ 10 * (q * 10 ^ k) = shift q k 1 ∙ mul_comm (q * 10 ^ k) 10 in
    ap (λ n. n % 10) (m_is ∙ ten) ∙ mul-mod_right 10 (q * 10 ^ k)

pub scaled_part : (m z e : ℕ) → z < suc e → m % 10 ≢ 0 → scaled (m * 10 ^ z) (negsuc e) ≡ None
scaled_part m z e h odd =
    let n = m * 10 ^ z in
    let d = 10 ^ suc e in
    let rest : n % d ≢ 0 = λ none. odd (no_multiple m z e (n / d) h (sym (div-add-mod n d) ∙ ap (λ r. d * (n / d) + r) none ∙ (let c = mul_comm d (n / d) in omega arith))) in
    let test : nat_eq (n % d) 0 ≡ false = grind (arith, nat_tests) in
    ap (λ t. cond t (Some (n / d)) None) test

-- nothing is left of nothing
pub scaled_zero : (s : ℤ) → scaled 0 s ≡ Some 0
scaled_zero (pos e) = ap Some (omega arith)
scaled_zero (negsuc e) =
    let d = 10 ^ suc e in
    let zero_is : 0 ≡ 0 * d = omega arith in
    ap (λ n. cond (nat_eq (n % d) 0) (Some (n / d)) None) zero_is ∙ whole_part 0 d (power_positive (suc e))
