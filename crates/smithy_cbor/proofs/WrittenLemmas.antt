-- Numbers below 0, and beyond 64 bits, as they are written.
use Rattle.std.proofs.Common.{◌≡◌, ◌∙◌, ◌-◌, ◌^◌, ◌≤◌, ◌++◌, List, length, take, append_assoc, nat_lt, ℕ, suc, ℤ, false, ap, arith}
use Rattle.std.specs.Prelude.{pos, negsuc, unsigned_abs, int_le, if◌then◌else◌, Result, Ok, Err, OnOk, OnErr}
use Rattle.std.proofs.lemmas.Bool.Decides.{nat_tests}
use Rattle.cbor_item.proofs.HeadLemmas.{take_front}
use Rattle.cbor_item.specs.Head.{shortest_head}
use Rattle.cbor_item.specs.Writing.{Appends}
use Rattle.std.proofs.lemmas.Int.{ints}
use Rattle.smithy_cbor.specs.Written.{bignum_bytes, magnitude_bytes, big_integer_bytes}

less_one : (n : ℕ) → suc n - 1 ≡ n
less_one n = omega arith

-- the number n of -1 - n
pub below_zero : (z : ℤ) → int_le (pos 0) z ≡ false → magnitude_bytes 1 3 (unsigned_abs z - 1) ≡ big_integer_bytes z
below_zero (pos n) below = absurd (grind (arith, ints))
below_zero (negsuc n) below = ap (λ m. magnitude_bytes 1 3 m) (less_one n)

-- a number that no head holds
pub beyond_heads : (major number n : ℕ) → 18446744073709551616 ≤ n → magnitude_bytes major number n ≡ bignum_bytes number n
beyond_heads major number n large = ap (λ t. if t then shortest_head major n else bignum_bytes number n) beyond
  where
    beyond : nat_lt n (2 ^ 64) ≡ false
    beyond = grind (arith, nat_tests)

-- two writes, of which the second is taken back with the first where it is refused
pub two_writes : {T E : Type 0} (old a b between left new : List ℕ) (rest result : Result T E) (start : ℕ) → start ≡ length old → between ≡ old ++ a
    → OnOk rest (left ≡ between ++ b) → OnErr rest (left ≡ between) → result ≡ rest → OnOk rest (new ≡ left) → OnErr rest (new ≡ take start left)
    → Appends (a ++ b) old result new
two_writes old a b between left new (Ok x) result start begins first second refused same kept cut =
    let all = kept ∙ second ∙ ap (λ l. l ++ b) first ∙ append_assoc old a b in
    rw same (record { ok = all; err = tt })
two_writes old a b between left new (Err e) result start begins first second refused same kept cut =
    let none = cut ∙ ap (λ n. take n left) begins ∙ ap (take (length old)) (refused ∙ first) ∙ take_front old a in
    rw same (record { ok = tt; err = none })
