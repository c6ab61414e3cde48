-- The number of bytes in big-endian order, byte by byte.
use Rattle.std.proofs.Common.{◌≡◌, ℕ, suc, ◌+◌, ◌*◌, ◌^◌, ◌<◌, ◌≤◌, List, [], ◌∷◌, length, drop, get_or, sym, ◌∙◌, ap, arith}
use Rattle.std.proofs.Math.Nat.{mul_assoc, add-mul, pow-succ'}
use Rattle.std.proofs.lemmas.List.{drop_more}
use Rattle.smithy_cbor.specs.Scalar.{big_endian}

-- the number of the bytes behind those of n
abbrev pub big_endian_after : ℕ → List ℕ → ℕ
big_endian_after n [] = n
big_endian_after n (b ∷ bytes) = big_endian_after (n * 256 + b) bytes

-- what stands in front counts by the bytes behind it
pub after_is : (n : ℕ) (bytes : List ℕ) → big_endian_after n bytes ≡ n * 256 ^ length bytes + big_endian bytes
after_is n [] = omega arith
after_is n (b ∷ bytes) =
    let p = 256 ^ length bytes in
    let power : 256 ^ suc (length bytes) ≡ 256 * p = pow-succ' 256 (length bytes) in
    let moved : n * 256 * p ≡ n * 256 ^ suc (length bytes) = mul_assoc n 256 p ∙ ap (λ q. n * q) (sym power) in
    after_is (n * 256 + b) bytes ∙ omega (arith, add-mul (n * 256) b p, moved)

pub after_nothing : (bytes : List ℕ) → big_endian_after 0 bytes ≡ big_endian bytes
after_nothing bytes = after_is 0 bytes ∙ omega arith

-- a number is no less for more bytes
pub after_grows : (n : ℕ) (bytes : List ℕ) → n ≤ big_endian_after n bytes
after_grows n [] = omega arith
after_grows n (b ∷ bytes) = omega (arith, after_grows (n * 256 + b) bytes)

-- one byte more
pub after_step : (bytes : List ℕ) (i n : ℕ) → i < length bytes
    → big_endian_after n (drop i bytes) ≡ big_endian_after (n * 256 + get_or bytes i 0) (drop (i + 1) bytes)
after_step bytes i n within = ap (big_endian_after n) (drop_more bytes i 0 within)
