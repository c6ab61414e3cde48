-- What is written stands for the number that it was written for.
use Rattle.std.proofs.Common.{◌≡◌, ℕ, suc, zero, ℤ, Bool, true, false, ◌+◌, ◌*◌, ◌^◌, ◌/◌, ◌%◌, ◌==◌, ◌<◌, ◌≤◌, nat_lt, List, [], ◌∷◌, ◌++◌, length, sym, ◌∙◌, ap, arith, refl, Some, append-nil}
use Rattle.std.specs.Prelude.{pos, negsuc, if◌then◌else◌, FitsSigned}
use Rattle.std.specs.Int.{byte_at, bytes_high_first, to_be_bytes, w64, w128}
use Rattle.std.proofs.Math.Arith.{mod-mul}
use Rattle.std.proofs.Math.Nat.{pow-succ'}
use Rattle.std.proofs.lemmas.Bool.Decides.{nat_tests}
use Rattle.std.proofs.lemmas.Int.{ints}
use Rattle.cbor_item.specs.Head.{IsHead, shortest_head, narrowest, width_limit}
use Rattle.cbor_item.specs.Item.{Item, unsigned, negative, definite, byte_string, array, item, no_items, tag}
use Rattle.cbor_item.specs.WellFormed.{IsEncodingOf, AreEncodingsOf}
use Rattle.smithy_cbor.specs.Scalar.{big_endian, big_integer_of, both}
use Rattle.smithy_cbor.specs.Written.{without_leading_zeros, big_endian_bytes, byte_string_bytes, integer_bytes, bignum_bytes, big_integer_bytes, decimal_fraction_bytes, epoch_seconds_bytes}
use Rattle.smithy_cbor.specs.ReadBack.{SaysInteger, SaysBigInteger, SaysDecimal, SaysSeconds}

-- ---- bytes

power_some : (k : ℕ) → 0 < 256 ^ k
power_some zero = omega arith
power_some (suc k) = omega (arith, power_some k, pow-succ' 256 k)

byte_is : (k n : ℕ) → byte_at k n ≡ n / 256 ^ k % 256
byte_is zero n = omega arith
byte_is (suc k) n = refl

bytes_length : (k n : ℕ) → length (bytes_high_first k n) ≡ k
bytes_length zero n = refl
bytes_length (suc k) n = ap suc (bytes_length k n)

-- the lowest k bytes
low_bytes : (k n : ℕ) → big_endian (bytes_high_first k n) ≡ n % 256 ^ k
low_bytes zero n = omega arith
low_bytes (suc k) n =
    let rest = big_endian (bytes_high_first k n) in
    let size = ap (λ l. byte_at k n * 256 ^ l + rest) (bytes_length k n) in
    let first = ap (λ b. b * 256 ^ k + rest) (byte_is k n) in
    let some : 0 < 256 = omega arith in
    let split = mod-mul n {m = 256} {c = 256 ^ k} some (power_some k) in
    let power = ap (λ p. n % p) (pow-succ' 256 k) in
    size ∙ first ∙ ap (λ r. n / 256 ^ k % 256 * 256 ^ k + r) (low_bytes k n) ∙ sym split ∙ sym power

zeros_count_nothing : (bytes : List ℕ) → big_endian (without_leading_zeros bytes) ≡ big_endian bytes
zeros_count_nothing [] = refl
zeros_count_nothing (b ∷ bytes) = go (b == 0) refl (zeros_count_nothing bytes)
  where
    nothing : b ≡ 0 → big_endian bytes ≡ b * 256 ^ length bytes + big_endian bytes
    nothing is = let none : big_endian bytes ≡ 0 * 256 ^ length bytes + big_endian bytes = omega arith in none ∙ ap (λ n. n * 256 ^ length bytes + big_endian bytes) (sym is)

    go : (t : Bool) → (b == 0) ≡ t → big_endian (without_leading_zeros bytes) ≡ big_endian bytes
        → big_endian (if t then without_leading_zeros bytes else b ∷ bytes) ≡ b * 256 ^ length bytes + big_endian bytes
    go true is rest = rest ∙ nothing (grind (arith, nat_tests))
    go false is rest = refl

zeros_shorten : (bytes : List ℕ) → length (without_leading_zeros bytes) ≤ length bytes
zeros_shorten [] = omega arith
zeros_shorten (b ∷ bytes) = go (b == 0) (zeros_shorten bytes)
  where
    go : (t : Bool) → length (without_leading_zeros bytes) ≤ length bytes → length (if t then without_leading_zeros bytes else b ∷ bytes) ≤ suc (length bytes)
    go true less = omega (arith, less)
    go false less = omega arith

pub big_endian_back : (n : ℕ) → n < 2 ^ 128 → big_endian (big_endian_bytes n) ≡ n
big_endian_back n fits = let low = zeros_count_nothing (to_be_bytes w128 n) ∙ low_bytes 16 n in omega (arith, low, fits)

big_endian_short : (n : ℕ) → length (big_endian_bytes n) ≤ 16
big_endian_short n = zeros_shorten (to_be_bytes w128 n)

-- ---- items

narrowest_holds : (n : ℕ) → n < 2 ^ 64 → n < width_limit (narrowest n)
narrowest_holds n h = grind (arith, nat_tests)

pub shortest_is_head : (major n : ℕ) → n < 2 ^ 64 → IsHead major n (shortest_head major n)
shortest_is_head major n h = record { width = narrowest n; fits = narrowest_holds n h; spelled = refl }

-- an item under a tag
tag_encoded : (number : ℕ) (i : Item) (bytes : List ℕ) → number < 2 ^ 64 → IsEncodingOf i bytes → IsEncodingOf (tag number i) (shortest_head 6 number ++ bytes)
tag_encoded number i bytes fits encoded = (bytes, encoded, (shortest_head 6 number, shortest_is_head 6 number fits, refl))

byte_string_encoded : (bytes : List ℕ) → length bytes < 2 ^ 64 → IsEncodingOf (byte_string definite (bytes ∷ [])) (byte_string_bytes bytes)
byte_string_encoded bytes short =
    (refl, (byte_string_bytes bytes, [], (shortest_head 2 (length bytes), shortest_is_head 2 (length bytes) short, refl), refl, sym (append-nil (byte_string_bytes bytes))))

pub bignum_encoded : (number n : ℕ) → number < 2 ^ 64 → IsEncodingOf (tag number (byte_string definite (big_endian_bytes n ∷ []))) (bignum_bytes number n)
bignum_encoded number n fits = tag_encoded number (byte_string definite (big_endian_bytes n ∷ [])) (byte_string_bytes (big_endian_bytes n)) fits
    (byte_string_encoded (big_endian_bytes n) (omega (arith, big_endian_short n)))

pub integer_back : (z : ℤ) → FitsSigned w64 z → SaysInteger z (integer_bytes z)
integer_back (pos n) fits = (unsigned n, shortest_is_head 0 n (grind (arith, ints)), refl)
integer_back (negsuc n) fits = (negative n, shortest_is_head 1 n (grind (arith, ints)), refl)

pub big_integer_back : (z : ℤ) → FitsSigned w128 z → SaysBigInteger z (big_integer_bytes z)
big_integer_back (pos n) fits = go (nat_lt n (2 ^ 64)) refl (grind (arith, ints))
  where
    go : (t : Bool) → nat_lt n (2 ^ 64) ≡ t → n < 2 ^ 128 → SaysBigInteger (pos n) (if t then shortest_head 0 n else bignum_bytes 2 n)
    go true small fits = (unsigned n, shortest_is_head 0 n (grind (arith, nat_tests)), refl)
    go false large fits = (tag 2 (byte_string definite (big_endian_bytes n ∷ [])), bignum_encoded 2 n (omega arith), ap (λ m. Some (pos m)) (big_endian_back n fits))
big_integer_back (negsuc n) fits = go (nat_lt n (2 ^ 64)) refl (grind (arith, ints))
  where
    go : (t : Bool) → nat_lt n (2 ^ 64) ≡ t → n < 2 ^ 128 → SaysBigInteger (negsuc n) (if t then shortest_head 1 n else bignum_bytes 3 n)
    go true small fits = (negative n, shortest_is_head 1 n (grind (arith, nat_tests)), refl)
    go false large fits = (tag 3 (byte_string definite (big_endian_bytes n ∷ [])), bignum_encoded 3 n (omega arith), ap (λ m. Some (negsuc m)) (big_endian_back n fits))

pub decimal_back : (exponent mantissa : ℤ) → FitsSigned w64 exponent → FitsSigned w128 mantissa
    → SaysDecimal exponent mantissa (decimal_fraction_bytes exponent mantissa)
decimal_back exponent mantissa fits wide = go (integer_back exponent fits) (big_integer_back mantissa wide)
  where
    go : SaysInteger exponent (integer_bytes exponent) → SaysBigInteger mantissa (big_integer_bytes mantissa)
        → SaysDecimal exponent mantissa (decimal_fraction_bytes exponent mantissa)
    go (e, first, is) (m, second, is') =
        let a = integer_bytes exponent in
        let b = big_integer_bytes mantissa in
        let items : AreEncodingsOf (item e (item m no_items)) (a ++ b) = (a, b, first, (b, [], second, refl, sym (append-nil b)), refl) in
        let pair : IsEncodingOf (array definite (item e (item m no_items))) (shortest_head 4 2 ++ (a ++ b)) =
        (a ++ b, items, (shortest_head 4 2, shortest_is_head 4 2 (omega arith), refl)) in
        let i = array definite (item e (item m no_items)) in
        (tag 4 i, tag_encoded 4 i (shortest_head 4 2 ++ (a ++ b)) (omega arith) pair, ap (λ x. both x (big_integer_of m)) is ∙ ap (both (Some exponent)) is')

pub seconds_back : (seconds : ℤ) → FitsSigned w64 seconds → SaysSeconds seconds (epoch_seconds_bytes seconds)
seconds_back seconds fits = go (integer_back seconds fits)
  where
    go : SaysInteger seconds (integer_bytes seconds) → SaysSeconds seconds (epoch_seconds_bytes seconds)
    go (i, encoded, is) = (tag 1 i, tag_encoded 1 i (integer_bytes seconds) (omega arith) encoded, is)
