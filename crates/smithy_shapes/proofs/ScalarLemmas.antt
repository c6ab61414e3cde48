-- What is known of the scalar values of a kind.
use Rattle.std.proofs.Common.{◌≡◌, ◌≤◌, ◌-◌, ◌^◌, ℕ, ℤ, pos, List, true, IsUtf8, refl, arith, lit≤}
use Rattle.std.specs.Prelude.{◌&&◌, neg_ℤ, int_le, int_lt}
use Rattle.std.proofs.lemmas.Bool.{and_parts}
use Rattle.std.proofs.lemmas.Int.{ints}
use Rattle.std.proofs.lemmas.Str.{IsUtf8-from_is_utf8}
use Rattle.smithy_texts.specs.Base64Text.{are_bytes}
use Rattle.smithy_texts.specs.Ranges.{fits_signed, is_exponent}
use Rattle.smithy_instants.specs.Instant.{is_instant}
use Rattle.smithy_declarations.specs.declared.shape_type.Scalar.{Scalar}
use Rattle.smithy_declarations.specs.declared.shape_type.Scalar.TheVariants as scalars
use Rattle.smithy_declarations.specs.Table.{Kind, scalar}
use Rattle.smithy_declarations.specs.Value.{ScalarValue, whole, text, bytes, decimal, instant}
use Rattle.smithy_shapes.specs.Fits.{is_of, is_scalar_of}

-- where a scalar value stands, the kind is one of scalars
pub scalar_kind : (k : Kind) (x : ScalarValue) → is_scalar_of k x ≡ true → (s : Scalar) × (k ≡ scalar s) × (is_of s x ≡ true)
scalar_kind (scalar s) x h = (s, refl, h)
scalar_kind _ x h = cc

-- ---- widths

between : (p q : ℕ) (n : ℤ) → p ≤ q → (int_le (neg_ℤ (pos p)) n && int_lt n (pos p)) ≡ true → (int_le (neg_ℤ (pos q)) n && int_lt n (pos q)) ≡ true
between p q n wider h =
    let parts = and_parts (int_le (neg_ℤ (pos p)) n) (int_lt n (pos p)) h in
    let low = parts.0 in
    let high = parts.1 in
    grind (arith, ints)

-- what fits so many bits fits more
pub fits_more : (bits more : ℕ) (n : ℤ) → 2 ^ (bits - 1) ≤ 2 ^ (more - 1) → fits_signed bits n ≡ true → fits_signed more n ≡ true
fits_more bits more n wider h = between (2 ^ (bits - 1)) (2 ^ (more - 1)) n wider h

-- a whole number of any kind fits 128 bits
pub whole_fits : (s : Scalar) (n : ℤ) → is_of s (whole n) ≡ true → fits_signed 128 n ≡ true
whole_fits scalars.Byte n h = fits_more 8 128 n (lit≤ tt) h
whole_fits scalars.Short n h = fits_more 16 128 n (lit≤ tt) h
whole_fits scalars.Integer n h = fits_more 32 128 n (lit≤ tt) h
whole_fits scalars.Long n h = fits_more 64 128 n (lit≤ tt) h
whole_fits scalars.BigInteger n h = h
whole_fits _ n h = cc

-- a decimal of any kind is within the limits of its parts
pub decimal_fits : (s : Scalar) (m e : ℤ) → is_of s (decimal m e) ≡ true → (fits_signed 128 m ≡ true) × (is_exponent e ≡ true)
decimal_fits scalars.BigDecimal m e h = and_parts (fits_signed 128 m) (is_exponent e) h
decimal_fits _ m e h = cc

-- the seconds of an instant of any kind fit 64 bits
pub instant_fits : (s : Scalar) (n : ℤ) → is_of s (instant n) ≡ true → is_instant n ≡ true
instant_fits scalars.Timestamp n h = h
instant_fits _ n h = cc

-- a text of any kind is in UTF-8
pub text_is_utf8 : (s : Scalar) (t : List ℕ) → is_of s (text t) ≡ true → IsUtf8 t
text_is_utf8 scalars.String t h = IsUtf8-from_is_utf8 t h
text_is_utf8 _ t h = cc

-- the bytes of any kind are below 256
pub blob_is_bytes : (s : Scalar) (b : List ℕ) → is_of s (bytes b) ≡ true → are_bytes b ≡ true
blob_is_bytes scalars.Blob b h = h
blob_is_bytes _ b h = cc
