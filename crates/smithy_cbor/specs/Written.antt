-- The bytes of the values that are written: shortest heads (RFC 8949, section 4.1), and containers of
-- indefinite length (section 3.2.2).
use Rattle.std.specs.Prelude.{ℕ, ◌==◌, ◌^◌, nat_lt, if◌then◌else◌, List, [], ◌∷◌, ◌++◌, length, Bool, true, false, ℤ, pos, negsuc}
use Rattle.std.specs.Int.{w128, to_be_bytes}
use Rattle.cbor_item.specs.Head.{initial_byte, shortest_head}
use Rattle.smithy_cbor.specs.Scalar.{false_value, true_value}

-- an integer from -2^64 to 2^64-1
abbrev pub integer_bytes : ℤ → List ℕ
integer_bytes (pos n) = shortest_head 0 n
integer_bytes (negsuc n) = shortest_head 1 n

-- a boolean
abbrev pub boolean_bytes : Bool → List ℕ
boolean_bytes false = shortest_head 7 false_value
boolean_bytes true = shortest_head 7 true_value

-- a text string of definite length
abbrev pub text_bytes : List ℕ → List ℕ
text_bytes t = shortest_head 3 (length t) ++ t

-- the initial byte of an array or a map of indefinite length
abbrev pub opening_bytes : ℕ → List ℕ
opening_bytes major = initial_byte major 31 ∷ []

-- a byte string of definite length
abbrev pub byte_string_bytes : List ℕ → List ℕ
byte_string_bytes bytes = shortest_head 2 (length bytes) ++ bytes

-- bytes without the zeros at their front
abbrev pub without_leading_zeros : List ℕ → List ℕ
without_leading_zeros [] = []
without_leading_zeros (b ∷ bytes) = if b == 0 then without_leading_zeros bytes else b ∷ bytes

-- a number below 2^128 in big-endian order, without leading zeros
abbrev pub big_endian_bytes : ℕ → List ℕ
big_endian_bytes n = without_leading_zeros (to_be_bytes w128 n)

-- the bytes of n under a tag (section 3.4.3)
abbrev pub bignum_bytes : ℕ → ℕ → List ℕ
bignum_bytes number n = shortest_head 6 number ++ byte_string_bytes (big_endian_bytes n)

-- n under a major type where its head holds it, else its bytes under a tag
abbrev pub magnitude_bytes : ℕ → ℕ → ℕ → List ℕ
magnitude_bytes major number n = if nat_lt n (2 ^ 64) then shortest_head major n else bignum_bytes number n

-- a whole number of 128 bits
abbrev pub big_integer_bytes : ℤ → List ℕ
big_integer_bytes (pos n) = magnitude_bytes 0 2 n
big_integer_bytes (negsuc n) = magnitude_bytes 1 3 n

-- a decimal fraction: tag 4 and an array of exponent and mantissa (section 3.4.4)
abbrev pub decimal_fraction_bytes : ℤ → ℤ → List ℕ
decimal_fraction_bytes exponent mantissa =
    shortest_head 6 4
    ++ (shortest_head 4 2 ++ (integer_bytes exponent ++ big_integer_bytes mantissa))

-- a date of so many seconds after the epoch: tag 1 (section 3.4.2)
abbrev pub epoch_seconds_bytes : ℤ → List ℕ
epoch_seconds_bytes seconds = shortest_head 6 1 ++ integer_bytes seconds
