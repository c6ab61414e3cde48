-- Examples of RFC 8949, appendix A, so that a wrong rule in the specs does not check.
use Rattle.std.proofs.Common.{◌≡◌, ◌^◌, ◌-◌, [], ◌∷◌, map, refl, true, false, Some, None}
use Rattle.std.specs.Prelude.{pos, negsuc}
use Rattle.cbor_item.specs.Head.{shortest_head}
use Rattle.cbor_item.specs.Item.{unsigned, negative, definite, indefinite, byte_string, array, item, no_items, tag, float}
use Rattle.smithy_cbor.specs.Scalar.{null_value, big_endian, bytes_of, big_integer_of, decimal_fraction_of, epoch_seconds_of}
use Rattle.smithy_cbor.specs.Written.{integer_bytes, boolean_bytes, text_bytes, opening_bytes, byte_string_bytes, big_endian_bytes, big_integer_bytes, decimal_fraction_bytes, epoch_seconds_bytes}

-- 0, 23, 24, 100, 1000, 1000000
pub numbers : map integer_bytes (pos 0 ∷ pos 23 ∷ pos 24 ∷ pos 100 ∷ pos 1000 ∷ pos 1000000 ∷ [])
    ≡ (0x00 ∷ []) ∷ (0x17 ∷ []) ∷ (0x18 ∷ 0x18 ∷ []) ∷ (0x18 ∷ 0x64 ∷ []) ∷ (0x19 ∷ 0x03 ∷ 0xe8 ∷ [])
    ∷ (0x1a ∷ 0x00 ∷ 0x0f ∷ 0x42 ∷ 0x40 ∷ []) ∷ []
numbers = refl

-- -1, -10, -100, -1000
pub negative_numbers : map integer_bytes (negsuc 0 ∷ negsuc 9 ∷ negsuc 99 ∷ negsuc 999 ∷ [])
    ≡ (0x20 ∷ []) ∷ (0x29 ∷ []) ∷ (0x38 ∷ 0x63 ∷ []) ∷ (0x39 ∷ 0x03 ∷ 0xe7 ∷ []) ∷ []
negative_numbers = refl

-- false, true, null
pub simple_values : boolean_bytes false ∷ boolean_bytes true ∷ shortest_head 7 null_value ∷ []
    ≡ (0xf4 ∷ []) ∷ (0xf5 ∷ []) ∷ (0xf6 ∷ []) ∷ []
simple_values = refl

-- "", "a", "IETF"
pub texts : map text_bytes ([] ∷ (0x61 ∷ []) ∷ (0x49 ∷ 0x45 ∷ 0x54 ∷ 0x46 ∷ []) ∷ [])
    ≡ (0x60 ∷ []) ∷ (0x61 ∷ 0x61 ∷ []) ∷ (0x64 ∷ 0x49 ∷ 0x45 ∷ 0x54 ∷ 0x46 ∷ []) ∷ []
texts = refl

-- the beginnings of [_ ] and {_ }
pub openings : opening_bytes 4 ∷ opening_bytes 5 ∷ [] ≡ (0x9f ∷ []) ∷ (0xbf ∷ []) ∷ []
openings = refl

-- h'', h'01020304'
pub byte_strings : map byte_string_bytes ([] ∷ (0x01 ∷ 0x02 ∷ 0x03 ∷ 0x04 ∷ []) ∷ []) ≡ (0x40 ∷ []) ∷ (0x44 ∷ 0x01 ∷ 0x02 ∷ 0x03 ∷ 0x04 ∷ []) ∷ []
byte_strings = refl

-- (_ h'0102', h'030405')
pub chunks_joined : bytes_of (byte_string indefinite ((0x01 ∷ 0x02 ∷ []) ∷ (0x03 ∷ 0x04 ∷ 0x05 ∷ []) ∷ [])) ≡ Some (0x01 ∷ 0x02 ∷ 0x03 ∷ 0x04 ∷ 0x05 ∷ [])
chunks_joined = refl

-- the highest byte comes first, and zeros before it count nothing
pub highest_first : map big_endian ([] ∷ (0 ∷ []) ∷ (1 ∷ 2 ∷ []) ∷ (0 ∷ 0 ∷ 1 ∷ 0 ∷ []) ∷ []) ≡ 0 ∷ 0 ∷ 258 ∷ 256 ∷ []
highest_first = refl

-- 0 has no byte, and no number begins with a zero
pub shortest_bytes : map big_endian_bytes (0 ∷ 255 ∷ 256 ∷ 65536 ∷ []) ≡ [] ∷ (255 ∷ []) ∷ (1 ∷ 0 ∷ []) ∷ (1 ∷ 0 ∷ 0 ∷ []) ∷ []
shortest_bytes = refl

-- 18446744073709551615, 18446744073709551616, -18446744073709551616, -18446744073709551617
pub bignums : map big_integer_bytes (pos (2 ^ 64 - 1) ∷ pos (2 ^ 64) ∷ negsuc (2 ^ 64 - 1) ∷ negsuc (2 ^ 64) ∷ [])
    ≡ (0x1b ∷ 0xff ∷ 0xff ∷ 0xff ∷ 0xff ∷ 0xff ∷ 0xff ∷ 0xff ∷ 0xff ∷ [])
    ∷ (0xc2 ∷ 0x49 ∷ 0x01 ∷ 0x00 ∷ 0x00 ∷ 0x00 ∷ 0x00 ∷ 0x00 ∷ 0x00 ∷ 0x00 ∷ 0x00 ∷ [])
    ∷ (0x3b ∷ 0xff ∷ 0xff ∷ 0xff ∷ 0xff ∷ 0xff ∷ 0xff ∷ 0xff ∷ 0xff ∷ [])
    ∷ (0xc3 ∷ 0x49 ∷ 0x01 ∷ 0x00 ∷ 0x00 ∷ 0x00 ∷ 0x00 ∷ 0x00 ∷ 0x00 ∷ 0x00 ∷ 0x00 ∷ []) ∷ []
bignums = refl

-- the same are read, and -1 under tag 3 without a byte
pub bignums_read : big_integer_of (tag 2 (byte_string definite ((1 ∷ 0 ∷ 0 ∷ 0 ∷ 0 ∷ 0 ∷ 0 ∷ 0 ∷ 0 ∷ []) ∷ []))) ∷ big_integer_of (tag 3 (byte_string definite ((1 ∷ 0 ∷ 0 ∷ 0 ∷ 0 ∷ 0 ∷ 0 ∷ 0 ∷ 0 ∷ []) ∷ [])))
    ∷ big_integer_of (tag 3 (byte_string definite ([] ∷ []))) ∷ big_integer_of (negative 41) ∷ []
    ≡ Some (pos (2 ^ 64)) ∷ Some (negsuc (2 ^ 64)) ∷ Some (negsuc 0) ∷ Some (negsuc 41) ∷ []
bignums_read = refl

-- chunks are no bignum, nor is another tag or a tag over an integer
pub no_bignums : big_integer_of (tag 2 (byte_string indefinite ((1 ∷ []) ∷ []))) ∷ big_integer_of (tag 4 (byte_string definite ((1 ∷ []) ∷ []))) ∷ big_integer_of (tag 2 (unsigned 1)) ∷ []
    ≡ None ∷ None ∷ None ∷ []
no_bignums = refl

-- 273.15 (section 3.4.4)
pub decimal : decimal_fraction_bytes (negsuc 1) (pos 27315) ≡ 0xc4 ∷ 0x82 ∷ 0x21 ∷ 0x19 ∷ 0x6a ∷ 0xb3 ∷ []
decimal = refl

pub decimal_read : decimal_fraction_of (tag 4 (array indefinite (item (negative 1) (item (unsigned 27315) no_items)))) ≡ Some (negsuc 1, pos 27315)
decimal_read = refl

-- one part, three, and another tag
pub no_decimals : decimal_fraction_of (tag 4 (array definite (item (unsigned 1) no_items)))
    ∷ decimal_fraction_of (tag 4 (array definite (item (unsigned 0) (item (unsigned 1) (item (unsigned 2) no_items)))))
    ∷ decimal_fraction_of (tag 5 (array definite (item (unsigned 0) (item (unsigned 1) no_items)))) ∷ []
    ≡ None ∷ None ∷ None ∷ []
no_decimals = refl

-- 1(1363896240), which is 2013-03-21T20:04:00Z
pub date : epoch_seconds_bytes (pos 1363896240) ≡ 0xc1 ∷ 0x1a ∷ 0x51 ∷ 0x4b ∷ 0x67 ∷ 0xb0 ∷ []
date = refl

pub dates_read : epoch_seconds_of (tag 1 (unsigned 1363896240)) ∷ epoch_seconds_of (tag 0 (unsigned 0)) ∷ epoch_seconds_of (tag 1 (float (0x00 ∷ 0x00 ∷ []))) ∷ []
    ≡ Some (pos 1363896240) ∷ None ∷ None ∷ []
dates_read = refl
