-- What one item stands for by itself: simple values, numbers, strings, and what tags make of them
-- (RFC 8949, sections 3.1, 3.3 and 3.4).
use Rattle.std.specs.Prelude.{ℕ, ◌+◌, ◌*◌, ◌^◌, ◌==◌, Bool, true, false, List, [], ◌∷◌, length, ℤ, pos, negsuc, Option, Some, None, if◌then◌else◌}
use Rattle.std.specs.List.{list_all, concat}
use Rattle.std.specs.Str.{is_utf8}
use Rattle.cbor_item.specs.Item.{Item, unsigned, negative, definite, byte_string, text_string, array, item, no_items, tag, simple}

-- simple values (section 3.3)
abbrev pub false_value : ℕ
false_value = 20

abbrev pub true_value : ℕ
true_value = 21

abbrev pub null_value : ℕ
null_value = 22

-- false or true
abbrev pub boolean_item : Bool → Item
boolean_item false = simple false_value
boolean_item true = simple true_value

-- the number of an integer
abbrev pub integer_of : Item → Option ℤ
integer_of (unsigned n) = Some (pos n)
integer_of (negative n) = Some (negsuc n)
integer_of _ = None

-- the text of chunks, where each of them is UTF-8 by itself
abbrev pub joined_text : List (List ℕ) → Option (List ℕ)
joined_text chunks = if list_all is_utf8 chunks then Some (concat chunks) else None

-- the text of a text string
abbrev pub text_of : Item → Option (List ℕ)
text_of (text_string extent chunks) = joined_text chunks
text_of _ = None

-- the bytes of a byte string
abbrev pub bytes_of : Item → Option (List ℕ)
bytes_of (byte_string extent chunks) = Some (concat chunks)
bytes_of _ = None

-- the number that bytes are in big-endian order
abbrev pub big_endian : List ℕ → ℕ
big_endian [] = 0
big_endian (b ∷ bytes) = b * 256 ^ length bytes + big_endian bytes

-- n under the tag of a bignum: n itself under tag 2, -1 - n under tag 3 (section 3.4.3)
abbrev pub bignum : ℕ → ℕ → Option ℤ
bignum number n =
    if number == 2 then Some (pos n)
    else if number == 3 then Some (negsuc n)
    else None

-- the number of an integer, or of a bignum whose byte string is definite
abbrev pub big_integer_of : Item → Option ℤ
big_integer_of (tag number (byte_string definite (chunk ∷ []))) = bignum number (big_endian chunk)
big_integer_of i = integer_of i

-- a pair of two numbers, where both are there
abbrev pub both : Option ℤ → Option ℤ → Option (ℤ × ℤ)
both (Some a) (Some b) = Some (a, b)
both _ _ = None

-- exponent and mantissa of a decimal fraction: tag 4 and an array of both (section 3.4.4)
abbrev pub decimal_fraction_of : Item → Option (ℤ × ℤ)
decimal_fraction_of (tag number (array extent (item exponent (item mantissa no_items)))) =
    if number == 4 then both (integer_of exponent) (big_integer_of mantissa) else None
decimal_fraction_of _ = None

-- the seconds of a date after the epoch, where they are an integer: tag 1 (section 3.4.2)
abbrev pub epoch_seconds_of : Item → Option ℤ
epoch_seconds_of (tag number i) = if number == 1 then integer_of i else None
epoch_seconds_of _ = None
