-- What numbers and strings of RFC 8259 say as whole numbers and texts, by computing.
use Rattle.std.proofs.Common.{◌≡◌, [], ◌∷◌, map, true, false, Some, None, refl, pos, neg_ℤ, ◌^◌, ◌-◌, codes}
use Rattle.std.specs.Char.{encode_utf8}
use Rattle.smithy_json_grammar.specs.Unescape.{code_unit}
use Rattle.smithy_json_grammar.specs.Tree.{null, boolean, number, string, object, no_members}
use Rattle.smithy_json_values.specs.Meaning.{json_meaning}
use Rattle.smithy_json_codec.proofs.Examples.{whole_value, text_value, one_long, one_string, long_place, string_place, alone, in_arrays, first_alone, strict, means_at, would_mean_at}

-- ---- whole numbers

-- 2^63-1, 2^63, -2^63, -2^63-1
pub ends_of_long : map (means_at one_long 0) (alone (codes "a") (number (codes "9223372036854775807")) ∷ alone (codes "a") (number (codes "9223372036854775808")) ∷ alone (codes "a") (number (codes "-9223372036854775808")) ∷ alone (codes "a") (number (codes "-9223372036854775809")) ∷ [])
    ≡ Some (first_alone (whole_value (pos (2 ^ 63 - 1)))) ∷ None ∷ Some (first_alone (whole_value (neg_ℤ (pos (2 ^ 63))))) ∷ None ∷ []
ends_of_long = refl

-- the width isn't a limit that is lifted
pub ends_of_long_lifted : map (would_mean_at one_long 0) (alone (codes "a") (number (codes "9223372036854775808")) ∷ alone (codes "a") (number (codes "-9223372036854775809")) ∷ [])
    ≡ None ∷ None ∷ []
ends_of_long_lifted = refl

-- 0, -0, 7, -7, 10
pub whole_numbers : map (λ raw. json_meaning (strict false) one_long long_place 0 (number raw)) (codes "0" ∷ codes "-0" ∷ codes "7" ∷ codes "-7" ∷ codes "10" ∷ [])
    ≡ Some (whole_value (pos 0)) ∷ Some (whole_value (pos 0)) ∷ Some (whole_value (pos 7)) ∷ Some (whole_value (neg_ℤ (pos 7))) ∷ Some (whole_value (pos 10)) ∷ []
whole_numbers = refl

-- 1.0, 1e0, 1E0, -0.0, 1e2
pub no_whole_numbers : map (λ raw. json_meaning (strict false) one_long long_place 0 (number raw)) (codes "1.0" ∷ codes "1e0" ∷ codes "1E0" ∷ codes "-0.0" ∷ codes "1e2" ∷ [])
    ≡ None ∷ None ∷ None ∷ None ∷ None ∷ []
no_whole_numbers = refl

-- null, true, "1", [1] and {} are no whole numbers
pub no_longs : map (json_meaning (strict false) one_long long_place 0) (null ∷ boolean true ∷ string (codes "1") ∷ in_arrays 1 (number (codes "1")) ∷ object no_members ∷ [])
    ≡ None ∷ None ∷ None ∷ None ∷ None ∷ []
no_longs = refl

-- ---- strings

-- "", "x", "\/\u001F", "\"\\\b\f\n\r\t", "\u0041\u00e9\u20AC", "\ud83d\ude00", and a character of two bytes
pub strings : map (λ raw. json_meaning (strict false) one_string string_place 0 (string raw)) ([] ∷ codes "x" ∷ codes "\\/\\u001F" ∷ codes "\\\"\\\\\\b\\f\\n\\r\\t" ∷ codes "\\u0041\\u00e9\\u20AC" ∷ codes "\\ud83d\\ude00" ∷ (0xc3 ∷ 0xa9 ∷ []) ∷ [])
    ≡ Some (text_value []) ∷ Some (text_value (codes "x")) ∷ Some (text_value (0x2f ∷ 0x1f ∷ [])) ∷ Some (text_value (0x22 ∷ 0x5c ∷ 0x08 ∷ 0x0c ∷ 0x0a ∷ 0x0d ∷ 0x09 ∷ []))
    ∷ Some (text_value (0x41 ∷ 0xc3 ∷ 0xa9 ∷ 0xe2 ∷ 0x82 ∷ 0xac ∷ [])) ∷ Some (text_value (0xf0 ∷ 0x9f ∷ 0x98 ∷ 0x80 ∷ [])) ∷ Some (text_value (0xc3 ∷ 0xa9 ∷ [])) ∷ []
unfolding encode_utf8 code_unit
strings = refl

-- "\\u0041": an escaped backslash takes nothing behind it
pub escaped_backslash : json_meaning (strict false) one_string string_place 0 (string (codes "\\\\u0041")) ≡ Some (text_value (codes "\\u0041"))
escaped_backslash = refl

-- a surrogate that is alone: first or last of a pair, before another character, or in the wrong order
pub no_strings : map (λ raw. json_meaning (strict false) one_string string_place 0 (string raw)) (codes "\\ud800" ∷ codes "\\udc00" ∷ codes "\\ud800abcdef" ∷ codes "\\ud800\\u0041" ∷ codes "\\udc00\\ud800" ∷ codes "\\ud800\\ud800\\udc00" ∷ [])
    ≡ None ∷ None ∷ None ∷ None ∷ None ∷ None ∷ []
unfolding encode_utf8 code_unit
no_strings = refl

-- null, 1, ["x"] and {} are no strings
pub no_texts : map (json_meaning (strict false) one_string string_place 0) (null ∷ number (codes "1") ∷ in_arrays 1 (string (codes "x")) ∷ object no_members ∷ [])
    ≡ None ∷ None ∷ None ∷ None ∷ []
no_texts = refl
