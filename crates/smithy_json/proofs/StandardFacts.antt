-- Examples of RFC 8259, and near misses, by computing.
use Rattle.std.proofs.Common.{◌≡◌, ◌≢◌, ◌≤◌, ℕ, [], ◌∷◌, ◌++◌, map, List, Some, None, Ok, Err, Bool, true, false, refl, pos, neg_ℤ, codes, ◌^◌, arith, inl, inr}
use Rattle.std.proofs.lemmas.Str.{IsUtf8-from_is_utf8}
use Rattle.std.specs.Char.{encode_utf8}
use Rattle.std.specs.Str.{is_utf8, chars}
use Rattle.smithy_json.specs.Escape.{escaped, quoted}
use Rattle.smithy_json_grammar.specs.Grammar.{IsInt, IsFrac, IsNumber, IsUnescaped, AreChars, IsStringText, IsValue, IsJsonText, IsBoundary}
use Rattle.smithy_json_grammar.specs.Number.{whole_number, signed_number, integral_number}
use Rattle.smithy_json_grammar.specs.NumberGrammar.{standard_numbers}
use Rattle.smithy_json_grammar.specs.NumberText.{is_number, is_number_of}
use Rattle.smithy_json_grammar.specs.declared.number_grammar.NumberGrammar.{NumberGrammar}
use Rattle.smithy_json_grammar.specs.Tree.{null, boolean, number, string, array, object, no_elements, element, no_members, member, nesting}
use Rattle.smithy_json_grammar.specs.Unescape.{code_unit, unescape}
use Rattle.smithy_json_grammar.specs.declared.escape_error.EscapeError.TheVariants.{UnexpectedEndOfString, InvalidEscapeCharacter, InvalidUnicodeEscape, ExpectedSurrogatePair, InvalidSurrogatePair}

-- ---- strings

-- U+10437 and U+1F600, each of a pair of surrogates
pub pairs : map unescape (codes "\\uD801\\uDC37" ∷ codes "\\ud83d\\ude00" ∷ [])
    ≡ Ok (0xf0 ∷ 0x90 ∷ 0x90 ∷ 0xb7 ∷ []) ∷ Ok (0xf0 ∷ 0x9f ∷ 0x98 ∷ 0x80 ∷ []) ∷ []
unfolding code_unit encode_utf8
pairs = refl

-- surrogates that are no pair
pub lone_surrogates : map unescape (codes "\\uD801\\uC501" ∷ codes "\\ud800" ∷ codes "\\udc00" ∷ codes "\\ud801abcdef" ∷ codes "\\ud800\\ud800\\udc00" ∷ [])
    ≡ Err (InvalidSurrogatePair 0xd801 0xc501) ∷ Err UnexpectedEndOfString ∷ Err InvalidUnicodeEscape ∷ Err ExpectedSurrogatePair ∷ Err (InvalidSurrogatePair 0xd800 0xd800) ∷ []
unfolding code_unit
lone_surrogates = refl

-- no such escapes, and escapes that end too early
pub no_escapes : map unescape (codes "\\z" ∷ codes "\\" ∷ codes "a\\u12" ∷ codes "\\U0000" ∷ codes "\\uD801\\u00" ∷ [])
    ≡ Err (InvalidEscapeCharacter 0x7a) ∷ Err UnexpectedEndOfString ∷ Err UnexpectedEndOfString ∷ Err (InvalidEscapeCharacter 0x55) ∷ Err UnexpectedEndOfString ∷ []
unfolding code_unit
no_escapes = refl

-- each unit by itself, and an escaped backslash takes nothing after it
pub each_unit : map unescape (codes "\\/\\u001F" ∷ codes "\\\"\\\\\\b\\f\\n\\r\\t" ∷ codes "a\\u0041b" ∷ codes "\\\\u0041" ∷ [] ∷ [])
    ≡ Ok (0x2f ∷ 0x1f ∷ []) ∷ Ok (0x22 ∷ 0x5c ∷ 0x08 ∷ 0x0c ∷ 0x0a ∷ 0x0d ∷ 0x09 ∷ []) ∷ Ok (codes "aAb") ∷ Ok (codes "\\u0041") ∷ Ok [] ∷ []
unfolding code_unit encode_utf8
each_unit = refl

pub written : map escaped ((0x1f ∷ []) ∷ codes "a\"\n" ∷ codes "\\" ∷ codes "/" ∷ (0x08 ∷ 0x0c ∷ 0x0d ∷ 0x09 ∷ 0x00 ∷ 0x7f ∷ []) ∷ [])
    ≡ codes "\\u001f" ∷ codes "a\\\"\\n" ∷ codes "\\\\" ∷ codes "/" ∷ (codes "\\b\\f\\r\\t\\u0000" ++ 0x7f ∷ []) ∷ []
written = refl

pub between_marks : quoted (codes "a/b") ≡ codes "\"a/b\""
between_marks = refl

plain : (b : ℕ) → 0x20 ≤ b → b ≢ 0x22 → b ≢ 0x5c → IsUnescaped b
plain b above quote slash = (above, quote, slash)

pub hi : IsValue (string (codes "Hi")) (codes "\"Hi\"")
unfolding is_utf8 chars encode_utf8
hi = (refl, (IsUtf8-from_is_utf8 (codes "Hi") refl, inl (plain 0x48 (omega arith) (λ e. omega arith) (λ e. omega arith), plain 0x69 (omega arith) (λ e. omega arith) (λ e. omega arith))))

-- a lone surrogate, which may stand in a string that nobody reads
pub lone_surrogate : IsStringText (codes "\\ud800")
unfolding is_utf8 chars encode_utf8
lone_surrogate =
    let zero_plain = plain 0x30 (omega arith) (λ e. omega arith) (λ e. omega arith) in
    (IsUtf8-from_is_utf8 (codes "\\ud800") refl, inr (refl, inr (refl, (inr (omega arith, omega arith), inl (inl (omega arith, omega arith)), inl (inl (omega arith, omega arith)), inl (inl (omega arith, omega arith)))), inl (plain 0x64 (omega arith) (λ e. omega arith) (λ e. omega arith), inl (plain 0x38 (omega arith) (λ e. omega arith) (λ e. omega arith), inl (zero_plain, zero_plain)))))

-- a line feed and a quotation mark are no characters of a string
pub no_character : (IsUnescaped 0x0a → ⊥) × (AreChars (codes "\"") → ⊥)
no_character = (λ h. omega (arith, h.0), λ h. h.1 refl)

-- ---- numbers

forty_two : IsNumber (codes "42")
forty_two = record { minus = []; int = codes "42"; frac = []; exp = []; parts = refl; is_minus = inl refl; is_int = ((omega arith, omega arith), λ e. omega arith, ((omega arith, omega arith), tt)); is_frac = tt; is_exp = tt }

-- -0.5E+1
pub each_part : IsNumber (codes "-0.5E+1")
each_part = record {
  minus = codes "-";
  int = codes "0";
  frac = codes ".5";
  exp = codes "E+1";
  parts = refl;
  is_minus = inr refl;
  is_int = (omega arith, omega arith);
  is_frac = (refl, (omega arith, ((omega arith, omega arith), tt)));
  is_exp = (refl, (codes "+", codes "1", refl, inr (inl refl), (omega arith, ((omega arith, omega arith), tt))));
}

-- a leading zero is no int, and a point without digits no frac
pub leading_zero : IsInt (codes "01") → ⊥
leading_zero h = h.1 refl

pub bare_point : IsFrac (codes ".") → ⊥
bare_point h = omega (arith, h.1.0)

pub whole_numbers : map whole_number (codes "0" ∷ codes "-0" ∷ codes "42" ∷ codes "-9223372036854775808" ∷ [])
    ≡ Some (pos 0) ∷ Some (pos 0) ∷ Some (pos 42) ∷ Some (neg_ℤ (pos (2 ^ 63))) ∷ []
whole_numbers = refl

pub other_numbers : map whole_number (codes "1.0" ∷ codes "1e3" ∷ codes "-" ∷ codes "+1" ∷ [] ∷ [])
    ≡ None ∷ None ∷ None ∷ None ∷ None ∷ []
other_numbers = refl

-- ---- numbers with what may be allowed

-- where nothing is allowed they are those of the standard
pub nothing_allowed : (text : List ℕ) → is_number_of standard_numbers text ≡ is_number text
nothing_allowed text = refl

abbrev allowing : Bool → Bool → Bool → NumberGrammar
allowing zeros point empty = record { allow_leading_zeros = zeros; allow_trailing_decimal_point = point; allow_empty_integer_part = empty }

pub leading_zeros : map (is_number_of (allowing true false false)) (codes "007" ∷ codes "-00.50" ∷ codes "0" ∷ codes "12." ∷ codes "-.5" ∷ codes "+7" ∷ [])
    ≡ true ∷ true ∷ true ∷ false ∷ false ∷ false ∷ []
leading_zeros = refl

pub trailing_points : map (is_number_of (allowing false true false)) (codes "12." ∷ codes "-0.e3" ∷ codes "007" ∷ codes "-.5" ∷ codes "." ∷ codes "1..5" ∷ [])
    ≡ true ∷ true ∷ false ∷ false ∷ false ∷ false ∷ []
trailing_points = refl

pub empty_integer_parts : map (is_number_of (allowing false false true)) (codes "-.5" ∷ codes "-.5e3" ∷ codes ".5" ∷ codes "-.e3" ∷ codes "12." ∷ codes "-" ∷ [])
    ≡ true ∷ true ∷ false ∷ false ∷ false ∷ false ∷ []
empty_integer_parts = refl

-- where all is allowed a number still has a digit before its exponent
pub all_allowed : map (is_number_of (allowing true true true)) (codes "-00.e1" ∷ codes "-." ∷ codes "-.e1" ∷ codes "1e" ∷ codes "--1" ∷ [])
    ≡ true ∷ false ∷ false ∷ false ∷ false ∷ []
all_allowed = refl

pub signed_numbers : map signed_number (codes "+5" ∷ codes "-007" ∷ codes "-0" ∷ codes "+" ∷ codes "+-5" ∷ codes "5+" ∷ [])
    ≡ Some (pos 5) ∷ Some (neg_ℤ (pos 7)) ∷ Some (pos 0) ∷ None ∷ None ∷ None ∷ []
signed_numbers = refl

pub integral_numbers : map integral_number (codes "1.5e1" ∷ codes "100e-2" ∷ codes "-0.0" ∷ codes "-922337203685477580.8e1" ∷ codes "7" ∷ [])
    ≡ Some (pos 15) ∷ Some (pos 1) ∷ Some (pos 0) ∷ Some (neg_ℤ (pos (2 ^ 63))) ∷ Some (pos 7) ∷ []
integral_numbers = refl

-- a part of a whole number, beyond 64 bits, and an exponent beyond 64 bits
pub no_integral_numbers : map integral_number (codes "1.5" ∷ codes "1e-1" ∷ codes "1.0e19" ∷ codes "1e400" ∷ codes "0e99999999999999999999" ∷ codes "1e" ∷ [])
    ≡ None ∷ None ∷ None ∷ None ∷ None ∷ None ∷ []
no_integral_numbers = refl

-- ---- texts

-- 42, with a line feed after it
pub a_number : IsJsonText (number (codes "42")) (codes "42\n")
a_number = ([], codes "42", codes "\n", refl, tt, (refl, forty_two), (refl, tt))

-- [true ,null]: the blank belongs to the element `true`
pub an_array : IsValue (array (element (boolean true) (element null no_elements))) (codes "[true ,null]")
an_array = (
  codes "true ,null",
  refl,
  (
    codes "true ",
    codes ",null",
    refl,
    ([], codes "true", codes " ", refl, tt, refl, (refl, tt)),
    (refl, (codes "null", [], refl, ([], codes "null", [], refl, tt, refl, tt), refl)),
  ),
)

-- {} and [ ]
pub empty_containers : IsValue (object no_members) (codes "{}") × IsValue (array no_elements) (codes "[ ]")
empty_containers = (([], refl, tt), (codes " ", refl, (refl, tt)))

-- a letter ends no number
pub no_boundary : IsBoundary (codes "x") → ⊥
no_boundary (inl h) = cc
no_boundary (inr (inl h)) = omega arith
no_boundary (inr (inr (inl h))) = omega arith
no_boundary (inr (inr (inr h))) = omega arith

pub nestings : map nesting (null ∷ array no_elements ∷ array (element (array no_elements) (element null no_elements)) ∷ object (member (codes "a") (array no_elements) no_members) ∷ [])
    ≡ 0 ∷ 1 ∷ 2 ∷ 2 ∷ []
nestings = refl
