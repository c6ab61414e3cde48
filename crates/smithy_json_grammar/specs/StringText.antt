-- What may stand between the quotation marks of a string (RFC 8259, section 7), computed, and where less is asked for.
use Rattle.std.specs.Prelude.{◌≡◌, ◌≢◌, ◌⊎◌, ℕ, ◌==◌, ◌&&◌, ◌||◌, List, [], ◌∷◌, Bool, true, false, not, nat_le, ⊤, if◌then◌else◌}
use Rattle.std.specs.Char.{is_ascii_hexdigit}
use Rattle.std.specs.List.{list_all}
use Rattle.std.specs.Str.{is_utf8}
use Rattle.smithy_json_grammar.specs.Ascii.{quotation_mark, escape, letter_u, space, is_short_escape}

-- unescaped = %x20-21 / %x23-5B / %x5D-10FFFF, by the bytes of its UTF-8
abbrev pub is_unescaped : ℕ → Bool
is_unescaped b = nat_le space b && (not (b == quotation_mark) && not (b == escape))

-- 4HEXDIG comes first
abbrev pub begins_with_four_hex_digits : List ℕ → Bool
begins_with_four_hex_digits (a ∷ b ∷ c ∷ d ∷ _) =
    is_ascii_hexdigit a && (is_ascii_hexdigit b && (is_ascii_hexdigit c && is_ascii_hexdigit d))
begins_with_four_hex_digits _ = false

-- what may follow a backslash
abbrev pub is_escape : ℕ → List ℕ → Bool
is_escape letter rest = is_short_escape letter || ((letter == letter_u) && begins_with_four_hex_digits rest)

-- *char
abbrev pub are_chars : List ℕ → Bool
are_chars [] = true
are_chars (b ∷ []) = is_unescaped b
are_chars (b ∷ letter ∷ rest) =
    if b == escape then is_escape letter rest && are_chars rest else is_unescaped b && are_chars (letter ∷ rest)

abbrev pub is_string_text : List ℕ → Bool
is_string_text raw = is_utf8 raw && are_chars raw

-- ---- where less is asked for

-- bytes of which each backslash takes the next: what stands between quotation marks, whatever it is
abbrev pub IsQuoted : List ℕ → Type 0
IsQuoted [] = ⊤
IsQuoted (b ∷ []) = (b ≢ quotation_mark) × (b ≢ escape)
IsQuoted (b ∷ c ∷ raw) =
    (((b ≢ quotation_mark) × (b ≢ escape)) × IsQuoted (c ∷ raw)) ⊎ ((b ≡ escape) × IsQuoted raw)

-- each backslash begins an escape
abbrev pub escapes_are_valid : List ℕ → Bool
escapes_are_valid [] = true
escapes_are_valid (b ∷ []) = not (b == escape)
escapes_are_valid (b ∷ letter ∷ rest) =
    if b == escape then is_escape letter rest && escapes_are_valid rest else escapes_are_valid (letter ∷ rest)

-- UTF-8 without control characters below 0x20
abbrev pub is_plain_text : List ℕ → Bool
is_plain_text raw = is_utf8 raw && list_all (nat_le space) raw

-- UTF-8 whose escapes are valid
abbrev pub is_lenient_text : List ℕ → Bool
is_lenient_text raw = is_utf8 raw && escapes_are_valid raw
