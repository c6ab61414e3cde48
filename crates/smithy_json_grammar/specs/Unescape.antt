-- What a string stands for, freed of its escapes (RFC 8259, section 7). A text is in UTF-8.
use Rattle.std.specs.Prelude.{ℕ, List, [], ◌∷◌, ◌++◌, map, Bool, true, false, ◌&&◌, ◌==◌, Option, Result, Ok, Err, encode_utf8, if◌then◌else◌}
use Rattle.std.specs.List.{list_all, list_any}
use Rattle.std.specs.Result.{result_ok}
use Rattle.std.specs.Str.{is_utf8, byte}
use Rattle.std.specs.Char.{is_ascii_hexdigit, digit_value}
use Rattle.std.specs.Char.Utf16.{is_high_surrogate, is_low_surrogate, surrogate_pair_char}
use Rattle.std.specs.Int.Digits.{number_from_digits}
use Rattle.smithy_json_grammar.specs.Ascii.{escape, letter_u, backspace, tab, line_feed, form_feed, carriage_return, is_short_escape}
use Rattle.smithy_json_grammar.specs.declared.escape_error.EscapeError.{EscapeError}
use Rattle.smithy_json_grammar.specs.declared.escape_error.EscapeError.TheVariants.{UnexpectedEndOfString, InvalidEscapeCharacter, InvalidUtf8, InvalidUnicodeEscape, ExpectedSurrogatePair, InvalidSurrogatePair}

-- the character that a letter stands for after the byte `escape`: `"`, `\` and `/` for themselves
abbrev pub short_escape : ℕ → ℕ
short_escape letter =
    if letter == byte "b" then backspace
    else if letter == byte "f" then form_feed
    else if letter == byte "n" then line_feed
    else if letter == byte "r" then carriage_return
    else if letter == byte "t" then tab
    else letter

-- why four bytes aren't hexadecimal digits
unfoldable pub digits_fault : List ℕ → EscapeError
digits_fault digits = if is_utf8 digits then InvalidUnicodeEscape else InvalidUtf8

-- the code unit of UTF-16 that four hexadecimal digits write
unfoldable pub code_unit : List ℕ → Result ℕ EscapeError
code_unit digits =
    if list_all is_ascii_hexdigit digits then Ok (number_from_digits 16 (map digit_value digits))
    else Err (digits_fault digits)

-- the text with these bytes in front of it
abbrev pub with_front : List ℕ → Result (List ℕ) EscapeError → Result (List ℕ) EscapeError
with_front bytes (Ok text) = Ok (bytes ++ text)
with_front bytes (Err fault) = Err fault

abbrev mutual
  -- the text of a raw text, or its first fault from the left
  pub unescape : List ℕ → Result (List ℕ) EscapeError
  unescape [] = Ok []
  unescape (b ∷ rest) = elim (b == escape) [ true ↦ unescape_letter rest | false ↦ with_front (b ∷ []) (unescape rest) ]

  -- the text of a raw text from the byte behind an `escape` on, or its first fault from the left
  pub unescape_letter : List ℕ → Result (List ℕ) EscapeError
  unescape_letter [] = Err UnexpectedEndOfString
  unescape_letter (letter ∷ rest) = elim (letter == letter_u) [
    | true ↦ unescape_digits rest
    | false ↦
        if is_short_escape letter then with_front (short_escape letter ∷ []) (unescape rest)
        else Err (InvalidEscapeCharacter letter)
  ]

  -- the text of a raw text from the digits behind `\u` on, or its first fault from the left
  pub unescape_digits : List ℕ → Result (List ℕ) EscapeError
  unescape_digits (a ∷ b ∷ c ∷ d ∷ rest) = elim (code_unit (a ∷ b ∷ c ∷ d ∷ [])) [
    | Err fault ↦ Err fault
    | Ok unit ↦ elim (is_high_surrogate unit) [
      | true ↦ unescape_low unit rest
      | false ↦
          if is_low_surrogate unit then Err InvalidUnicodeEscape
          else with_front (encode_utf8 unit) (unescape rest)
    ]
  ]
  unescape_digits _ = Err UnexpectedEndOfString

  -- the text of a raw text behind the escape of a high surrogate, or its first fault from the left
  pub unescape_low : ℕ → List ℕ → Result (List ℕ) EscapeError
  unescape_low high (e ∷ u ∷ a ∷ b ∷ c ∷ d ∷ rest) = elim (e == escape && u == letter_u) [
    | false ↦ Err ExpectedSurrogatePair
    | true ↦ elim (code_unit (a ∷ b ∷ c ∷ d ∷ [])) [
      | Err fault ↦ Err fault
      | Ok low ↦
          if is_low_surrogate low
          then with_front (encode_utf8 (surrogate_pair_char high low)) (unescape rest)
          else Err (InvalidSurrogatePair high low)
    ]
  ]
  unescape_low high _ = Err UnexpectedEndOfString

-- whether a raw text holds the byte `escape`, without which it stands for itself
abbrev pub has_escape : List ℕ → Bool
has_escape raw = list_any (λ b. b == escape) raw

-- the text that a raw text stands for, where it has one
abbrev pub unescaped : List ℕ → Option (List ℕ)
unescaped raw = result_ok (unescape raw)
