-- How a text is written between quotation marks (RFC 8259, section 7).
use Rattle.std.specs.Prelude.{ℕ, List, [], ◌∷◌, ◌++◌, nat_lt, ◌==◌, ◌||◌, if◌then◌else◌, codes}
use Rattle.std.specs.List.{flat_map}
use Rattle.std.specs.Str.{byte}
use Rattle.std.specs.Char.Escape.{hex_digit_at}
use Rattle.smithy_json_grammar.specs.Ascii.{quotation_mark, escape, backspace, tab, line_feed, form_feed, carriage_return, space}

-- `\u` and four lower-case hexadecimal digits, the first two of them 0
abbrev pub hex_escape : ℕ → List ℕ
hex_escape b = codes "\\u00" ++ hex_digit_at 0x10 b ∷ hex_digit_at 1 b ∷ []

-- One byte of a text, as it is written. The solidus is written as it is.
abbrev pub escaped_byte : ℕ → List ℕ
escaped_byte b =
    if b == quotation_mark || b == escape then escape ∷ b ∷ []
    else if b == backspace then escape ∷ byte "b" ∷ []
    else if b == form_feed then escape ∷ byte "f" ∷ []
    else if b == line_feed then escape ∷ byte "n" ∷ []
    else if b == carriage_return then escape ∷ byte "r" ∷ []
    else if b == tab then escape ∷ byte "t" ∷ []
    else if nat_lt b space then hex_escape b else b ∷ []

-- a text with its escapes
abbrev pub escaped : List ℕ → List ℕ
escaped text = flat_map escaped_byte text

-- a text as a string: between quotation marks
abbrev pub quoted : List ℕ → List ℕ
quoted text = quotation_mark ∷ (escaped text ++ quotation_mark ∷ [])
