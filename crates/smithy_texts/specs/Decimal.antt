-- Texts of whole and of decimal numbers: digits, a point among them, and a power of ten.
use Rattle.std.specs.Prelude.{ℕ, ◌==◌, Bool, true, ◌&&◌, ◌||◌, if◌then◌else◌, List, [], ◌∷◌, ◌++◌, length, drop, ℤ, pos, negsuc, ◌-ℤ◌, Option, Some, None}
use Rattle.std.specs.List.{before_first, after_first, position_or_len}
use Rattle.std.specs.Str.{byte}
use Rattle.std.specs.Fmt.{signed_decimal}
use Rattle.smithy_texts.specs.Ranges.{fits_signed, is_exponent}
use Rattle.smithy_texts.specs.Numeral.{are_digits, without_minus, without_sign, number}

-- the number of an optional `-` and at least one digit, of any size
abbrev pub integer_form : List ℕ → Option ℤ
integer_form text = if are_digits (without_minus text) then Some (number text) else None

-- `.`
abbrev pub is_point : ℕ → Bool
is_point c = c == byte "."

-- `e` or `E`
abbrev pub is_exponent_mark : ℕ → Bool
is_exponent_mark c = c == byte "e" || c == byte "E"

-- digits with at most one point among them, and at least one digit
abbrev pub are_digits_with_point : List ℕ → Bool
are_digits_with_point text = are_digits (before_first is_point text ++ after_first is_point text)

-- nothing, or a mark, an optional sign and at least one digit
abbrev pub is_exponent_part : List ℕ → Bool
is_exponent_part [] = true
is_exponent_part (mark ∷ exponent) = are_digits (without_sign exponent)

-- what stands before the mark of the exponent
abbrev pub coefficient : List ℕ → List ℕ
coefficient text = before_first is_exponent_mark text

-- an optional sign, digits with at most one point among them, and an optional exponent
abbrev pub is_decimal : List ℕ → Bool
is_decimal text =
    are_digits_with_point (without_sign (coefficient text))
    && is_exponent_part (drop (position_or_len is_exponent_mark text) text)

-- the number after the exponent's mark, and 0 where no mark stands
abbrev pub written_exponent : List ℕ → ℤ
written_exponent text = number (after_first is_exponent_mark text)

-- the written exponent less the number of digits after the point
abbrev pub net_exponent : List ℕ → ℤ
net_exponent text = written_exponent text -ℤ pos (length (after_first is_point (coefficient text)))

-- the signed number of all digits before the mark
abbrev pub mantissa : List ℕ → ℤ
mantissa text = number (coefficient text)

-- a number: its mantissa times ten to the net exponent
pub record DecimalForm : Type 0 where
  pub mantissa_part : ℤ
  pub written_part : ℤ
  pub net_part : ℤ

-- the parts of a decimal text, of any size
abbrev pub decimal_form : List ℕ → Option DecimalForm
decimal_form text = if is_decimal text then Some (record {
  mantissa_part = mantissa text;
  written_part = written_exponent text;
  net_part = net_exponent text;
}) else None

-- both exponents of a decimal text, as it is written and less the digits after the point, are within their limits
abbrev pub exponents_fit : List ℕ → Bool
exponents_fit text = is_exponent (written_exponent text) && is_exponent (net_exponent text)

-- mantissa and net exponent of a decimal text within the limits
abbrev pub decimal_of : List ℕ → Option (ℤ × ℤ)
decimal_of text =
    if is_decimal text && exponents_fit text && fits_signed 128 (mantissa text)
    then Some (mantissa text, net_exponent text) else None

-- nothing for 0, else `e` and the exponent
abbrev pub exponent_text : ℤ → List ℕ
exponent_text (pos n) = if n == 0 then [] else byte "e" ∷ signed_decimal (pos n)
exponent_text (negsuc n) = byte "e" ∷ signed_decimal (negsuc n)

-- the mantissa, then `e` and the exponent where it isn't zero; of a mantissa below 10 ^ 64, since
-- `signed_decimal` writes so many digits at most
abbrev pub decimal_text : ℤ → ℤ → List ℕ
decimal_text m e = signed_decimal m ++ exponent_text e
