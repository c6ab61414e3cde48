-- The whole number that a number's text writes (RFC 8259, section 6).
use Rattle.std.specs.Prelude.{ℕ, List, [], ◌∷◌, ◌==◌, ◌&&◌, ℤ, pos, neg_ℤ, Option, Some, None, option_map, option_and_then, if◌then◌else◌}
use Rattle.std.specs.Str.{byte, all_ascii_digits}
use Rattle.std.specs.Str.Parse.{digits_value}
use Rattle.smithy_texts.specs.Ranges.{fits_signed}
use Rattle.smithy_texts.specs.Numeral.{begins_with, magnitude, signed}
use Rattle.smithy_texts.specs.Decimal.{coefficient, is_decimal, written_exponent, net_exponent}
use Rattle.smithy_instants.specs.Epoch.{scaled}
use Rattle.smithy_json_grammar.specs.Ascii.{minus_sign, plus_sign}

-- the number of at least one decimal digit
abbrev pub natural_number : List ℕ → Option ℕ
natural_number [] = None
natural_number (d ∷ digits) = if all_ascii_digits (d ∷ digits) then Some (digits_value 10 (d ∷ digits)) else None

-- the number of an optional minus and decimal digits, and none of a text with another byte
abbrev pub whole_number : List ℕ → Option ℤ
whole_number [] = None
whole_number (b ∷ text) =
    if b == minus_sign then option_map (λ n. neg_ℤ (pos n)) (natural_number text)
    else option_map pos (natural_number (b ∷ text))

-- the number of an optional sign and decimal digits, and none of a text with another byte
abbrev pub signed_number : List ℕ → Option ℤ
signed_number [] = None
signed_number (b ∷ text) = if b == plus_sign then option_map pos (natural_number text) else whole_number (b ∷ text)

-- a number of 64 bits
abbrev pub long_number : ℤ → Option ℤ
long_number z = if fits_signed 64 z then Some z else None

-- the whole number of 64 bits that a decimal text is equal to, its digits times ten to the net exponent; none where the exponent
-- that is written isn't a number of 64 bits
abbrev pub integral_number : List ℕ → Option ℤ
integral_number text =
    if is_decimal text && fits_signed 64 (written_exponent text)
    then option_and_then (λ n. long_number (signed (begins_with (byte "-") (coefficient text)) n))
    (scaled (magnitude (coefficient text)) (net_exponent text))
    else None
