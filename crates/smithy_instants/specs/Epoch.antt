-- Instants as texts of seconds from 1970-01-01T00:00:00Z on.
use Rattle.std.specs.Prelude.{ℕ, suc, ◌*◌, ◌/◌, ◌%◌, ◌^◌, ◌==◌, Bool, ◌&&◌, if◌then◌else◌, List, ℤ, pos, negsuc, ◌+ℤ◌, Option, Some, None, option_map}
use Rattle.std.specs.Str.{byte}
use Rattle.smithy_texts.specs.Ranges.{fits_signed}
use Rattle.smithy_texts.specs.Numeral.{begins_with, magnitude, signed}
use Rattle.smithy_texts.specs.Decimal.{coefficient, is_decimal, written_exponent, net_exponent}

-- n times ten to the power e, where that is a whole number
abbrev pub scaled : ℕ → ℤ → Option ℕ
scaled n (pos e) = Some (n * 10 ^ e)
scaled n (negsuc e) = if n % 10 ^ suc e == 0 then Some (n / 10 ^ suc e) else None

-- a decimal number whose written exponent is a 64-bit number
abbrev pub is_epoch : List ℕ → Bool
is_epoch text = is_decimal text && fits_signed 64 (written_exponent text)

-- the nanoseconds of a decimal text in seconds, where these are whole; a grammar that has fewer
-- decimals, as that of JSON, is asked for beside it
abbrev pub epoch_nanos : List ℕ → Option ℤ
epoch_nanos text =
    if is_epoch text
    then option_map (signed (begins_with (byte "-") (coefficient text)))
    (scaled (magnitude (coefficient text)) (net_exponent text +ℤ pos 9))
    else None
