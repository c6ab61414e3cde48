-- What a number is as a big number, whichever wire carries it, and the limits of the two kinds.
use Rattle.std.specs.Prelude.{ℤ, Bool, ◌&&◌, Option}
use Rattle.smithy_texts.specs.Decimal.{DecimalForm}
use Rattle.smithy_texts.specs.Ranges.{fits_signed, is_exponent}
use Rattle.smithy_declarations.specs.Value.{whole, decimal, Value, scalar_value}
use Rattle.smithy_wire.specs.Rules.{Answer, bounded}

-- a big integer has 128 bits
abbrev pub big_integer : Option ℤ → Answer Value
big_integer n = bounded (fits_signed 128) (λ n. scalar_value (whole n)) n

-- the mantissa of a big decimal has 128 bits, and its exponents lie from -(2^63-1) to 2^63-1
abbrev pub is_in_limits : DecimalForm → Bool
is_in_limits f = fits_signed 128 f.mantissa_part && (is_exponent f.written_part && is_exponent f.net_part)

-- mantissa and net exponent
abbrev pub big_decimal : Option DecimalForm → Answer Value
big_decimal f = bounded is_in_limits (λ (f : DecimalForm). scalar_value (decimal f.mantissa_part f.net_part)) f
