-- Which bytes are an item that stands for a value.
use Rattle.std.specs.Prelude.{◌≡◌, ℕ, ℤ, List, Some}
use Rattle.cbor_item.specs.Item.{Item}
use Rattle.cbor_item.specs.WellFormed.{IsEncodingOf}
use Rattle.smithy_cbor.specs.Scalar.{integer_of, big_integer_of, decimal_fraction_of, epoch_seconds_of}

-- the integer
abbrev pub SaysInteger : ℤ → List ℕ → Type 0
SaysInteger z bytes = (i : Item) × IsEncodingOf i bytes × (integer_of i ≡ Some z)

-- the whole number
abbrev pub SaysBigInteger : ℤ → List ℕ → Type 0
SaysBigInteger z bytes = (i : Item) × IsEncodingOf i bytes × (big_integer_of i ≡ Some z)

-- the decimal of these parts
abbrev pub SaysDecimal : ℤ → ℤ → List ℕ → Type 0
SaysDecimal exponent mantissa bytes =
    (i : Item) × IsEncodingOf i bytes × (decimal_fraction_of i ≡ Some (exponent, mantissa))

-- the date of so many seconds
abbrev pub SaysSeconds : ℤ → List ℕ → Type 0
SaysSeconds seconds bytes = (i : Item) × IsEncodingOf i bytes × (epoch_seconds_of i ≡ Some seconds)
