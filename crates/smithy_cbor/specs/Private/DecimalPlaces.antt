-- The array of a decimal fraction at a place.
use Rattle.std.specs.Prelude.{◌≡◌, ℕ, ℤ, List, Some}
use Rattle.cbor_item.specs.Item.{Item, Extent, array, item, no_items}
use Rattle.cbor_item.specs.WellFormed.{IsItemAt}
use Rattle.smithy_cbor.specs.Scalar.{integer_of, big_integer_of}
use Rattle.smithy_cbor.specs.Reading.{AreParts, IsBreakAt}

-- an exponent, a mantissa and a break stand there in turn
abbrev pub ArePartsUntilBreak : ℤ → ℤ → List ℕ → ℕ → ℕ → Type 0
ArePartsUntilBreak exponent mantissa input at end =
    (stop : ℕ) × AreParts exponent mantissa input at stop × IsBreakAt input stop end

-- an array of exponent and mantissa stands there
abbrev pub IsPairAt : ℤ → ℤ → List ℕ → ℕ → ℕ → Type 0
IsPairAt exponent mantissa input at end =
    (extent : Extent) × (e m : Item) × IsItemAt (array extent (item e (item m no_items))) input at end
    × (integer_of e ≡ Some exponent) × (big_integer_of m ≡ Some mantissa)
