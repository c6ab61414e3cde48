-- The size of a container by its head (RFC 8949, section 3.1).
use Rattle.std.specs.Prelude.{◌≡◌, ◌⊎◌, ◌-◌, ◌/◌, ℕ, length, min, Some, None}
use Rattle.smithy_schema.specs.Sizes.{Sizes, greatest_room}
use Rattle.smithy_cbor.specs.Reading.{OpensAt}

-- A head declares n entries, and so many bytes are left behind it, of which each entry takes so many at least: no more entries
-- than they can be, and no more than room is made for.
abbrev pub size_within : ℕ → ℕ → ℕ → ℕ
size_within n left each = min (min n (left / each)) greatest_room

-- the array or map whose head begins at a has this size; an element takes a byte at least, and a pair two
abbrev pub IsArraySize : Sizes
IsArraySize input a None = (n b : ℕ) → OpensAt 4 (Some n) input a b → ⊥
IsArraySize input a (Some size) = (n b : ℕ) × OpensAt 4 (Some n) input a b × (size ≡ size_within n (length input - b) 1)

abbrev pub IsMapSize : Sizes
IsMapSize input a None = (n b : ℕ) → OpensAt 5 (Some n) input a b → ⊥
IsMapSize input a (Some size) = (n b : ℕ) × OpensAt 5 (Some n) input a b × (size ≡ size_within n (length input - b) 2)

-- that of an array or a map of definite length, and of nothing else
abbrev pub cbor_sizes : Sizes
cbor_sizes input a None = IsArraySize input a None × IsMapSize input a None
cbor_sizes input a (Some size) = IsArraySize input a (Some size) ⊎ IsMapSize input a (Some size)
