-- Which bytes hold a date that isn't carried as an instant.
use Rattle.std.specs.Prelude.{ℕ, List}
use Rattle.cbor_item.specs.Item.{tag, float}
use Rattle.cbor_item.specs.WellFormed.{IsEncodingOf}
use Rattle.smithy_wire.specs.Inputs.{HasSlice}

-- some slice of the bytes is one: a float under the tag of a date
abbrev pub IsUncarriedCbor : List ℕ → Type 0
IsUncarriedCbor bytes = HasSlice (λ slice. (digits : List ℕ) × IsEncodingOf (tag 1 (float digits)) slice) bytes
