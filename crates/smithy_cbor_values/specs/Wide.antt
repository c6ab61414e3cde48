-- Which bytes hold an item that is a big number beyond the limits of its kind.
use Rattle.std.specs.Prelude.{◌≡◌, ℕ, List, None}
use Rattle.smithy_declarations.specs.declared.shape_type.Scalar.{Scalar}
use Rattle.cbor_item.specs.Item.{Item}
use Rattle.cbor_item.specs.WellFormed.{IsEncodingOf}
use Rattle.smithy_cbor_values.specs.Scalar.{says}
use Rattle.smithy_wire.specs.Inputs.{HasSlice}
use Rattle.smithy_wire.specs.Rules.{wide}

-- some slice of the bytes encodes an item that is, as the kind, a big number beyond the kind's limits
abbrev pub IsWideCbor : Scalar → List ℕ → Type 0
IsWideCbor s bytes = HasSlice (λ slice. (found : Item) × IsEncodingOf found slice × (says s None found ≡ wide)) bytes
