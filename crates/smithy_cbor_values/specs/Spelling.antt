-- Which whole inputs spell which values.
use Rattle.std.specs.Prelude.{◌≡◌, ◌⊎◌, ℕ, List, Some}
use Rattle.smithy_declarations.specs.declared.place.Place.{Place}
use Rattle.smithy_declarations.specs.Table.{Table}
use Rattle.smithy_declarations.specs.Value.{Value}
use Rattle.cbor_item.specs.Item.{Item}
use Rattle.cbor_item.specs.WellFormed.{IsEncodingOf}
use Rattle.smithy_cbor_values.specs.Settings.{Settings}
use Rattle.smithy_cbor_values.specs.Meaning.{cbor_meaning}
use Rattle.smithy_wire.specs.Inputs.{IsEmptySpelling}

-- the bytes are an encoding of an item that means the value at the place, or are empty and spell it
abbrev pub cbor_spells : Settings → Table → Place → List ℕ → Value → Type 0
cbor_spells c table place bytes v =
    ((i : Item) × IsEncodingOf i bytes × (cbor_meaning c table place 0 i ≡ Some v))
    ⊎ IsEmptySpelling c.limits c.max_depth table place bytes v
