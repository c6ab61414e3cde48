-- What an input is or has, whichever wire it is of.
use Rattle.std.specs.Prelude.{◌≡◌, ◌++◌, ℕ, List, [], true}
use Rattle.smithy_declarations.specs.declared.place.Place.{Place}
use Rattle.smithy_declarations.specs.Table.{Table, kind_of, IsStructure}
use Rattle.smithy_declarations.specs.Value.{Value, structure, no_member_values}
use Rattle.smithy_shapes.specs.Limits.{Limits, is_within}

-- an empty input spells the structure without members, where one may stand, and where one container is within the limits
abbrev pub IsEmptySpelling : Limits → ℕ → Table → Place → List ℕ → Value → Type 0
IsEmptySpelling limits max_depth table place bytes v =
    (bytes ≡ []) × IsStructure (kind_of table place) × (is_within limits max_depth 1 ≡ true) × (v ≡ structure no_member_values)

-- P holds of some slice of the bytes
abbrev pub HasSlice : (List ℕ → Type 0) → List ℕ → Type 0
HasSlice P bytes = (before slice behind : List ℕ) × (bytes ≡ before ++ (slice ++ behind)) × P slice
