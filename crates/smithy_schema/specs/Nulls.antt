-- The null of a member: whether a reader gives it to its caller, or drops it as if it weren't there.
use Rattle.std.specs.Prelude.{◌≡◌, ℕ, List, Some, Bool, false, if◌then◌else◌}
use Rattle.smithy_declarations.specs.declared.place.Place.{Place}
use Rattle.smithy_declarations.specs.Table.{Table, kind_of, place_in, HasMembers, IsDocument}
use Rattle.smithy_schema.specs.Reading.{Relations, Mark}

-- No step of a structure or a union goes to a null, but to that of a member which is a document.
abbrev pub DropsNulls : Relations → Type 0
DropsNulls w =
    (i : List ℕ) (t : Table) (p : Place) (d b : ℕ) (m : Mark) (key : List ℕ) (c : ℕ) (n : Mark) (e : ℕ) → HasMembers (kind_of t p)
    → w.steps i t p d b m (Some key) c n → w.nulls i d c e
    → (q : Place) × (place_in (kind_of t p) (w.position t p key) ≡ Some q) × IsDocument (kind_of t q)

-- The settings under which a consumer is called: as they are where it takes nulls, and otherwise with nulls dropped.
abbrev pub settings_for : {S : Type 0} → (Bool → S → S) → Bool → S → S
settings_for with_nulls takes_nulls c = if takes_nulls then c else with_nulls false c

-- who takes no nulls is called only where they are dropped
abbrev pub GetsNoNull : Bool → Bool → Type 0
GetsNoNull takes_nulls dispatches_nulls = takes_nulls ≡ false → dispatches_nulls ≡ false
