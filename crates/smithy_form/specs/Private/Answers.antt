-- What a call answers that reads the leaves of a place.
use Rattle.std.specs.Prelude.{◌≡◌, ◌≢◌, ℕ, List, [], ◌∷◌, Bool, true, false, Option, Some, None, String, Result, Ok, Err}
use Rattle.std.specs.BTreeMap.{BTreeMap}
use Rattle.std.specs.declared.vec.Vec.{Vec}
use Rattle.std.specs.declared.alloc.Global.{Global}
use Rattle.smithy_declarations.specs.Value.{Values, values_of, MapEntries}
use Rattle.smithy_shapes.specs.Site.{Site}
use Rattle.smithy_query_codec.specs.Leaves.{Leaf, leaf, MemberRole, neither}
use Rattle.smithy_declarations.specs.declared.shape_type.ShapeType.{ShapeType}
use Rattle.smithy_declarations.specs.declared.shape_type.ShapeType.TheVariants as types
use Rattle.smithy_form.specs.declared.error.FormError.{FormError}
use Rattle.smithy_form.specs.declared.error.FormError.TheVariants.{NoValue, NoMemory}
use Rattle.smithy_form.specs.Lookup.{AreSame}
use Rattle.smithy_form.specs.Private.Reading.{TellHere, TellNothing, AreElements, AreEntries}
use Rattle.smithy_value.specs.declared.value.Value as kept
use Rattle.smithy_value.specs.View.{view, view_elements, view_entries}

abbrev pub ReadsHere : Site → ℕ → List Leaf → Result kept.Value FormError → Type 0
ReadsHere site left ls (Ok v) = TellHere site left ls (view v)
ReadsHere site left ls (Err NoValue) = TellNothing site left ls
ReadsHere site left ls (Err NoMemory) = Unit {0}
ReadsHere site left ls (Err _) = ⊥

-- the elements that these leaves are, or that they are those of none
abbrev pub ReadsElements : Site → ℕ → List Leaf → Result (Vec kept.Value Global) FormError → Type 0
ReadsElements site left ls (Ok vs) = AreElements site left ls (values_of (view_elements vs.items))
ReadsElements site left ls (Err NoValue) = (ws : Values) → AreElements site left ls ws → ⊥
ReadsElements site left ls (Err NoMemory) = Unit {0}
ReadsElements site left ls (Err _) = ⊥

-- the entries that these leaves are, or that they are those of none
abbrev pub ReadsEntries : List ℕ → List ℕ → Site → ℕ → List Leaf → Result (BTreeMap (String Global) kept.Value) FormError → Type 0
ReadsEntries keys vals site left ls (Ok es) = AreEntries keys vals site left ls (view_entries es.entries)
ReadsEntries keys vals site left ls (Err NoValue) = (ws : MapEntries) → AreEntries keys vals site left ls ws → ⊥
ReadsEntries keys vals site left ls (Err NoMemory) = Unit {0}
ReadsEntries keys vals site left ls (Err _) = ⊥

-- the type is that of values without parts, or of documents
abbrev pub HasNoParts : Option ShapeType → Type 0
HasNoParts (Some types.Structure) = ⊥
HasNoParts (Some types.Union) = ⊥
HasNoParts (Some types.List) = ⊥
HasNoParts (Some types.Map) = ⊥
HasNoParts (Some _) = Unit {0}
HasNoParts None = ⊥

-- the leaves are those of a member's list without elements, or they aren't
abbrev pub IsEmptyList : MemberRole → List Leaf → Bool → Type 0
IsEmptyList role ls true = (role ≢ neither) × (ls ≡ leaf [] ∷ [])
IsEmptyList role ls false = role ≢ neither → AreSame ls (leaf [] ∷ []) → ⊥
