-- What a read does to the fields of a type, and the entries of a map by their keys.
use Rattle.std.specs.Prelude.{◌≡◌, ◌<◌, ℕ, ℤ, Bool, List, [], ◌∷◌, map, length, Option, Result, IfOk, OnOk, String, string_bytes}
use Rattle.std.specs.declared.alloc.Global.{Global}
use Rattle.std.specs.declared.vec.Vec.{Vec}
use Rattle.std.specs.BTreeMap.{BTreeMap}
use Rattle.smithy_types.specs.Document.{whole_document}
use Rattle.smithy_types.specs.DocumentView.{document_view}
use Rattle.smithy_types.specs.declared.document.Document.{Document}
use Rattle.smithy_declarations.specs.Value.{Value, scalar_value, document_value, text, bytes, boolean, whole, instant, list, map as map_value, values_of, MapEntries, no_map_entries, map_entry}
use Rattle.smithy_shapes.specs.Site.{Site}
use Rattle.smithy_schema.specs.declared.error.SerdeError.{SerdeError}
use Rattle.smithy_schema.specs.Errors.{IsRefused}
use Rattle.smithy_schema.specs.Reading.{Cursor, Relations, Reads, StandsNot}
use Rattle.smithy_schema.specs.Typed.{FailsAsReader}
use Rattle.smithy_schema.proofs.ReadFields.{set_field}

-- the value of a text, of bytes, of a truth, of a whole number, of an instant
abbrev pub text_value : String Global → Value
text_value s = scalar_value (text (string_bytes s))

abbrev pub bytes_value : List ℕ → Value
bytes_value b = scalar_value (bytes b)

abbrev pub boolean_value : Bool → Value
boolean_value b = scalar_value (boolean b)

abbrev pub whole_value : ℤ → Value
whole_value n = scalar_value (whole n)

abbrev pub instant_value : ℤ → Value
instant_value t = scalar_value (instant t)

-- the value of a document
abbrev pub open_value : Document → Value
open_value d = document_value (whole_document (document_view d))

-- the list of the values of these elements
abbrev pub list_with : {T : Type 0} → (T → Value) → Vec T Global → Value
list_with view items = list (values_of (map view items.items))

-- entries in the order of their keys, each key by its bytes
abbrev pub entries_with : {T : Type 0} → (T → Value) → List (String Global × T) → MapEntries
entries_with view [] = no_map_entries
entries_with view (e ∷ es) = map_entry (string_bytes e.0) (view e.1) (entries_with view es)

-- the map of the values of these entries
abbrev pub map_with : {T : Type 0} → (T → Value) → BTreeMap (String Global) T → Value
map_with view entries = map_value (entries_with view entries.entries)

-- What is at the site was read into the field at the position; and a fault comes only if no value of the place is there.
pub record SetsField (w : Relations) (fields after : List (Option Value)) (position : ℕ) (site : Site) (old new : Cursor) (result : Result (Unit {0}) SerdeError) : Type 0 where
  pub ok : OnOk result ((v : Value) × Reads w old new site.table site.place v × (position < length fields) × (after ≡ set_field fields position v))
  pub refused : IsRefused result → StandsNot w old site.table site.place
  pub fails : FailsAsReader old new result

-- What is at the site was read as the member at the position; and a fault comes only if no value of the place is there.
pub record ReadsOneOf {A : Type 0} (w : Relations) (old new : Cursor) (site : Site) (position : ℕ) (index : A → ℕ) (inner : A → Value) (result : Result A SerdeError) : Type 0 where
  pub ok : IfOk result (λ x. (index x ≡ position) × Reads w old new site.table site.place (inner x))
  pub refused : IsRefused result → StandsNot w old site.table site.place
  pub fails : FailsAsReader old new result
