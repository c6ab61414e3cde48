-- Maps of texts that are read in one call.
use Rattle.std.specs.Prelude.{◌≡◌, ℕ, List, [], ◌∷◌, false, true, Some, Result, Ok, Err, IfOk, OnErr, String, string_bytes}
use Rattle.std.specs.declared.alloc.Global.{Global}
use Rattle.std.specs.BTreeMap.{BTreeMap}
use Rattle.smithy_schema.specs.declared.error.SerdeError.{SerdeError}
use Rattle.smithy_schema.specs.declared.error.SerdeError.TheVariants.{NoMemory}
use Rattle.smithy_declarations.specs.declared.place.Target.TheVariants.{Simple}
use Rattle.smithy_declarations.specs.declared.shape_type.Scalar.TheVariants as scalars
use Rattle.smithy_declarations.specs.Table.{MapShape, map_of}
use Rattle.smithy_declarations.specs.Value.{Value, scalar_value, text, map, MapEntries, no_map_entries, map_entry, put_entry}
use Rattle.smithy_shapes.specs.Site.{Site, kind_at, inner_site}
use Rattle.smithy_schema.specs.Errors.{IsRefused, IsInvalid}
use Rattle.smithy_schema.specs.Reading.{Cursor, ReadsScalar, Reads, StandsNot, in_map, Reader}
use Rattle.smithy_schema.specs.Consuming.{Consumes, by_key}

-- a map of texts stands there, none of which may be null
pub record IsMapOfTexts (site : Site) : Type 0 where
  pub shape : MapShape
  pub kind : kind_at site ≡ map_of shape
  pub text : shape.place.target ≡ Simple scalars.String
  pub dense : shape.is_sparse ≡ false

-- the value of a text
abbrev pub text_value : String Global → Value
text_value s = scalar_value (text (string_bytes s))

-- the entries of a map by their texts
abbrev pub text_entries : List (String Global × String Global) → MapEntries
text_entries [] = no_map_entries
text_entries (e ∷ es) = map_entry (string_bytes e.0) (text_value e.1) (text_entries es)

-- a text is read at the site of the values, and stands at its key in place of any before
pub data ReadsEntry (r : Reader) (site : Site) (key : List ℕ) : MapEntries → Cursor → Result (Unit {0}) SerdeError → MapEntries → Cursor → Type 0 where
  put : {es : MapEntries} {c d : Cursor} (x : String Global) → ReadsScalar {A = String Global} r c d site scalars.String (λ s. text (string_bytes s)) (Ok x)
      → ReadsEntry r site key es c (Ok tt) (put_entry key (text_value x) es) d
  refused : {es : MapEntries} {c d : Cursor} {e : SerdeError} → ReadsScalar {A = String Global} r c d site scalars.String (λ s. text (string_bytes s)) (Err e) → ReadsEntry r site key es c (Err e) es d
  no_room : {es fs : MapEntries} {c d : Cursor} (x : String Global) → ReadsScalar {A = String Global} r c d site scalars.String (λ s. text (string_bytes s)) (Ok x)
      → ReadsEntry r site key es c (Err NoMemory) fs d

-- the map is entered, its entries are read in turn, and it is left; any error is that of such a call
pub data InTurn (r : Reader) (outer : Site) (c : Cursor) : Result MapEntries SerdeError → Cursor → Type 0 where
  read : {es : MapEntries} {d : Cursor} (inner : Site) → inner_site outer ≡ Some inner → Consumes r outer in_map (by_key r outer) (ReadsEntry r inner) no_map_entries c (Ok tt) es d → InTurn r outer c (Ok es) d
  broke : {es : MapEntries} {d : Cursor} {e : SerdeError} (inner : Site) → inner_site outer ≡ Some inner → Consumes r outer in_map (by_key r outer) (ReadsEntry r inner) no_map_entries c (Err e) es d → InTurn r outer c (Err e) d

-- what a read of such a map says of its answer
pub record ReadsTexts (r : Reader) (outer : Site) (old : Cursor) (result : Result MapEntries SerdeError) (new : Cursor) : Type 0 where
  pub turns : InTurn r outer old result new
  pub fails : OnErr result (new.failed ≡ true)
  -- Where the place is that of such a map, its value was read; and a fault comes only where none stands there.
  pub ok : IsMapOfTexts outer → IfOk result (λ es. Reads r.wire old new outer.table outer.place (map es))
  pub refused : IsMapOfTexts outer → IsRefused result → old.due ≡ true → StandsNot r.wire old outer.table outer.place
  pub none_without_limits : IsMapOfTexts outer → r.tells_without_limits → IsInvalid result → old.due ≡ true → StandsNot r.lifted old outer.table outer.place

-- an answer by the entries of its map
abbrev pub entries_of : Result (BTreeMap (String Global) (String Global)) SerdeError → Result MapEntries SerdeError
entries_of (Ok m) = Ok (text_entries m.entries)
entries_of (Err e) = Err e
