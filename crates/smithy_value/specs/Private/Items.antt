-- What the read of an item answers: of an element of a list or of the value of a map's entry, which may be a null where these are sparse.
use Rattle.std.specs.Prelude.{◌≡◌, Bool, true, false, Result, Ok, Err, IfOk}
use Rattle.smithy_schema.specs.declared.error.SerdeError.{SerdeError}
use Rattle.smithy_schema.specs.declared.read.ShapeDeserializer as deserializer
use Rattle.smithy_schema.specs.Passing.{ReadsNull}
use Rattle.smithy_schema.specs.Reading.{Cursor, Reader, null_is_due}
use Rattle.smithy_shapes.specs.Site.{Site}
use Rattle.smithy_declarations.specs.Value.{Value, null_element}
use Rattle.smithy_value.specs.ReadValue.{ReadsValue}

-- a null is due, where nulls are allowed
abbrev pub BeginsNull : Reader → Bool → Cursor → Type 0
BeginsNull r sparse c = (sparse ≡ true) × (null_is_due r.wire c ≡ true)

-- no null is due where nulls are allowed
abbrev pub BeginsNone : Reader → Bool → Cursor → Type 0
BeginsNone r sparse c = sparse ≡ true → null_is_due r.wire c ≡ false

-- Ok says whether a null was read; where none was, the reader is where it was.
abbrev pub ReadsAnyNull : Reader → Bool → Cursor → Cursor → Result Bool SerdeError → Type 0
ReadsAnyNull r sparse old new (Ok true) = BeginsNull r sparse old × ReadsNull r old new (Ok tt)
ReadsAnyNull r sparse old new (Ok false) = BeginsNone r sparse old × (new ≡ old)
ReadsAnyNull r sparse old new (Err e) = BeginsNull r sparse old × ReadsNull r old new (Err e)

-- the outcome of a call, without its value
abbrev pub outcome : {A : Type 0} → Result A SerdeError → Result (Unit {0}) SerdeError
outcome (Ok x) = Ok tt
outcome (Err e) = Err e

-- The item is read as a null, or as a value of the place.
pub data IsItem {A : Type 0} (r : Reader) (sparse : Bool) (old new : Cursor) (site : Site) (view : A → Value) (result : Result A SerdeError) : Type 0 where
  as_null : BeginsNull r sparse old → ReadsNull r old new (outcome result) → IfOk result (λ x. view x ≡ null_element) → IsItem r sparse old new site view result
  as_value : BeginsNone r sparse old → ReadsValue r.wire r.lifted r.tells_without_limits r.max_depth old new site view result → IsItem r sparse old new site view result

-- the read of an item by this reader: the store p has become q by it
pub record ReadsItem {D P T : Type 0} (d : deserializer.Ghosts D) (keeps : P → P → Type 0) (stands : P → T → Type 0) (view : P → T → Value) (old new : D) (p q : P) (sparse : Bool) (site : Site) (result : Result T SerdeError) : Type 0 where
  -- the settings stay
  pub same : d.settings new ≡ d.settings old
  pub reads : IsItem (d.reading (d.settings old)) sparse (d.state old) (d.state new) site (view q) result
  -- what was in the store is still there, and the tree is there too
  pub adds : IfOk result (λ x. keeps p q × stands q x)
