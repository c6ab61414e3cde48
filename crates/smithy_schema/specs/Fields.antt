-- A structure that a type of the caller's keeps as fields, by the positions of its members.
use Rattle.std.specs.Prelude.{◌≡◌, ℕ, suc, List, [], ◌∷◌, map, true, Option, Some, None, Result, Ok, Err}
use Rattle.smithy_schema.specs.declared.error.SerdeError.{SerdeError}
use Rattle.smithy_declarations.specs.declared.shape_type.Scalar.{Scalar}
use Rattle.smithy_declarations.specs.Table.{IsDocument}
use Rattle.smithy_declarations.specs.Value.{ScalarValue, Value, MemberValues, no_member_values, member_value, put_member, structure}
use Rattle.smithy_shapes.specs.Site.{Site, kind_at, member_of}
use Rattle.smithy_schema.specs.Errors.{IsFault}
use Rattle.smithy_schema.specs.Passing.{ReadsNull}
use Rattle.smithy_schema.specs.Reading.{Cursor, Reads, ReadsScalar, StandsNot, Reader, null_is_due}
use Rattle.smithy_schema.specs.Writing.{Event, events}
use Rattle.smithy_schema.specs.Typed.{MayAnswer}

-- the members that are there, by their positions from n on
abbrev pub members_at : ℕ → List (Option Value) → MemberValues
members_at n [] = no_member_values
members_at n (None ∷ fields) = members_at (suc n) fields
members_at n (Some v ∷ fields) = member_value n v (members_at (suc n) fields)

-- the structure of these fields
abbrev pub structure_with : List (Option Value) → Value
structure_with fields = structure (members_at 0 fields)

-- What a call of a consumer does that keeps fields: it reads a value of the member's place and sets the field at the member's position.
-- A null that is due is read and no field changes, unless the member is a document. An entry that names no member is left unread. And a
-- fault comes only where no value of the member's place stands.
pub data TakesField {C : Type 0} (fields : C → List (Option Value)) (r : Reader) : Option Site → C → Cursor → Result (Unit {0}) SerdeError → C → Cursor → Type 0 where
  took : {site : Site} {s t : C} {c f : Cursor} (n : ℕ) (v : Value) → site.view.index ≡ Some n → Reads r.wire c f site.table site.place v
      → members_at 0 (fields t) ≡ put_member n v (members_at 0 (fields s)) → TakesField fields r (Some site) s c (Ok tt) t f
  null_passed : {site : Site} {s : C} {c f : Cursor} {result : Result (Unit {0}) SerdeError} → (IsDocument (kind_at site) → ⊥) → null_is_due r.wire c ≡ true → ReadsNull r c f result
      → TakesField fields r (Some site) s c result s f
  passed : {s : C} {c : Cursor} → TakesField fields r None s c (Ok tt) s c
  broke : {site : Site} {s t : C} {c f : Cursor} {e : SerdeError} → MayAnswer c e → (IsFault e → c.due ≡ true → StandsNot r.wire c site.table site.place) → TakesField fields r (Some site) s c (Err e) t f

-- a scalar is read into a field, and a null leaves the field as it was
pub data FillsField {A : Type 0} (kind : Scalar) (scalar : A → ScalarValue) (r : Reader) (site : Site) : Option A → Cursor → Result (Unit {0}) SerdeError → Option A → Cursor → Type 0 where
  filled : {old : Option A} {c d : Cursor} (x : A) → ReadsScalar {A = A} r c d site kind scalar (Ok x) → FillsField kind scalar r site old c (Ok tt) (Some x) d
  absent : {old : Option A} {c d : Cursor} {result : Result (Unit {0}) SerdeError} → null_is_due r.wire c ≡ true → ReadsNull r c d result → FillsField kind scalar r site old c result old d
  refused : {old : Option A} {c d : Cursor} {e : SerdeError} → ReadsScalar {A = A} r c d site kind scalar (Err e) → FillsField kind scalar r site old c (Err e) old d

-- the calls that write the member at a position, where it is there
abbrev pub field_events : Site → ℕ → Option Value → List Event
field_events outer n None = []
field_events outer n (Some v) = events (member_of outer n) v

-- the structures of a list, each by its fields
abbrev pub structures_with : {T : Type 0} → (T → List (Option Value)) → List T → List Value
structures_with fields ts = map (λ t. structure_with (fields t)) ts
