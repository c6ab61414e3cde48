-- Lists of scalars that are read and written in one call.
use Rattle.std.specs.Prelude.{◌≡◌, ◌+◌, ◌≤◌, length, List, [], ◌∷◌, ◌++◌, map, false, true, Some, Result, Ok, Err, IfOk, OnErr}
use Rattle.std.specs.declared.vec.Vec.{Vec}
use Rattle.std.specs.declared.alloc.Global.{Global}
use Rattle.smithy_schema.specs.declared.error.SerdeError.{SerdeError}
use Rattle.smithy_schema.specs.declared.error.SerdeError.TheVariants.{NoMemory}
use Rattle.smithy_declarations.specs.declared.place.Target.TheVariants.{Simple}
use Rattle.smithy_declarations.specs.declared.shape_type.Scalar.{Scalar}
use Rattle.smithy_declarations.specs.Table.{ListShape, list_of}
use Rattle.smithy_declarations.specs.Value.{ScalarValue, Value, scalar_value, list, values_of}
use Rattle.smithy_shapes.specs.Site.{Site, kind_at, inner_site}
use Rattle.smithy_schema.specs.Errors.{IsRefused, IsInvalid}
use Rattle.smithy_schema.specs.Reading.{Cursor, ReadsScalar, Reads, StandsNot, in_list, failed_at, Reader}
use Rattle.smithy_schema.specs.Consuming.{Consumes, by_element}

-- a list of such scalars stands there, none of which may be null
pub record IsListOf (s : Scalar) (site : Site) : Type 0 where
  pub shape : ListShape
  pub kind : kind_at site ≡ list_of shape
  pub element : shape.place.target ≡ Simple s
  pub dense : shape.is_sparse ≡ false

-- Of a kind of scalars, and of what a call reads for the value of one:
module _ {A : Type 0} (s : Scalar) (scalar : A → ScalarValue) where
  -- the value of a list
  abbrev pub list_read : List A → Value
  list_read xs = list (values_of (map (λ x. scalar_value (scalar x)) xs))

  -- an element is read at its site, and comes behind those so far
  pub data ReadsElement (r : Reader) (site : Site) : List A → Cursor → Result (Unit {0}) SerdeError → List A → Cursor → Type 0 where
    put : {xs : List A} {c d : Cursor} (x : A) → ReadsScalar {A = A} r c d site s scalar (Ok x) → ReadsElement r site xs c (Ok tt) (xs ++ x ∷ []) d
    refused : {xs : List A} {c d : Cursor} {e : SerdeError} → ReadsScalar {A = A} r c d site s scalar (Err e) → ReadsElement r site xs c (Err e) xs d
    no_room : {xs : List A} {c d : Cursor} (x : A) → ReadsScalar {A = A} r c d site s scalar (Ok x) → ReadsElement r site xs c (Err NoMemory) xs d

  -- The list is entered, its elements are read in turn, and it is left; any error is that of such a call, or want of memory.
  pub data InTurn (r : Reader) (outer : Site) (c : Cursor) : Result (List A) SerdeError → Cursor → Type 0 where
    no_memory : c.failed ≡ false → c.due ≡ true → InTurn r outer c (Err NoMemory) (failed_at c)
    read : {xs : List A} {d : Cursor} (inner : Site) → inner_site outer ≡ Some inner → Consumes r outer in_list (by_element r outer) (λ element. ReadsElement r inner) [] c (Ok tt) xs d → InTurn r outer c (Ok xs) d
    broke : {xs : List A} {d : Cursor} {e : SerdeError} (inner : Site) → inner_site outer ≡ Some inner → Consumes r outer in_list (by_element r outer) (λ element. ReadsElement r inner) [] c (Err e) xs d → InTurn r outer c (Err e) d

  -- what a read of such a list says of its answer
  pub record ReadsList (r : Reader) (outer : Site) (old : Cursor) (result : Result (List A) SerdeError) (new : Cursor) : Type 0 where
    pub turns : InTurn r outer old result new
    pub fails : OnErr result (new.failed ≡ true)
    -- an element takes a byte at least
    pub few : IfOk result (λ xs. old.at + length xs ≤ new.at)
    -- Where the place is that of such a list, its value was read; and a fault comes only where none stands there.
    pub ok : IsListOf s outer → IfOk result (λ xs. Reads r.wire old new outer.table outer.place (list_read xs))
    pub refused : IsListOf s outer → IsRefused result → old.due ≡ true → StandsNot r.wire old outer.table outer.place
    pub none_without_limits : IsListOf s outer → r.tells_without_limits → IsInvalid result → old.due ≡ true → StandsNot r.lifted old outer.table outer.place

-- an answer by the items of its vector
abbrev pub items_of : {A : Type 0} → Result (Vec A Global) SerdeError → Result (List A) SerdeError
items_of (Ok v) = Ok v.items
items_of (Err e) = Err e
