-- Tables of shapes as plain data, and what stands at a place of one.
use Rattle.std.specs.Prelude.{◌≡◌, ◌≢◌, ℕ, zero, suc, List, [], Bool, true, false, Option, Some, None, option_map, option_and_then, slice_get, unwrap_or, codes, bytes_eq, position as first_position}
use Rattle.std.specs.Option.{option_map_or}
use Rattle.smithy_declarations.specs.declared.place.Place.{Place}
use Rattle.smithy_declarations.specs.declared.place.Target.{Target}
use Rattle.smithy_declarations.specs.declared.place.Target.TheVariants.{Simple, Document, Declared}
use Rattle.smithy_declarations.specs.declared.shape_type.Scalar.{Scalar}
use Rattle.smithy_declarations.specs.declared.shape_type.Scalar.TheVariants as scalars
use Rattle.smithy_declarations.specs.declared.shape_type.ShapeType.{ShapeType}
use Rattle.smithy_declarations.specs.declared.shape_type.ShapeType.TheVariants as types
use Rattle.smithy_declarations.specs.declared.shape_type.TimestampFormat.{TimestampFormat}

-- a member of a structure or a union; the two names are there where they are given
pub record Member : Type 0 where
  pub name : List ℕ
  pub json_name : Option (List ℕ)
  pub xml_name : Option (List ℕ)
  pub is_flat : Bool
  pub place : Place

-- the elements of a list, and the name that they have in a form, where one is given
pub record ListShape : Type 0 where
  pub place : Place
  pub is_sparse : Bool
  pub xml_name : Option (List ℕ)

-- the values of a map, and the names that its keys and values have in a form, where they are given
pub record MapShape : Type 0 where
  pub place : Place
  pub is_sparse : Bool
  pub key_name : Option (List ℕ)
  pub value_name : Option (List ℕ)

-- what a declaration declares
pub data Shape : Type 0 where
  structure union : List Member → Shape
  list : ListShape → Shape
  map : MapShape → Shape

-- a shape under its name
pub record Declaration : Type 0 where
  pub name : List ℕ
  pub shape : Shape

-- declarations by number, from 0; they may refer to one another in cycles
abbrev pub Table : Type 0
Table = List Declaration

-- the name of a member in JSON under `json-name`: the one that is given, else the member's own
abbrev pub json_name_of : Member → List ℕ
json_name_of m = unwrap_or m.json_name m.name

-- the name of a member in a form
abbrev pub query_name_of : Member → List ℕ
query_name_of m = unwrap_or m.xml_name m.name

-- the name of a list's elements in a form
abbrev pub element_name_of : ListShape → List ℕ
element_name_of l = unwrap_or l.xml_name (codes "member")

-- the name of a map's keys in a form
abbrev pub key_name_of : MapShape → List ℕ
key_name_of m = unwrap_or m.key_name (codes "key")

-- the name of a map's values in a form
abbrev pub value_name_of : MapShape → List ℕ
value_name_of m = unwrap_or m.value_name (codes "value")

-- the number of the first declaration of this name
abbrev pub declared_as : Table → List ℕ → Option ℕ
declared_as table name = first_position (λ (d : Declaration). bytes_eq d.name name) table

-- what stands at a place
pub data Kind : Type 0 where
  scalar : Scalar → Kind
  -- open content, which no shape describes
  document : Kind
  structure_of union_of : List Member → Kind
  list_of : ListShape → Kind
  map_of : MapShape → Kind
  nothing : Kind

-- what stands where a shape is the target
abbrev pub kind_of_shape : Shape → Kind
kind_of_shape (structure members) = structure_of members
kind_of_shape (union members) = union_of members
kind_of_shape (list l) = list_of l
kind_of_shape (map m) = map_of m

-- the shape of the declaration of that number
abbrev pub shape_declared : Table → ℕ → Option Shape
shape_declared table n = option_map (λ (d : Declaration). d.shape) (slice_get table n)

-- what stands where this is the target: nothing where no declaration has the number
abbrev pub kind_of_target : Table → Target → Kind
kind_of_target table (Simple s) = scalar s
kind_of_target table Document = document
kind_of_target table (Declared r) = option_map_or kind_of_shape (shape_declared table r.0) nothing

-- what stands at a place of the table
abbrev pub kind_of : Table → Place → Kind
kind_of table place = kind_of_target table place.target

-- the place of a scalar with a time form, or with none
abbrev pub scalar_place : Scalar → Option TimestampFormat → Place
scalar_place s time = record { target = Simple s; time = time }

-- the place of a document with a time form, which is nothing to it, or with none
abbrev pub document_place : Option TimestampFormat → Place
document_place time = record { target = Document; time = time }

-- the place of a declaration as a whole
abbrev pub shape_place : ℕ → Place
shape_place n = record { target = Declared (record { 0 = n }); time = None }

-- the type of a scalar
abbrev pub scalar_type : Scalar → ShapeType
scalar_type scalars.Boolean = types.Boolean
scalar_type scalars.Byte = types.Byte
scalar_type scalars.Short = types.Short
scalar_type scalars.Integer = types.Integer
scalar_type scalars.Long = types.Long
scalar_type scalars.String = types.String
scalar_type scalars.Blob = types.Blob
scalar_type scalars.Timestamp = types.Timestamp
scalar_type scalars.BigInteger = types.BigInteger
scalar_type scalars.BigDecimal = types.BigDecimal

-- the kind without what is in it; a place of no declaration has none
abbrev pub type_of : Kind → Option ShapeType
type_of (scalar s) = Some (scalar_type s)
type_of document = Some types.Document
type_of (structure_of members) = Some types.Structure
type_of (union_of members) = Some types.Union
type_of (list_of l) = Some types.List
type_of (map_of m) = Some types.Map
type_of nothing = None

-- the members of a structure or a union
abbrev pub members_of : Kind → List Member
members_of (structure_of members) = members
members_of (union_of members) = members
members_of _ = []

-- the list at a place of one
abbrev pub list_shape_of : Kind → Option ListShape
list_shape_of (list_of l) = Some l
list_shape_of _ = None

-- the map at a place of one
abbrev pub map_shape_of : Kind → Option MapShape
map_shape_of (map_of m) = Some m
map_shape_of _ = None

-- the place of a member by its position
abbrev pub member_place : List Member → Option ℕ → Option Place
member_place members position = option_map (λ (m : Member). m.place) (option_and_then (slice_get members) position)

-- the place of a child: of a member by its position, of an element or a map's value without one
abbrev pub place_in : Kind → Option ℕ → Option Place
place_in (structure_of members) n = member_place members n
place_in (union_of members) n = member_place members n
place_in (list_of l) n = Some l.place
place_in (map_of m) n = Some m.place
place_in _ n = None

-- a document stands there
abbrev pub IsDocument : Kind → Type 0
IsDocument document = Unit {0}
IsDocument _ = ⊥

-- one thing where a document stands, and another elsewhere
abbrev pub where_document : {A : Type 0} → Kind → A → A → A
where_document document here elsewhere = here
where_document _ here elsewhere = elsewhere

-- a document is due at the place, whichever table it is of
abbrev pub is_document_target : Target → Bool
is_document_target Document = true
is_document_target _ = false

abbrev pub is_document_place : Place → Bool
is_document_place place = is_document_target place.target

-- a structure stands there
abbrev pub IsStructure : Kind → Type 0
IsStructure (structure_of members) = Unit {0}
IsStructure _ = ⊥

-- a union stands there
abbrev pub IsUnion : Kind → Type 0
IsUnion (union_of members) = Unit {0}
IsUnion _ = ⊥

-- a structure or a union stands there
abbrev pub HasMembers : Kind → Type 0
HasMembers (structure_of members) = Unit {0}
HasMembers (union_of members) = Unit {0}
HasMembers _ = ⊥

-- whether the kind is that of a structure or a union
abbrev pub has_members : Kind → Bool
has_members (structure_of members) = true
has_members (union_of members) = true
has_members _ = false

-- a list stands there
abbrev pub IsList : Kind → Type 0
IsList (list_of l) = Unit {0}
IsList _ = ⊥

-- a map stands there
abbrev pub IsMap : Kind → Type 0
IsMap (map_of m) = Unit {0}
IsMap _ = ⊥

-- a structure, a union, a list or a map stands there
abbrev pub IsContainer : Kind → Type 0
IsContainer (structure_of members) = Unit {0}
IsContainer (union_of members) = Unit {0}
IsContainer (list_of l) = Unit {0}
IsContainer (map_of m) = Unit {0}
IsContainer _ = ⊥

-- the second place lies so many steps inside of the first, each to a member, an element or a map's value
abbrev pub IsInside : Table → Place → ℕ → Place → Type 0
IsInside t p zero q = q ≡ p
IsInside t p (suc k) q = (child : Place) × (n : Option ℕ) × (place_in (kind_of t p) n ≡ Some child) × IsInside t child k q

-- whether the kind is that of a list or a map whose elements or values may be null
abbrev pub is_sparse : Kind → Bool
is_sparse (list_of l) = l.is_sparse
is_sparse (map_of m) = m.is_sparse
is_sparse _ = false

-- the kind is that of a list or a map whose elements or values may be null
abbrev pub IsSparse : Kind → Type 0
IsSparse (list_of l) = l.is_sparse ≡ true
IsSparse (map_of m) = m.is_sparse ≡ true
IsSparse _ = ⊥

-- the position of the member of this name, from 0: by member names, or by JSON names
abbrev pub position_named : (Member → List ℕ) → List Member → List ℕ → Option ℕ
position_named name_of members key = first_position (λ (m : Member). bytes_eq (name_of m) key) members

-- each child has a place of a scalar or of a declaration of the table
abbrev pub IsClosed : Table → Type 0
IsClosed table =
    (outer inner : Place) (n : Option ℕ) → place_in (kind_of table outer) n ≡ Some inner
    → kind_of table inner ≢ nothing
