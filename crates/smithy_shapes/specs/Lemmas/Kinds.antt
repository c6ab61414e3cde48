-- What is known of a place by the kind of its container.
use Rattle.std.specs.Prelude.{◌≡◌, List, Option, Some, None, true, refl}
use Rattle.std.specs.Option.{option_map_or}
use Rattle.smithy_declarations.specs.declared.place.Place.{Place}
use Rattle.smithy_declarations.specs.declared.place.Target.{Target}
use Rattle.smithy_declarations.specs.declared.place.Target.TheVariants.{Simple, Document, Declared}
use Rattle.smithy_declarations.specs.Table as table
use Rattle.smithy_declarations.specs.Table.{Table, Member, ListShape, MapShape, Shape, Kind, structure_of, union_of, list_of, map_of, nothing, kind_of_shape, shape_declared, kind_of_target, kind_of, is_document_target, is_document_place, IsDocument, IsList, IsMap, IsStructure, IsUnion}

-- no list is a structure
pub no_list_and_structure : (k : Kind) → IsList k → IsStructure k → ⊥
no_list_and_structure (structure_of members) h l = h
no_list_and_structure _ h l = l

-- the list of a kind of lists
pub list_kind : (k : Kind) → IsList k → (l : ListShape) × (k ≡ list_of l)
list_kind (list_of l) h = (l, refl)
list_kind _ h = absurd h

-- the map of a kind of maps
pub map_kind : (k : Kind) → IsMap k → (m : MapShape) × (k ≡ map_of m)
map_kind (map_of m) h = (m, refl)
map_kind _ h = absurd h

-- the members of a kind of structures
pub structure_kind : (k : Kind) → IsStructure k → (ss : List Member) × (k ≡ structure_of ss)
structure_kind (structure_of members) h = (members, refl)
structure_kind _ h = absurd h

-- the members of a kind of unions
pub union_kind : (k : Kind) → IsUnion k → (ss : List Member) × (k ≡ union_of ss)
union_kind (union_of members) h = (members, refl)
union_kind _ h = absurd h

declared_is_no_document : (o : Option Shape) → IsDocument (option_map_or kind_of_shape o nothing) → ⊥
declared_is_no_document None h = h
declared_is_no_document (Some (table.structure members)) h = h
declared_is_no_document (Some (table.union members)) h = h
declared_is_no_document (Some (table.list l)) h = h
declared_is_no_document (Some (table.map m)) h = h

-- where a document stands, the target alone says so
pub document_target_is : (t : Table) (target : Target) → IsDocument (kind_of_target t target) → is_document_target target ≡ true
document_target_is t (Simple s) h = absurd h
document_target_is t Document h = refl
document_target_is t (Declared r) h = absurd (declared_is_no_document (shape_declared t r.0) h)

pub document_place_is : (t : Table) (p : Place) → IsDocument (kind_of t p) → is_document_place p ≡ true
document_place_is t p h = document_target_is t p.target h
