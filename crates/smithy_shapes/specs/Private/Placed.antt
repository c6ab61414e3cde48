-- Declarations with their places beside them.
use Rattle.std.specs.Prelude.{List, [], ◌∷◌}
use Rattle.smithy_declarations.specs.declared.place.Place.{Place}
use Rattle.smithy_declarations.specs.Table.{Member, ListShape, MapShape, Shape, Declaration}
use Rattle.smithy_declarations.specs.Decl.{MemberDecl, ListDecl, MapDecl, Form, structure, union, list, map, Decl}

abbrev pub member_with : MemberDecl → Place → Member
member_with m place = record {
  name = m.name;
  json_name = m.json;
  xml_name = m.xml;
  is_flat = m.is_flat;
  place = place;
}

abbrev pub members_with : List MemberDecl → List Place → List Member
members_with [] places = []
members_with (m ∷ ms) [] = []
members_with (m ∷ ms) (p ∷ ps) = member_with m p ∷ members_with ms ps

abbrev pub list_with : ListDecl → Place → ListShape
list_with l place = record { place = place; is_sparse = l.is_sparse; xml_name = l.xml }

abbrev pub map_with : MapDecl → Place → MapShape
map_with m place = record { place = place; is_sparse = m.is_sparse; key_name = m.key; value_name = m.value }

-- what is declared, where a list and a map have one place
abbrev pub shape_with : Form → List Place → Shape
shape_with (structure ms) places = Shape.structure (members_with ms places)
shape_with (union ms) places = Shape.union (members_with ms places)
shape_with (list l) (p ∷ ps) = Shape.list (list_with l p)
shape_with (map m) (p ∷ ps) = Shape.map (map_with m p)
shape_with _ [] = Shape.structure []

abbrev pub declaration_with : Decl → List Place → Declaration
declaration_with d places = record { name = d.name; shape = shape_with d.form places }

abbrev pub table_with : List Decl → List (List Place) → List Declaration
table_with [] all = []
table_with (d ∷ ds) [] = []
table_with (d ∷ ds) (places ∷ all) = declaration_with d places ∷ table_with ds all
