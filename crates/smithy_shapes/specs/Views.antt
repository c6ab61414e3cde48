-- What the types of the program stand for.
use Rattle.std.specs.Prelude.{map as list_map, string_bytes, option_map}
use Rattle.smithy_shapes.specs.declared.members.MemberShape as kept_member
use Rattle.smithy_shapes.specs.declared.shapes.ListShape as kept_list
use Rattle.smithy_shapes.specs.declared.shapes.MapShape as kept_map
use Rattle.smithy_shapes.specs.declared.shapes.Declaration as kept_declaration
use Rattle.smithy_shapes.specs.declared.shapes.Shape as kept_shape
use Rattle.smithy_shapes.specs.declared.shapes.Shape.TheVariants as kept_shapes
use Rattle.smithy_declarations.specs.Table.{Member, ListShape, MapShape, Shape, structure, union, list, map, Declaration}

-- the member of a table that the program's member is
abbrev pub member_of : kept_member.MemberShape → Member
member_of m = record {
  name = string_bytes m.name;
  json_name = option_map string_bytes m.json_name;
  xml_name = option_map string_bytes m.xml_name;
  is_flat = m.flat;
  place = m.place;
}

-- the list that the program's list is
abbrev pub list_shape_of : kept_list.ListShape → ListShape
list_shape_of l = record {
  place = l.place;
  is_sparse = l.sparse;
  xml_name = option_map string_bytes l.xml_name;
}

-- the map that the program's map is
abbrev pub map_shape_of : kept_map.MapShape → MapShape
map_shape_of m = record {
  place = m.place;
  is_sparse = m.sparse;
  key_name = option_map string_bytes m.key_name;
  value_name = option_map string_bytes m.value_name;
}

-- the shape that the program's shape is
abbrev pub shape_of : kept_shape.Shape → Shape
shape_of (kept_shapes.Structure members) = structure (list_map member_of members.items.items)
shape_of (kept_shapes.Union members) = union (list_map member_of members.items.items)
shape_of (kept_shapes.List l) = list (list_shape_of l)
shape_of (kept_shapes.Map m) = map (map_shape_of m)

-- the declaration that the program's declaration is
abbrev pub declaration_of : kept_declaration.Declaration → Declaration
declaration_of d = record { name = string_bytes d.name; shape = shape_of d.shape }
