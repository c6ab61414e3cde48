-- What a schema tells: its place, and the names and marks under which the value stands there.
use Rattle.std.specs.Prelude.{ℕ, List, Bool, false, Option, Some, None, map, option_map, option_and_then, slice_get, unwrap_or, codes, if◌then◌else◌}
use Rattle.std.specs.List.{enumerate_from}
use Rattle.std.specs.Option.{option_map_or, option_or}
use Rattle.smithy_declarations.specs.declared.place.Place.{Place}
use Rattle.smithy_shapes.specs.declared.schema.Schema.{Schema}
use Rattle.smithy_shapes.specs.declared.schema.Origin.{Origin}
use Rattle.smithy_shapes.specs.declared.schema.Origin.TheVariants as origins
use Rattle.smithy_declarations.specs.declared.shape_type.Scalar.TheVariants as scalars
use Rattle.smithy_shapes.specs.Views as program
use Rattle.smithy_declarations.specs.Table.{Table, Member, ListShape, MapShape, Kind, kind_of, scalar_place, shape_place, members_of, list_shape_of, map_shape_of, position_named}

-- the names and marks of a member, of an element, of a map's key or value, or of a shape as a whole, which has none
pub record View : Type 0 where
  pub name : Option (List ℕ)
  -- the position of a member, from 0
  pub index : Option ℕ
  -- the names in JSON and in forms, as they are given
  pub json_name : Option (List ℕ)
  pub xml_name : Option (List ℕ)
  pub is_flat : Bool

-- the view of a shape as a whole
abbrev pub whole_view : View
whole_view = record { name = None; index = None; json_name = None; xml_name = None; is_flat = false }

-- the view without a member name, a position and the flat mark; the other names stay
abbrev pub nameless : View → View
nameless view = record view { name = None; index = None; is_flat = false }

-- the view of the member at a position
abbrev pub member_view : ℕ → Member → View
member_view n m =
    record { name = Some m.name; index = Some n; json_name = m.json_name; xml_name = m.xml_name; is_flat = m.is_flat }

-- the elements of a list stand under the name `member`
abbrev pub element_view : ListShape → View
element_view l = record whole_view { name = Some (codes "member"); xml_name = l.xml_name }

-- the keys of a map stand under the name `key`
abbrev pub key_view : MapShape → View
key_view m = record whole_view { name = Some (codes "key"); xml_name = m.key_name }

-- the values of a map stand under the name `value`
abbrev pub value_view : MapShape → View
value_view m = record whole_view { name = Some (codes "value"); xml_name = m.value_name }

-- the view of a shape as a whole, of a member with its position, of a list's elements, of a map's keys and values
abbrev pub view_from : Origin → View
view_from origins.Whole = whole_view
view_from (origins.Member m n) = member_view n (program.member_of m.now)
view_from (origins.Element l) = element_view (program.list_shape_of l.now)
view_from (origins.Key m) = key_view (program.map_shape_of m.now)
view_from (origins.Value m) = value_view (program.map_shape_of m.now)

-- a table, a place of it, and the view under which the place is seen
pub record Site : Type 0 where
  pub table : Table
  pub place : Place
  pub view : View

-- what stands at the site
abbrev pub kind_at : Site → Kind
kind_at site = kind_of site.table site.place

-- the site of a declaration as a whole
abbrev pub shape_site : Table → ℕ → Site
shape_site table n = record { table = table; place = shape_place n; view = whole_view }

-- the site of a member at a position
abbrev pub site_of_member : Table → ℕ → Member → Site
site_of_member table n m = record { table = table; place = m.place; view = member_view n m }

-- the site of the member at a position
abbrev pub member_site : Site → ℕ → Option Site
member_site outer n = option_map (site_of_member outer.table n) (slice_get (members_of (kind_at outer)) n)

-- the site of the member of this name, by one of its names
abbrev pub member_named : (Member → List ℕ) → Site → List ℕ → Option Site
member_named name_of outer name =
    option_and_then (member_site outer) (position_named name_of (members_of (kind_at outer)) name)

-- the sites of the members in order
abbrev pub member_sites : Site → List Site
member_sites outer =
    map (λ (m : ℕ × Member). site_of_member outer.table m.0 m.1) (enumerate_from 0 (members_of (kind_at outer)))

-- the site of a list's elements
abbrev pub site_of_element : Table → ListShape → Site
site_of_element table l = record { table = table; place = l.place; view = element_view l }

-- the site of the elements of a list
abbrev pub element_site : Site → Option Site
element_site outer = option_map (site_of_element outer.table) (list_shape_of (kind_at outer))

-- the site of a map's keys, which are strings
abbrev pub site_of_key : Table → MapShape → Site
site_of_key table m = record { table = table; place = scalar_place scalars.String None; view = key_view m }

-- the site of a map's values
abbrev pub site_of_value : Table → MapShape → Site
site_of_value table m = record { table = table; place = m.place; view = value_view m }

-- the site of the keys of a map
abbrev pub key_site : Site → Option Site
key_site outer = option_map (site_of_key outer.table) (map_shape_of (kind_at outer))

-- the site of the values of a map
abbrev pub value_site : Site → Option Site
value_site outer = option_map (site_of_value outer.table) (map_shape_of (kind_at outer))

-- the site of the elements of a list, or of the values of a map
abbrev pub inner_site : Site → Option Site
inner_site outer = option_or (element_site outer) (value_site outer)

-- the site with its view without a member name, a position and the flat mark
abbrev pub nameless_site : Site → Site
nameless_site site = record site { view = nameless site.view }

-- the site at which a list's elements are written: they have no name there
abbrev pub element_of : Site → Site
element_of site = option_map_or nameless_site (element_site site) site

-- the site at which a map's keys are written
abbrev pub key_of : Site → Site
key_of site = unwrap_or (key_site site) site

-- the site at which a map's values are written: they have no name there
abbrev pub value_of : Site → Site
value_of site = option_map_or nameless_site (value_site site) site

-- the site at which the member at a position is written
abbrev pub member_of : Site → ℕ → Site
member_of site n = unwrap_or (member_site site n) site

-- the view, or where it is to be nameless, the view without a member name, a position and the flat mark
abbrev pub view_under : Bool → View → View
view_under is_nameless view = if is_nameless then nameless view else view

-- what a schema of the program tells
abbrev pub site_of : Schema → Site
site_of s = record {
  table = s.shapes.now;
  place = s.place;
  view = view_under s.is_nameless (view_from s.origin);
}
