-- The one schema of what is inside a list or a map.
use Rattle.std.proofs.Common.{◌≡◌, Option, Some, None, option_map, refl, ◌∙◌}
use Rattle.std.specs.Option.{option_or}
use Rattle.smithy_declarations.specs.Table.{Table, Kind, list_of, map_of, structure_of, union_of, place_in, list_shape_of, map_shape_of, IsList, IsMap}
use Rattle.smithy_shapes.specs.Site.{Site, kind_at, site_of_element, site_of_value, element_site, value_site, inner_site}

-- the site of the elements of a list, or of the values of a map
abbrev pub inner_in : Table → Kind → Option Site
inner_in table kind =
    option_or (option_map (site_of_element table) (list_shape_of kind)) (option_map (site_of_value table) (map_shape_of kind))

in_list : (table : Table) (kind : Kind) → IsList kind → inner_in table kind ≡ option_map (site_of_element table) (list_shape_of kind)
in_list table (list_of l) h = refl
in_list table _ h = absurd h

in_map : (table : Table) (kind : Kind) → IsMap kind → inner_in table kind ≡ option_map (site_of_value table) (map_shape_of kind)
in_map table (map_of m) h = refl
in_map table _ h = absurd h

-- of a list it is that of its elements
pub inner_element : (site inner : Site) → IsList (kind_at site) → Some inner ≡ inner_site site → Some inner ≡ element_site site
inner_element site inner is found = found ∙ in_list site.table (kind_at site) is

-- of a map it is that of its values
pub inner_value : (site inner : Site) → IsMap (kind_at site) → Some inner ≡ inner_site site → Some inner ≡ value_site site
inner_value site inner is found = found ∙ in_map site.table (kind_at site) is

-- and it is where a child without a position stands
pub inner_place : (table : Table) (kind : Kind) → option_map (λ (s : Site). s.place) (inner_in table kind) ≡ place_in kind None
inner_place table (list_of l) = refl
inner_place table (map_of m) = refl
inner_place table (structure_of members) = refl
inner_place table (union_of members) = refl
inner_place table _ = refl
