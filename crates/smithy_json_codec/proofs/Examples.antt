-- The tables of the examples, trees that are built, and what an example says.
use Rattle.std.proofs.Common.{ℕ, suc, ℤ, List, [], ◌∷◌, Bool, true, false, Option, Some, None, option_map, codes}
use Rattle.smithy_declarations.specs.declared.place.Place.{Place}
use Rattle.smithy_declarations.specs.declared.shape_type.Scalar.TheVariants as scalars
use Rattle.smithy_declarations.specs.Table as table
use Rattle.smithy_declarations.specs.Table.{Table, Member, Shape, Declaration, scalar_place, shape_place}
use Rattle.smithy_shapes.specs.Site.{shape_site}
use Rattle.smithy_declarations.specs.Value as values
use Rattle.smithy_declarations.specs.Value.{whole, text, Value, scalar_value, no_values, no_member_values, member_value}
use Rattle.smithy_json_grammar.specs.Tree.{Json, array, object, no_elements, element, no_members, member}
use Rattle.smithy_json_values.specs.Codec.{strict_settings}
use Rattle.smithy_json_values.specs.Settings.{Settings, without_limits}
use Rattle.smithy_json_values.specs.Meaning.{json_meaning}
use Rattle.smithy_json_codec.specs.Canonical.{canonical_json}

-- ---- scalars

abbrev pub whole_value : ℤ → Value
whole_value n = scalar_value (whole n)

abbrev pub text_value : List ℕ → Value
text_value s = scalar_value (text s)

-- ---- tables

abbrev pub long_place : Place
long_place = scalar_place scalars.Long None

abbrev pub string_place : Place
string_place = scalar_place scalars.String None

abbrev pub plain_member : List ℕ → Place → Member
plain_member name place = record { name = name; json_name = None; xml_name = None; is_flat = false; place = place }

abbrev pub renamed_member : List ℕ → List ℕ → Place → Member
renamed_member name json_name place = record (plain_member name place) { json_name = Some json_name }

abbrev pub named : List ℕ → Shape → Declaration
named name shape = record { name = name; shape = shape }

abbrev pub list_shape : Bool → Place → Shape
list_shape is_sparse place = table.list (record { place = place; is_sparse = is_sparse; xml_name = None })

-- structure S / member a long
abbrev pub one_long : Table
one_long = named (codes "S") (table.structure (plain_member (codes "a") long_place ∷ [])) ∷ []

-- structure S / member a long json=A
abbrev pub long_renamed : Table
long_renamed = named (codes "S") (table.structure (renamed_member (codes "a") (codes "A") long_place ∷ [])) ∷ []

-- structure S / member a long json=b / member b string json=a
abbrev pub names_swapped : Table
names_swapped = named (codes "S") (table.structure (renamed_member (codes "a") (codes "b") long_place ∷ renamed_member (codes "b") (codes "a") string_place ∷ [])) ∷ []

-- structure S / member a string
abbrev pub one_string : Table
one_string = named (codes "S") (table.structure (plain_member (codes "a") string_place ∷ [])) ∷ []

-- list Items string / structure S / member a long / member s string / member i Items
abbrev pub three_members : Table
three_members = named (codes "Items") (list_shape false string_place)
    ∷ named (codes "S") (table.structure (plain_member (codes "a") long_place ∷ plain_member (codes "s") string_place ∷ plain_member (codes "i") (shape_place 0) ∷ [])) ∷ []

-- list L L, sparse or not / structure S / member l L
abbrev pub lists_of_lists : Bool → Table
lists_of_lists is_sparse = named (codes "L") (list_shape is_sparse (shape_place 0))
    ∷ named (codes "S") (table.structure (plain_member (codes "l") (shape_place 0) ∷ [])) ∷ []

-- list Items string, sparse or not / structure S / member i Items
abbrev pub lists_of_strings : Bool → Table
lists_of_strings is_sparse = named (codes "Items") (list_shape is_sparse string_place)
    ∷ named (codes "S") (table.structure (plain_member (codes "i") (shape_place 0) ∷ [])) ∷ []

-- list Nodes Node / structure Node / member value long / member nodes Nodes
abbrev pub nodes : Table
nodes = named (codes "Nodes") (list_shape false (shape_place 1))
    ∷ named (codes "Node") (table.structure (plain_member (codes "value") long_place ∷ plain_member (codes "nodes") (shape_place 0) ∷ [])) ∷ []

-- ---- trees and values

-- an object of one member
abbrev pub alone : List ℕ → Json → Json
alone key x = object (member key x no_members)

-- an object of two members
abbrev pub both : List ℕ → Json → List ℕ → Json → Json
both key x key' x' = object (member key x (member key' x' no_members))

-- so many arrays around a tree
abbrev pub in_arrays : ℕ → Json → Json
in_arrays ℕ.zero x = x
in_arrays (suc n) x = array (element (in_arrays n x) no_elements)

-- so many objects around a tree
abbrev pub in_objects : ℕ → Json → Json
in_objects ℕ.zero x = x
in_objects (suc n) x = alone (codes "z") (in_objects n x)

-- so many lists around a value
abbrev pub in_lists : ℕ → Value → Value
in_lists ℕ.zero v = v
in_lists (suc n) v = values.list (values.value (in_lists n v) no_values)

abbrev pub empty_structure : Value
empty_structure = values.structure no_member_values

-- the structure that has its first member alone
abbrev pub first_alone : Value → Value
first_alone v = values.structure (member_value 0 v no_member_values)

-- ---- what an example says

-- the settings of a strict reader
abbrev pub strict : Bool → Settings
strict = strict_settings

-- what a tree means at the declaration of that number, by member names
abbrev pub means_at : Table → ℕ → Json → Option Value
means_at t root x = json_meaning (strict false) t (shape_place root) 0 x

-- the same by JSON names
abbrev pub means_by_json_name : Table → ℕ → Json → Option Value
means_by_json_name t root x = json_meaning (strict true) t (shape_place root) 0 x

-- what it would mean, were the limits lifted
abbrev pub would_mean_at : Table → ℕ → Json → Option Value
would_mean_at t root x = json_meaning (without_limits (strict false)) t (shape_place root) 0 x

-- what it means where so many containers may stand in one another
abbrev pub means_within : ℕ → Table → ℕ → Json → Option Value
means_within max_depth t root x = json_meaning (record (strict false) { max_depth = max_depth }) t (shape_place root) 0 x

-- the canonical text of a value of the declaration
abbrev pub written : Table → ℕ → Value → List ℕ
written t root v = canonical_json (strict false) (shape_site t root) v

-- the canonical text of what a tree means, read and written by one kind of names or the other
abbrev pub rewritten_by : Bool → Bool → Table → ℕ → Json → Option (List ℕ)
rewritten_by from to t root x =
    option_map (canonical_json (strict to) (shape_site t root)) (json_meaning (strict from) t (shape_place root) 0 x)

abbrev pub rewritten : Table → ℕ → Json → Option (List ℕ)
rewritten = rewritten_by false false
