-- The tables of the examples, items that are built, and what an example says.
use Rattle.std.proofs.Common.{ℕ, suc, ℤ, List, [], ◌∷◌, Bool, true, false, Option, Some, None, codes}
use Rattle.smithy_declarations.specs.declared.place.Place.{Place}
use Rattle.smithy_declarations.specs.declared.shape_type.Scalar.TheVariants as scalars
use Rattle.smithy_declarations.specs.Table as table
use Rattle.smithy_declarations.specs.Table.{Table, Member, Shape, Declaration, scalar_place, shape_place}
use Rattle.smithy_shapes.specs.Site.{shape_site}
use Rattle.smithy_declarations.specs.Value as values
use Rattle.smithy_declarations.specs.Value.{whole, text, Value, scalar_value, no_values, no_member_values, member_value}
use Rattle.cbor_item.specs.Item.{definite, indefinite, Item, text_string, array, map as map_item, simple, Items, no_items, item, Pairs, no_pairs, pair}
use Rattle.smithy_cbor_values.specs.Settings.{Settings, kept, without_limits}
use Rattle.smithy_cbor_values.specs.Meaning.{cbor_meaning}
use Rattle.smithy_cbor_body.specs.Canonical.{canonical_cbor}

-- ---- scalars

abbrev pub whole_value : ℤ → Value
whole_value n = scalar_value (whole n)

abbrev pub text_value : List ℕ → Value
text_value s = scalar_value (text s)

-- ---- tables

abbrev pub long_place : Place
long_place = scalar_place scalars.Long None

abbrev pub string_place : Place
string_place = scalar_place scalars.String None

abbrev pub plain_member : List ℕ → Place → Member
plain_member name place = record { name = name; json_name = None; xml_name = None; is_flat = false; place = place }

abbrev pub named : List ℕ → Shape → Declaration
named name shape = record { name = name; shape = shape }

abbrev pub list_shape : Bool → Place → Shape
list_shape is_sparse place = table.list (record { place = place; is_sparse = is_sparse; xml_name = None })

abbrev pub map_shape : Bool → Place → Shape
map_shape is_sparse place = table.map (record { place = place; is_sparse = is_sparse; key_name = None; value_name = None })

-- structure S / member a long
abbrev pub one_long : Table
one_long = named (codes "S") (table.structure (plain_member (codes "a") long_place ∷ [])) ∷ []

-- structure S / member a long json=A
abbrev pub long_renamed : Table
long_renamed = named (codes "S") (table.structure (record (plain_member (codes "a") long_place) { json_name = Some (codes "A") } ∷ [])) ∷ []

-- structure S / member é long
abbrev pub accented : Table
accented = named (codes "S") (table.structure (plain_member (0xc3 ∷ 0xa9 ∷ []) long_place ∷ [])) ∷ []

-- structure S / member a string
abbrev pub one_string : Table
one_string = named (codes "S") (table.structure (plain_member (codes "a") string_place ∷ [])) ∷ []

-- list Items string / structure S / member a long / member s string / member i Items
abbrev pub three_members : Table
three_members = named (codes "Items") (list_shape false string_place)
    ∷ named (codes "S") (table.structure (plain_member (codes "a") long_place ∷ plain_member (codes "s") string_place ∷ plain_member (codes "i") (shape_place 0) ∷ [])) ∷ []

-- list L L, sparse or not / structure S / member l L
abbrev pub lists_of_lists : Bool → Table
lists_of_lists is_sparse = named (codes "L") (list_shape is_sparse (shape_place 0))
    ∷ named (codes "S") (table.structure (plain_member (codes "l") (shape_place 0) ∷ [])) ∷ []

-- list Items string, sparse or not / structure S / member i Items
abbrev pub lists_of_strings : Bool → Table
lists_of_strings is_sparse = named (codes "Items") (list_shape is_sparse string_place)
    ∷ named (codes "S") (table.structure (plain_member (codes "i") (shape_place 0) ∷ [])) ∷ []

-- list Nodes Node / structure Node / member value long / member nodes Nodes
abbrev pub nodes : Table
nodes = named (codes "Nodes") (list_shape false (shape_place 1))
    ∷ named (codes "Node") (table.structure (plain_member (codes "value") long_place ∷ plain_member (codes "nodes") (shape_place 0) ∷ [])) ∷ []

-- map M long, sparse or not
abbrev pub map_of_longs : Bool → Table
map_of_longs is_sparse = named (codes "M") (map_shape is_sparse long_place) ∷ []

-- union U / member a long / member b long
abbrev pub two_variants : Table
two_variants = named (codes "U") (table.union (plain_member (codes "a") long_place ∷ plain_member (codes "b") long_place ∷ [])) ∷ []

-- union U / member __type long
abbrev pub type_variant : Table
type_variant = named (codes "U") (table.union (plain_member (codes "__type") long_place ∷ [])) ∷ []

-- ---- items and values

-- a text string of definite length
abbrev pub a_text : List ℕ → Item
a_text t = text_string definite (t ∷ [])

-- one of indefinite length, in these chunks
abbrev pub chunked : List (List ℕ) → Item
chunked chunks = text_string indefinite chunks

abbrev pub null : Item
null = simple 22

abbrev pub undefined : Item
undefined = simple 23

abbrev pub items_of : List Item → Items
items_of [] = no_items
items_of (i ∷ is) = item i (items_of is)

abbrev pub an_array : List Item → Item
an_array is = array definite (items_of is)

abbrev pub pairs_of : List (Item × Item) → Pairs
pairs_of [] = no_pairs
pairs_of (p ∷ ps) = pair p.0 p.1 (pairs_of ps)

abbrev pub a_map : List (Item × Item) → Item
a_map ps = map_item definite (pairs_of ps)

-- a map of one pair, whose key is a text of definite length
abbrev pub alone : List ℕ → Item → Item
alone key i = a_map ((a_text key, i) ∷ [])

-- a map of two such pairs
abbrev pub both : List ℕ → Item → List ℕ → Item → Item
both key i key' i' = a_map ((a_text key, i) ∷ (a_text key', i') ∷ [])

-- so many arrays around an item
abbrev pub in_arrays : ℕ → Item → Item
in_arrays ℕ.zero i = i
in_arrays (suc n) i = array definite (item (in_arrays n i) no_items)

-- so many lists around a value
abbrev pub in_lists : ℕ → Value → Value
in_lists ℕ.zero v = v
in_lists (suc n) v = values.list (values.value (in_lists n v) no_values)

abbrev pub empty_structure : Value
empty_structure = values.structure no_member_values

-- the structure that has its first member alone
abbrev pub first_alone : Value → Value
first_alone v = values.structure (member_value 0 v no_member_values)

-- ---- what an example says

-- the settings of a strict reader
abbrev pub strict : Settings
strict = record { max_depth = 128; limits = kept; enforce_strictness = true; dispatch_null_members = false; use_definite_lengths = false }

-- what an item means at the declaration of that number
abbrev pub means_at : Table → ℕ → Item → Option Value
means_at t root i = cbor_meaning strict t (shape_place root) 0 i

-- what it would mean, were the limits lifted
abbrev pub would_mean_at : Table → ℕ → Item → Option Value
would_mean_at t root i = cbor_meaning (without_limits strict) t (shape_place root) 0 i

-- what it means where so many containers may stand in one another
abbrev pub means_within : ℕ → Table → ℕ → Item → Option Value
means_within max_depth t root i = cbor_meaning (record { max_depth = max_depth; limits = kept; enforce_strictness = true; dispatch_null_members = false; use_definite_lengths = false }) t (shape_place root) 0 i

-- the canonical encoding of a value of the declaration
abbrev pub written : Table → ℕ → Value → List ℕ
written t root v = canonical_cbor false (shape_site t root) v
