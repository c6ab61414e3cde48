-- Values of small tables and the forms that they are, by the definition and call by call.
use Rattle.std.proofs.Common.{◌≡◌, ◌^◌, ℕ, ℤ, List, [], ◌∷◌, Bool, true, false, Option, Some, None, Ok, Err, codes, refl, pos, neg_ℤ, arith}
use Rattle.smithy_declarations.specs.declared.place.Place.{Place}
use Rattle.smithy_declarations.specs.declared.shape_type.Scalar.TheVariants as scalars
use Rattle.smithy_declarations.specs.declared.shape_type.TimestampFormat.TheVariants.{EpochSeconds, HttpDate}
use Rattle.smithy_schema.specs.declared.error.SerdeError.TheVariants.{Unwritable}
use Rattle.smithy_declarations.specs.Table as table
use Rattle.smithy_declarations.specs.Table.{Table, Member, Shape, Declaration, scalar_place, shape_place}
use Rattle.smithy_shapes.specs.Site.{shape_site, member_of}
use Rattle.smithy_declarations.specs.Value.{boolean, whole, text, bytes, decimal, instant, Value, scalar_value, list, map, structure, union, null_element, no_values, value, no_map_entries, map_entry, no_member_values, member_value}
use Rattle.smithy_schema.specs.Writing.{begin_map, end_map, scalar_of, big_integer_of, big_decimal_of, open_list, open_map_at_value, run, write}
use Rattle.smithy_query_codec.specs.Canonical.{canonical_query}
use Rattle.smithy_query_codec.specs.Writing.{QueryState, fresh_state, query_after}
use Rattle.smithy_query_codec.specs.Distinct.{HaveDistinctTexts}
use Rattle.smithy_query_codec.specs.Writable.{can_be_written}
use Rattle.smithy_instants.proofs.OnLiterals.{smithy_instants_on_literals}
use Rattle.smithy_query_codec.proofs.OnLiterals.{smithy_query_codec_on_literals}

-- ---- tables

abbrev a_member : List ℕ → Option (List ℕ) → Bool → Place → Member
a_member name xml_name is_flat place = record { name = name; json_name = None; xml_name = xml_name; is_flat = is_flat; place = place }

abbrev named : List ℕ → Shape → Declaration
named name shape = record { name = name; shape = shape }

abbrev a_list : Option (List ℕ) → Place → Shape
a_list xml_name place = table.list (record { place = place; is_sparse = false; xml_name = xml_name })

abbrev a_map : Option (List ℕ) → Option (List ℕ) → Place → Shape
a_map keys vals place = table.map (record { place = place; is_sparse = false; key_name = keys; value_name = vals })

abbrev long : Place
long = scalar_place scalars.Long None

abbrev string : Place
string = scalar_place scalars.String None

abbrev instant_at : ℤ → Value
instant_at n = scalar_value (instant n)

-- structure S / member a long / member s string / member t boolean / member b blob
abbrev scalars_table : Table
scalars_table = named (codes "S") (table.structure (
    a_member (codes "a") None false long
    ∷ a_member (codes "s") None false string
    ∷ a_member (codes "t") None false (scalar_place scalars.Boolean None)
    ∷ a_member (codes "b") None false (scalar_place scalars.Blob None)
    ∷ [])) ∷ []

-- structure S / member i bigInteger / member d bigDecimal
abbrev big_numbers_table : Table
big_numbers_table = named (codes "S") (table.structure (
    a_member (codes "i") None false (scalar_place scalars.BigInteger None)
    ∷ a_member (codes "d") None false (scalar_place scalars.BigDecimal None)
    ∷ [])) ∷ []

-- list L timestamp time=epoch-seconds / structure S / member a timestamp / member b timestamp time=http-date / member l L flat
abbrev instants_table : Table
instants_table = named (codes "L") (a_list None (scalar_place scalars.Timestamp (Some EpochSeconds)))
    ∷ named (codes "S") (table.structure (
    a_member (codes "a") None false (scalar_place scalars.Timestamp None)
    ∷ a_member (codes "b") None false (scalar_place scalars.Timestamp (Some HttpDate))
    ∷ a_member (codes "l") None true (shape_place 0)
    ∷ [])) ∷ []

-- list L long / structure S / member l L flat xml=x
abbrev flat_list : Table
flat_list = named (codes "L") (a_list None long) ∷ named (codes "S") (table.structure (a_member (codes "l") (Some (codes "x")) true (shape_place 0) ∷ [])) ∷ []

-- list L long xml=item / structure S / member l L flat
abbrev flat_list_of_items : Table
flat_list_of_items = named (codes "L") (a_list (Some (codes "item")) long) ∷ named (codes "S") (table.structure (a_member (codes "l") None true (shape_place 0) ∷ [])) ∷ []

-- list L string xml=item / map M string / structure S / member ItemList L / member Tags M flat
abbrev items_and_tags : Table
items_and_tags = named (codes "L") (a_list (Some (codes "item")) string) ∷ named (codes "M") (a_map None None string)
    ∷ named (codes "S") (table.structure (a_member (codes "ItemList") None false (shape_place 0) ∷ a_member (codes "Tags") None true (shape_place 1) ∷ [])) ∷ []

-- list L L / structure S / member l L
abbrev list_of_itself : Table
list_of_itself = named (codes "L") (a_list None (shape_place 0)) ∷ named (codes "S") (table.structure (a_member (codes "l") None false (shape_place 0) ∷ [])) ∷ []

-- structure E / member a long / list L E / structure S / member l L
abbrev list_of_structures : Table
list_of_structures = named (codes "E") (table.structure (a_member (codes "a") None false long ∷ []))
    ∷ named (codes "L") (a_list None (shape_place 0)) ∷ named (codes "S") (table.structure (a_member (codes "l") None false (shape_place 1) ∷ [])) ∷ []

-- list Items string / map Tags string / structure S / member Items Items / member Tags Tags
abbrev items_and_entries : Table
items_and_entries = named (codes "Items") (a_list None string) ∷ named (codes "Tags") (a_map None None string)
    ∷ named (codes "S") (table.structure (a_member (codes "Items") None false (shape_place 0) ∷ a_member (codes "Tags") None false (shape_place 1) ∷ [])) ∷ []

-- map M N key=K value=V / map N long key=L value=W / structure S / member m M
abbrev map_of_maps : Table
map_of_maps = named (codes "M") (a_map (Some (codes "K")) (Some (codes "V")) (shape_place 1)) ∷ named (codes "N") (a_map (Some (codes "L")) (Some (codes "W")) long)
    ∷ named (codes "S") (table.structure (a_member (codes "m") None false (shape_place 0) ∷ [])) ∷ []

-- map Attrs A / union A / member S string / structure P / member TableName string / member Item Attrs
abbrev attributes : Table
attributes = named (codes "Attrs") (a_map None None (shape_place 1)) ∷ named (codes "A") (table.union (a_member (codes "S") None false string ∷ []))
    ∷ named (codes "P") (table.structure (a_member (codes "TableName") None false string ∷ a_member (codes "Item") None false (shape_place 0) ∷ [])) ∷ []

-- ---- forms of the action Do and the version 1

-- what a serializer makes of the value's calls
abbrev written : Table → ℕ → Value → List ℕ → Type 0
written t n v out =
    write query_after (shape_site t n) v (fresh_state (codes "Do") (codes "1"))
    ≡ Ok (record { out = out; prefix = []; names = []; count = 0; opens = []; marks = [] })

abbrev IsFormOf : Table → ℕ → Value → List ℕ → Type 0
IsFormOf t n v out = (canonical_query (codes "Do") (codes "1") (shape_site t n) v ≡ out) × written t n v out

pub no_member : IsFormOf scalars_table 0 (structure no_member_values) (codes "Action=Do&Version=1")
unfolding smithy_query_codec_on_literals
no_member = (refl, refl)

pub four_scalars : IsFormOf scalars_table 0
    (structure (member_value 0 (scalar_value (whole (neg_ℤ (pos 7)))) (member_value 1 (scalar_value (text (codes "a b&=+")))
    (member_value 2 (scalar_value (boolean true)) (member_value 3 (scalar_value (bytes (0xfb ∷ 0xff ∷ []))) no_member_values)))))
    (codes "Action=Do&Version=1&a=-7&s=a%20b%26%3D%2B&t=true&b=%2B%2F8%3D")
unfolding smithy_query_codec_on_literals
four_scalars = (refl, refl)

-- big numbers have their canonical texts
pub big_numbers : IsFormOf big_numbers_table 0
    (structure (member_value 0 (scalar_value (whole (neg_ℤ (pos (2 ^ 127))))) (member_value 1 (scalar_value (decimal (pos 12300) (neg_ℤ (pos 4)))) no_member_values)))
    (codes "Action=Do&Version=1&i=-170141183460469231731687303715884105728&d=12300e-4")
unfolding smithy_query_codec_on_literals
big_numbers = (refl, refl)

-- an exponent of 0 isn't written
pub a_decimal_without_an_exponent : IsFormOf big_numbers_table 0 (structure (member_value 1 (scalar_value (decimal (neg_ℤ (pos 5)) (pos 0))) no_member_values))
    (codes "Action=Do&Version=1&d=-5")
unfolding smithy_query_codec_on_literals
a_decimal_without_an_exponent = (refl, refl)

-- a text that a big number keeps is written as it is, and percent-encoded
pub kept_texts : run query_after
    (big_integer_of (member_of (shape_site big_numbers_table 0) 0) (codes "-007") ∷ big_decimal_of (member_of (shape_site big_numbers_table 0) 1) (codes "+007") ∷ [])
    (fresh_state (codes "Do") (codes "1"))
    ≡ Ok (record { out = codes "Action=Do&Version=1&i=-007&d=%2B007"; prefix = []; names = []; count = 0; opens = []; marks = [] })
unfolding smithy_query_codec_on_literals
kept_texts = refl

-- instants in the form of their place, a date-time where it has none; a date leaves out what it has no room for
pub instants : IsFormOf instants_table 1
    (structure (member_value 0 (instant_at (pos 1_500_000_001)) (member_value 1 (instant_at (pos 1_500_000_001)) (member_value 2 (list (value (instant_at (pos 1_500_000_001)) no_values)) no_member_values))))
    (codes "Action=Do&Version=1&a=1970-01-01T00%3A00%3A01.5Z&b=Thu%2C%2001%20Jan%201970%2000%3A00%3A01%20GMT&l.1=1.500000001")
unfolding smithy_query_codec_on_literals smithy_instants_on_literals
instants = (refl, refl)

-- {"l":[5,6]} and {"l":[]} of a flat member with a name of its own
pub a_flat_list : IsFormOf flat_list 1 (structure (member_value 0 (list (value (scalar_value (whole (pos 5))) (value (scalar_value (whole (pos 6))) no_values))) no_member_values))
    (codes "Action=Do&Version=1&x.1=5&x.2=6")
unfolding smithy_query_codec_on_literals
a_flat_list = (refl, refl)

pub an_empty_flat_list : IsFormOf flat_list 1 (structure (member_value 0 (list no_values) no_member_values)) (codes "Action=Do&Version=1&x=")
unfolding smithy_query_codec_on_literals
an_empty_flat_list = (refl, refl)

-- the name of a list's elements stands nowhere under a flat member
pub a_flat_list_without_items : IsFormOf flat_list_of_items 1 (structure (member_value 0 (list (value (scalar_value (whole (pos 5))) no_values)) no_member_values))
    (codes "Action=Do&Version=1&l.1=5")
unfolding smithy_query_codec_on_literals
a_flat_list_without_items = (refl, refl)

pub elements_and_a_flat_map : IsFormOf items_and_tags 2
    (structure (member_value 0 (list (value (scalar_value (text (codes "foo"))) no_values))
    (member_value 1 (map (map_entry (codes "bar") (scalar_value (text (codes "Bar"))) no_map_entries)) no_member_values)))
    (codes "Action=Do&Version=1&ItemList.item.1=foo&Tags.1.key=bar&Tags.1.value=Bar")
unfolding smithy_query_codec_on_literals
elements_and_a_flat_map = (refl, refl)

-- {"l":[[],[[]]]}: lists that are no member's value write nothing where they are empty
pub silent_elements : IsFormOf list_of_itself 1
    (structure (member_value 0 (list (value (list no_values) (value (list (value (list no_values) no_values)) no_values))) no_member_values))
    (codes "Action=Do&Version=1&l=")
unfolding smithy_query_codec_on_literals
silent_elements = (refl, refl)

-- [{},{"a":1}]: an element that writes nothing counts in the positions
pub silent_elements_count : IsFormOf list_of_structures 2
    (structure (member_value 0 (list (value (structure no_member_values) (value (structure (member_value 0 (scalar_value (whole (pos 1))) no_member_values)) no_values))) no_member_values))
    (codes "Action=Do&Version=1&l.member.2.a=1")
unfolding smithy_query_codec_on_literals
silent_elements_count = (refl, refl)

pub an_empty_list_and_a_map : IsFormOf items_and_entries 2
    (structure (member_value 0 (list no_values)
    (member_value 1 (map (map_entry (codes "a") (scalar_value (text (codes "1"))) (map_entry (codes "b") (scalar_value (text (codes "2"))) no_map_entries))) no_member_values)))
    (codes "Action=Do&Version=1&Items=&Tags.entry.1.key=a&Tags.entry.1.value=1&Tags.entry.2.key=b&Tags.entry.2.value=2")
unfolding smithy_query_codec_on_literals
an_empty_list_and_a_map = (refl, refl)

pub an_empty_map : IsFormOf items_and_entries 2 (structure (member_value 1 (map no_map_entries) no_member_values)) (codes "Action=Do&Version=1")
unfolding smithy_query_codec_on_literals
an_empty_map = (refl, refl)

-- each map has the names of its own
pub maps_in_a_map : IsFormOf map_of_maps 2
    (structure (member_value 0 (map (map_entry (codes "p") (map (map_entry (codes "q") (scalar_value (whole (pos 1))) no_map_entries))
    (map_entry (codes "r") (map no_map_entries) no_map_entries))) no_member_values))
    (codes "Action=Do&Version=1&m.entry.1.K=p&m.entry.1.V.entry.1.L=q&m.entry.1.V.entry.1.W=1&m.entry.2.K=r")
unfolding smithy_query_codec_on_literals
maps_in_a_map = (refl, refl)

pub unions_in_a_map : IsFormOf attributes 2
    (structure (member_value 0 (scalar_value (text (codes "t")))
    (member_value 1 (map (map_entry (codes "Id") (union 0 (scalar_value (text (codes "a")))) no_map_entries)) no_member_values)))
    (codes "Action=Do&Version=1&TableName=t&Item.entry.1.key=Id&Item.entry.1.value.S=a")
unfolding smithy_query_codec_on_literals
unions_in_a_map = (refl, refl)

-- ---- what can't be written

pub no_null_in_a_list : write query_after (shape_site flat_list 1) (structure (member_value 0 (list (value null_element no_values)) no_member_values)) (fresh_state [] []) ≡ Err Unwritable
unfolding smithy_query_codec_on_literals
no_null_in_a_list = refl

pub no_null_in_a_map : write query_after (shape_site items_and_entries 2) (structure (member_value 1 (map (map_entry (codes "a") null_element no_map_entries)) no_member_values)) (fresh_state [] []) ≡ Err Unwritable
unfolding smithy_query_codec_on_literals
no_null_in_a_map = refl

-- the year 10000, which is written as seconds alone
abbrev too_late : ℤ
too_late = pos 253_402_300_800_000_000_000

pub no_date_past_9999 : (write query_after (shape_site instants_table 1) (structure (member_value 0 (instant_at too_late) no_member_values)) (fresh_state [] []) ≡ Err Unwritable)
    × (write query_after (shape_site instants_table 1) (structure (member_value 1 (instant_at too_late) no_member_values)) (fresh_state [] []) ≡ Err Unwritable)
unfolding smithy_query_codec_on_literals smithy_instants_on_literals
no_date_past_9999 = (refl, refl)

-- which values have a form: a date past 9999 has none, nor has a null
pub expressible : (can_be_written (shape_site instants_table 1) (structure (member_value 0 (instant_at too_late) no_member_values)) ≡ false)
    × (can_be_written (shape_site instants_table 1) (structure (member_value 2 (list (value (instant_at too_late) no_values)) no_member_values)) ≡ true)
    × (can_be_written (shape_site instants_table 1) (structure (member_value 0 (instant_at (pos 0)) (member_value 1 (instant_at (pos 0)) no_member_values))) ≡ true)
    × (can_be_written (shape_site instants_table 1) (structure (member_value 2 (list (value null_element no_values)) no_member_values)) ≡ false)
unfolding smithy_query_codec_on_literals smithy_instants_on_literals
expressible = (refl, refl, refl, refl)

-- a scalar without a name, outside every list and map
pub no_nameless_scalar : run query_after (scalar_of (shape_site scalars_table 0) (whole (pos 1)) ∷ []) (fresh_state [] []) ≡ Err Unwritable
unfolding smithy_query_codec_on_literals
no_nameless_scalar = refl

-- nor a big number by its text
pub no_nameless_big_number : (run query_after (big_integer_of (shape_site big_numbers_table 0) (codes "1") ∷ []) (fresh_state [] []) ≡ Err Unwritable)
    × (run query_after (big_decimal_of (shape_site big_numbers_table 0) (codes "1") ∷ []) (fresh_state [] []) ≡ Err Unwritable)
unfolding smithy_query_codec_on_literals
no_nameless_big_number = (refl, refl)

-- an element past the greatest position, of whatever call
abbrev past_all_positions : QueryState
past_all_positions = record { out = []; prefix = []; names = []; count = 18446744073709551615; opens = open_list ∷ []; marks = [] }

pub no_element_past_all_positions : (query_after (scalar_of (shape_site scalars_table 0) (decimal (pos 1) (pos 0))) past_all_positions ≡ Err Unwritable)
    × (query_after (big_integer_of (shape_site scalars_table 0) (codes "1")) past_all_positions ≡ Err Unwritable)
    × (query_after (big_decimal_of (shape_site scalars_table 0) (codes "1")) past_all_positions ≡ Err Unwritable)
unfolding smithy_query_codec_on_literals
no_element_past_all_positions = (refl, refl, refl)

-- a number in a key's place, and the end of a map behind a key
pub no_number_as_a_key : run query_after (begin_map (member_of (shape_site items_and_entries 2) 1) None ∷ scalar_of (shape_site scalars_table 0) (whole (pos 1)) ∷ []) (fresh_state [] []) ≡ Err Unwritable
unfolding smithy_query_codec_on_literals
no_number_as_a_key = refl

pub no_big_number_as_a_key : (run query_after (begin_map (member_of (shape_site items_and_entries 2) 1) None ∷ big_integer_of (shape_site scalars_table 0) (codes "1") ∷ []) (fresh_state [] []) ≡ Err Unwritable)
    × (run query_after (begin_map (member_of (shape_site items_and_entries 2) 1) None ∷ big_decimal_of (shape_site scalars_table 0) (codes "1") ∷ []) (fresh_state [] []) ≡ Err Unwritable)
unfolding smithy_query_codec_on_literals
no_big_number_as_a_key = (refl, refl)

pub no_end_behind_a_key : run query_after (begin_map (member_of (shape_site items_and_entries 2) 1) None ∷ scalar_of (shape_site scalars_table 0) (text (codes "a")) ∷ end_map ∷ []) (fresh_state [] []) ≡ Err Unwritable
unfolding smithy_query_codec_on_literals
no_end_behind_a_key = refl

-- the names are those of the map that was begun, whatever is handed in with a key
pub names_of_the_map : run query_after (begin_map (member_of (shape_site map_of_maps 2) 0) None ∷ scalar_of (member_of (shape_site attributes 2) 0) (text (codes "p")) ∷ []) (fresh_state [] [])
    ≡ Ok (record {
      out = codes "Action=&Version=&m.entry.1.K=p";
      prefix = codes "m.entry";
      names = codes "KV";
      count = 1;
      opens = open_map_at_value ∷ [];
      marks = record { prefix_length = 0; count = 0; out_length = 16; member_length = None; names_length = 0; key_length = 1 } ∷ [];
    })
unfolding smithy_query_codec_on_literals
names_of_the_map = refl

-- ---- paths

-- a path of two segments, and one segment that is written as that
pub no_text_twice : HaveDistinctTexts (record { path = codes "a" ∷ codes "b" ∷ []; text = [] } ∷ record { path = codes "a.b" ∷ []; text = [] } ∷ []) → ⊥
no_text_twice distinct = distinct 0 1 (record { path = []; text = [] }) (omega arith) (omega arith) refl
