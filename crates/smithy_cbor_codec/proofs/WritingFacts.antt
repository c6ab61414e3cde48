-- The canonical encodings of values over small tables, what each call of a serializer adds, and how many
-- heads of arrays and maps some bytes can hold.
use Rattle.std.proofs.Common.{◌≡◌, ℕ, List, [], ◌∷◌, ◌++◌, map, true, false, Result, Ok, Err, Some, None, refl, pos, neg_ℤ, ◌^◌, ◌-◌, replicate, codes}
use Rattle.smithy_schema.specs.declared.error.SerdeError.{SerdeError}
use Rattle.smithy_schema.specs.declared.error.SerdeError.TheVariants.{Unwritable}
use Rattle.smithy_shapes.specs.Site.{Site, shape_site, site_of_member, nameless_site}
use Rattle.smithy_declarations.specs.Value as values
use Rattle.smithy_declarations.specs.Value.{whole, text, Value, no_map_entries, map_entry, null_element, no_values, no_member_values, member_value}
use Rattle.smithy_schema.specs.Writing.{begin_structure, end_structure, begin_list, end_list, begin_map, end_map, null_of, scalar_of, Open, open_structure, open_list, open_map_at_key, open_map_at_value, write, run}
use Rattle.smithy_cbor_values.specs.Openers.{cbor_openers}
use Rattle.smithy_cbor_body.specs.Codec.{strict_settings}
use Rattle.smithy_cbor_values.specs.Settings.{Settings}
use Rattle.smithy_cbor_body.specs.declared.lengths.Length.TheVariants.{Unwritten}
use Rattle.smithy_cbor_body.specs.Writing.{BodyState, fresh_body, body_after}
use Rattle.smithy_cbor_codec.proofs.Examples.{whole_value, text_value, one_long, long_renamed, one_string, three_members, map_of_longs, two_variants, lists_of_lists, lists_of_strings, nodes, long_place, plain_member, in_lists, empty_structure, first_alone, written}

-- ---- canonical encodings

-- {_ "a": 1} and {_ }, and a member under its own name, whatever its name is in JSON
pub structures : (written one_long 0 (first_alone (whole_value (pos 1))) ≡ 0xbf ∷ 0x61 ∷ 0x61 ∷ 0x01 ∷ 0xff ∷ [])
    × (written one_long 0 empty_structure ≡ 0xbf ∷ 0xff ∷ [])
    × (written long_renamed 0 (first_alone (whole_value (pos 1))) ≡ 0xbf ∷ 0x61 ∷ 0x61 ∷ 0x01 ∷ 0xff ∷ [])
structures = (refl, refl, refl)

-- -2^63 and 2^63-1
pub ends_of_long : (written one_long 0 (first_alone (whole_value (neg_ℤ (pos (2 ^ 63))))) ≡ 0xbf ∷ 0x61 ∷ 0x61 ∷ 0x3b ∷ 0x7f ∷ (replicate 7 0xff ++ 0xff ∷ []))
    × (written one_long 0 (first_alone (whole_value (pos (2 ^ 63 - 1)))) ≡ 0xbf ∷ 0x61 ∷ 0x61 ∷ 0x1b ∷ 0x7f ∷ (replicate 7 0xff ++ 0xff ∷ []))
ends_of_long = (refl, refl)

-- texts of 2, of 23 and of 24 bytes
pub texts : (written one_string 0 (first_alone (text_value (0x22 ∷ 0x0a ∷ []))) ≡ 0xbf ∷ 0x61 ∷ 0x61 ∷ 0x62 ∷ 0x22 ∷ 0x0a ∷ 0xff ∷ [])
    × (written one_string 0 (first_alone (text_value (replicate 23 0x78))) ≡ 0xbf ∷ 0x61 ∷ 0x61 ∷ 0x77 ∷ (replicate 23 0x78 ++ 0xff ∷ []))
    × (written one_string 0 (first_alone (text_value (replicate 24 0x78))) ≡ 0xbf ∷ 0x61 ∷ 0x61 ∷ 0x78 ∷ 0x18 ∷ (replicate 24 0x78 ++ 0xff ∷ []))
texts = (refl, refl, refl)

abbrev x_and_null : Value
x_and_null = values.list (values.value (text_value (codes "x")) (values.value null_element no_values))

-- [_ ] and [_ "x", null]: elements have no keys
pub lists : (written (lists_of_strings true) 0 (values.list no_values) ≡ 0x9f ∷ 0xff ∷ [])
    × (written (lists_of_strings true) 0 x_and_null ≡ 0x9f ∷ 0x61 ∷ 0x78 ∷ 0xf6 ∷ 0xff ∷ [])
    × (written (lists_of_strings true) 1 (first_alone x_and_null) ≡ 0xbf ∷ 0x61 ∷ 0x69 ∷ 0x9f ∷ 0x61 ∷ 0x78 ∷ 0xf6 ∷ 0xff ∷ 0xff ∷ [])
lists = (refl, refl, refl)

-- {_ }, {_ "a": 1, "b": null} and {_ "b": 1}: the entries of a map in the order of its keys, and a union as its one member
pub maps_and_unions : (written (map_of_longs true) 0 (values.map no_map_entries) ≡ 0xbf ∷ 0xff ∷ [])
    × (written (map_of_longs true) 0 (values.map (map_entry (codes "a") (whole_value (pos 1)) (map_entry (codes "b") null_element no_map_entries))) ≡ 0xbf ∷ 0x61 ∷ 0x61 ∷ 0x01 ∷ 0x61 ∷ 0x62 ∷ 0xf6 ∷ 0xff ∷ [])
    × (written two_variants 0 (values.union 1 (whole_value (pos 1))) ≡ 0xbf ∷ 0x61 ∷ 0x62 ∷ 0x01 ∷ 0xff ∷ [])
maps_and_unions = (refl, refl, refl)

-- {_ "a": 0, "s": "é", "i": [_ "x", "y"]}
pub all_members : written three_members 1 (values.structure (member_value 0 (whole_value (pos 0)) (member_value 1 (text_value (0xc3 ∷ 0xa9 ∷ [])) (member_value 2 (values.list (values.value (text_value (codes "x")) (values.value (text_value (codes "y")) no_values))) no_member_values))))
    ≡ 0xbf ∷ 0x61 ∷ 0x61 ∷ 0x00 ∷ 0x61 ∷ 0x73 ∷ 0x62 ∷ 0xc3 ∷ 0xa9 ∷ 0x61 ∷ 0x69 ∷ 0x9f ∷ 0x61 ∷ 0x78 ∷ 0x61 ∷ 0x79 ∷ 0xff ∷ 0xff ∷ []
all_members = refl

-- {_ "value": 1, "nodes": [_ {_ "value": 2}, {_ }]}
abbrev two_nodes : Value
two_nodes = values.structure (member_value 0 (whole_value (pos 1)) (member_value 1 (values.list (values.value (first_alone (whole_value (pos 2))) (values.value empty_structure no_values))) no_member_values))

abbrev two_nodes_bytes : List ℕ
two_nodes_bytes = 0xbf ∷ 0x65 ∷ (codes "value" ++ 0x01 ∷ 0x65 ∷ (codes "nodes" ++ 0x9f ∷ 0xbf ∷ 0x65 ∷ (codes "value" ++ 0x02 ∷ 0xff ∷ 0xbf ∷ 0xff ∷ 0xff ∷ 0xff ∷ [])))

pub inner_structures : written nodes 1 two_nodes ≡ two_nodes_bytes
inner_structures = refl

-- 127 lists in one another
pub deepest_lists : written (lists_of_lists false) 1 (first_alone (in_lists 126 (values.list no_values)))
    ≡ 0xbf ∷ 0x61 ∷ 0x6c ∷ (replicate 127 0x9f ++ (replicate 127 0xff ++ 0xff ∷ []))
deepest_lists = refl

-- ---- the calls of a serializer

abbrev made : List ℕ → List Open → Result BodyState SerdeError
made out frames = Ok (record { settings = strict_settings; out = out; frames = frames; lengths = map (λ _. Unwritten) frames })

-- what writes a value adds its canonical encoding
pub written_in_turn : (write body_after (shape_site nodes 1) two_nodes (fresh_body strict_settings) ≡ made two_nodes_bytes [])
    × (write body_after (shape_site (lists_of_strings true) 0) x_and_null (fresh_body strict_settings) ≡ made (0x9f ∷ 0x61 ∷ 0x78 ∷ 0xf6 ∷ 0xff ∷ []) [])
written_in_turn = (refl, refl)

-- the member "a", inside these containers, with nothing before it
abbrev a_site : Site
a_site = site_of_member one_long 0 (plain_member (codes "a") long_place)

abbrev inside : List Open → BodyState
inside frames = record { settings = strict_settings; out = []; frames = frames; lengths = map (λ _. Unwritten) frames }

-- a key stands in a structure alone, and not under a nameless schema
pub keys : (body_after (scalar_of a_site (whole (pos 1))) (inside (open_structure ∷ [])) ≡ made (0x61 ∷ 0x61 ∷ 0x01 ∷ []) (open_structure ∷ []))
    × (body_after (scalar_of a_site (whole (pos 1))) (inside (open_list ∷ open_structure ∷ [])) ≡ made (0x01 ∷ []) (open_list ∷ open_structure ∷ []))
    × (body_after (scalar_of a_site (whole (pos 1))) (inside []) ≡ made (0x01 ∷ []) [])
    × (body_after (scalar_of (nameless_site a_site) (whole (pos 1))) (inside (open_structure ∷ [])) ≡ made (0x01 ∷ []) (open_structure ∷ []))
keys = (refl, refl, refl, refl)

-- so it is with nulls and with what begins a container, whose length isn't written
pub keys_of_others : (body_after (null_of a_site) (inside (open_structure ∷ [])) ≡ made (0x61 ∷ 0x61 ∷ 0xf6 ∷ []) (open_structure ∷ []))
    × (body_after (begin_structure a_site) (inside (open_structure ∷ [])) ≡ made (0x61 ∷ 0x61 ∷ 0xbf ∷ []) (open_structure ∷ open_structure ∷ []))
    × (body_after (begin_list a_site (Some 2)) (inside (open_structure ∷ [])) ≡ made (0x61 ∷ 0x61 ∷ 0x9f ∷ []) (open_list ∷ open_structure ∷ []))
    × (body_after (begin_list a_site None) (inside []) ≡ made (0x9f ∷ []) (open_list ∷ []))
keys_of_others = (refl, refl, refl, refl)

-- an end is that of the innermost container
pub ends : (body_after end_structure (inside (open_structure ∷ open_list ∷ [])) ≡ made (0xff ∷ []) (open_list ∷ []))
    × (body_after end_list (inside (open_list ∷ open_structure ∷ [])) ≡ made (0xff ∷ []) (open_structure ∷ []))
    × (body_after end_structure (inside (open_list ∷ open_structure ∷ [])) ≡ Err Unwritable)
    × (body_after end_list (inside (open_structure ∷ open_list ∷ [])) ≡ Err Unwritable)
    × (body_after end_structure (inside []) ≡ Err Unwritable)
    × (body_after end_list (inside []) ≡ Err Unwritable)
ends = (refl, refl, refl, refl, refl, refl)

-- in a map a key and its value come in turn, and no name of a member; an inner container is a value, too
pub in_a_map : (body_after (scalar_of a_site (text (codes "k"))) (inside (open_map_at_key ∷ [])) ≡ made (0x61 ∷ 0x6b ∷ []) (open_map_at_value ∷ []))
    × (body_after (scalar_of a_site (text (codes "v"))) (inside (open_map_at_value ∷ [])) ≡ made (0x61 ∷ 0x76 ∷ []) (open_map_at_key ∷ []))
    × (body_after (begin_map a_site (Some 2)) (inside (open_map_at_value ∷ [])) ≡ made (0xbf ∷ []) (open_map_at_key ∷ open_map_at_key ∷ []))
    × (body_after end_map (inside (open_map_at_key ∷ [])) ≡ made (0xff ∷ []) [])
    × (body_after end_map (inside (open_map_at_value ∷ [])) ≡ Err Unwritable)
    × (body_after (scalar_of a_site (whole (pos 1))) (inside (open_map_at_key ∷ [])) ≡ Err Unwritable)
    × (body_after (begin_structure a_site) (inside (open_map_at_key ∷ [])) ≡ Err Unwritable)
    × (body_after end_structure (inside (open_map_at_key ∷ [])) ≡ Err Unwritable)
in_a_map = (refl, refl, refl, refl, refl, refl, refl, refl)

-- ---- definite lengths

abbrev definite : Settings
definite = record strict_settings { use_definite_lengths = true }

-- what the calls of a body write, where it is written whole
abbrev whole_body : List ℕ → Result BodyState SerdeError
whole_body out = Ok (record { settings = definite; out = out; frames = []; lengths = [] })

-- ["x", null], {"a": 1, "b": null} and {_ "i": ["x", null]}: lists and maps are written with their lengths, and structures are not
pub with_lengths : (write body_after (shape_site (lists_of_strings true) 0) x_and_null (fresh_body definite) ≡ whole_body (0x82 ∷ 0x61 ∷ 0x78 ∷ 0xf6 ∷ []))
    × (write body_after (shape_site (map_of_longs true) 0) (values.map (map_entry (codes "a") (whole_value (pos 1)) (map_entry (codes "b") null_element no_map_entries))) (fresh_body definite)
    ≡ whole_body (0xa2 ∷ 0x61 ∷ 0x61 ∷ 0x01 ∷ 0x61 ∷ 0x62 ∷ 0xf6 ∷ []))
    × (write body_after (shape_site (lists_of_strings true) 1) (first_alone x_and_null) (fresh_body definite) ≡ whole_body (0xbf ∷ 0x61 ∷ 0x69 ∷ 0x82 ∷ 0x61 ∷ 0x78 ∷ 0xf6 ∷ 0xff ∷ []))
with_lengths = (refl, refl, refl)

-- a list that is begun with no length has a break, and one with another number of elements can't be ended
pub other_lengths : (run body_after (begin_list a_site None ∷ null_of a_site ∷ end_list ∷ []) (fresh_body definite) ≡ whole_body (0x9f ∷ 0xf6 ∷ 0xff ∷ []))
    × (run body_after (begin_list a_site (Some 2) ∷ null_of a_site ∷ end_list ∷ []) (fresh_body definite) ≡ Err Unwritable)
    × (run body_after (begin_list a_site (Some 0) ∷ null_of a_site ∷ end_list ∷ []) (fresh_body definite) ≡ Err Unwritable)
    × (run body_after (begin_map a_site (Some 1) ∷ end_map ∷ []) (fresh_body definite) ≡ Err Unwritable)
    × (run body_after (begin_list a_site (Some 2) ∷ null_of a_site ∷ end_list ∷ []) (fresh_body strict_settings) ≡ Ok (record { settings = strict_settings; out = 0x9f ∷ 0xf6 ∷ 0xff ∷ []; frames = []; lengths = [] }))
other_lengths = (refl, refl, refl, refl, refl)

-- ---- openers

-- the first and the last of each range, and those beside them
pub ends_of_openers : map (λ b. cbor_openers (b ∷ [])) (0x00 ∷ 0x7f ∷ 0x80 ∷ 0x9b ∷ 0x9f ∷ 0xa0 ∷ 0xbb ∷ 0xbf ∷ 0xc0 ∷ 0xff ∷ [])
    ≡ 0 ∷ 0 ∷ 1 ∷ 1 ∷ 1 ∷ 1 ∷ 1 ∷ 1 ∷ 0 ∷ 0 ∷ []
ends_of_openers = refl

-- in a text and in a number they count as well, and an end takes none away
pub openers_anywhere : map cbor_openers ([] ∷ (0x62 ∷ 0xc2 ∷ 0x80 ∷ []) ∷ (0x18 ∷ 0x80 ∷ []) ∷ (0x9f ∷ 0xff ∷ 0x9f ∷ 0xff ∷ []) ∷ [])
    ≡ 0 ∷ 1 ∷ 1 ∷ 2 ∷ []
openers_anywhere = refl

-- {_ "l": lists in one another}: 127 of them, and 128
pub openers_of_lists : map (λ n. cbor_openers (0xbf ∷ 0x61 ∷ 0x6c ∷ (replicate n 0x81 ++ 0x80 ∷ 0xff ∷ []))) (126 ∷ 127 ∷ [])
    ≡ 128 ∷ 129 ∷ []
openers_of_lists = refl
