-- What items mean over small tables, by computing, and what stands close by and means nothing.
use Rattle.std.proofs.Common.{◌≡◌, ℕ, Option, List, [], ◌∷◌, map, replicate, true, false, Some, None, refl, pos, neg_ℤ, ◌^◌, ◌-◌, codes}
use Rattle.smithy_declarations.specs.Value as values
use Rattle.smithy_declarations.specs.Value.{Value, MapEntries, no_map_entries, map_entry, null_element, no_values, no_member_values, member_value}
use Rattle.cbor_item.specs.Item.{definite, indefinite, Item, unsigned, negative, byte_string, array, map as map_item, tag, simple, float, no_items, no_pairs, pair}
use Rattle.smithy_cbor_values.specs.Meaning.{cbor_meaning}
use Rattle.smithy_cbor_codec.proofs.OnLiterals.{smithy_cbor_codec_on_literals}
use Rattle.smithy_cbor_codec.proofs.Examples.{whole_value, text_value, one_long, long_renamed, accented, one_string, three_members, map_of_longs, two_variants, type_variant, lists_of_lists, lists_of_strings, nodes, long_place, string_place, a_text, chunked, null, undefined, an_array, a_map, items_of, alone, both, in_arrays, in_lists, empty_structure, first_alone, strict, means_at, would_mean_at, means_within}

-- ---- members of a structure

-- {"a": 1} and {_ "a": 1}
pub either_length : map (means_at one_long 0) (alone (codes "a") (unsigned 1) ∷ map_item indefinite (pair (a_text (codes "a")) (unsigned 1) no_pairs) ∷ [])
    ≡ Some (first_alone (whole_value (pos 1))) ∷ Some (first_alone (whole_value (pos 1))) ∷ []
unfolding smithy_cbor_codec_on_literals
either_length = refl

-- {"a": 1, "a": 2} and {"a": 2, "a": 1}
pub last_member_counts : map (means_at one_long 0) (both (codes "a") (unsigned 1) (codes "a") (unsigned 2) ∷ both (codes "a") (unsigned 2) (codes "a") (unsigned 1) ∷ [])
    ≡ Some (first_alone (whole_value (pos 2))) ∷ Some (first_alone (whole_value (pos 1))) ∷ []
unfolding smithy_cbor_codec_on_literals
last_member_counts = refl

-- {"a": 1, "a": null} and {"a": null, "a": 1}
pub null_clears_nothing : map (means_at one_long 0) (both (codes "a") (unsigned 1) (codes "a") null ∷ both (codes "a") null (codes "a") (unsigned 1) ∷ [])
    ≡ Some (first_alone (whole_value (pos 1))) ∷ Some (first_alone (whole_value (pos 1))) ∷ []
unfolding smithy_cbor_codec_on_literals
null_clears_nothing = refl

-- each of equal members has to be a value: {"a": "x", "a": 1}, {"a": 1, "a": "x"}, {"a": 1, "a": undefined}
pub each_member_counts : map (means_at one_long 0) (both (codes "a") (a_text (codes "x")) (codes "a") (unsigned 1) ∷ both (codes "a") (unsigned 1) (codes "a") (a_text (codes "x")) ∷ both (codes "a") (unsigned 1) (codes "a") undefined ∷ [])
    ≡ None ∷ None ∷ None ∷ []
unfolding smithy_cbor_codec_on_literals
each_member_counts = refl

-- {"a": null}, {}, {_ }, {"z": null}, {"z": 1}, {"A": 1}, {"aa": 1}, {"": 1}: a name is met whole and in its case
pub no_member_at_all : map (means_at one_long 0) (alone (codes "a") null ∷ a_map [] ∷ map_item indefinite no_pairs ∷ alone (codes "z") null ∷ alone (codes "z") (unsigned 1) ∷ alone (codes "A") (unsigned 1) ∷ alone (codes "aa") (unsigned 1) ∷ alone [] (unsigned 1) ∷ [])
    ≡ replicate 8 (Some empty_structure)
unfolding smithy_cbor_codec_on_literals
no_member_at_all = refl

-- a member goes by its own name, whatever its name is in JSON: {"a": 1} and {"A": 1}
pub own_names : map (means_at long_renamed 0) (alone (codes "a") (unsigned 1) ∷ alone (codes "A") (unsigned 1) ∷ [])
    ≡ Some (first_alone (whole_value (pos 1))) ∷ Some empty_structure ∷ []
unfolding smithy_cbor_codec_on_literals
own_names = refl

-- undefined is no null: {"a": undefined}, and {"z": undefined}, which is skipped
pub undefined_member : map (means_at one_long 0) (alone (codes "a") undefined ∷ alone (codes "z") undefined ∷ [])
    ≡ None ∷ Some empty_structure ∷ []
unfolding smithy_cbor_codec_on_literals
undefined_member = refl

-- under an unknown key stands any item: a text that isn't UTF-8, also in chunks, a byte string, a float, a
-- simple value, a tag, keys that are no texts, and arrays in one another
pub skipped_items : map (means_at one_long 0) (map (λ i. both (codes "z") i (codes "a") (unsigned 1)) (a_text (0xff ∷ []) ∷ chunked ((0xc3 ∷ []) ∷ (0xa9 ∷ []) ∷ []) ∷ byte_string definite ((0xff ∷ []) ∷ []) ∷ float (0x7e ∷ 0x00 ∷ []) ∷ simple 32 ∷ tag 1 (float (replicate 8 0)) ∷ a_map ((unsigned 1, null) ∷ (undefined, unsigned 2) ∷ []) ∷ in_arrays 200 null ∷ []))
    ≡ replicate 8 (Some (first_alone (whole_value (pos 1))))
unfolding smithy_cbor_codec_on_literals
skipped_items = refl

-- null, undefined, true, 1, "a", h'', [], [{}] and 55799({}) are no structures
pub no_structures : map (means_at one_long 0) (null ∷ undefined ∷ simple 21 ∷ unsigned 1 ∷ a_text (codes "a") ∷ byte_string definite ([] ∷ []) ∷ an_array [] ∷ an_array (a_map [] ∷ []) ∷ tag 55799 (a_map []) ∷ [])
    ≡ replicate 9 None
unfolding smithy_cbor_codec_on_literals
no_structures = refl

-- ---- keys

-- a key may come in chunks: (_ "a"), (_ "", "a"), and (_ ), which is empty and names nothing
pub chunked_keys : map (λ k. means_at one_long 0 (a_map ((k, unsigned 1) ∷ []))) (chunked (codes "a" ∷ []) ∷ chunked ([] ∷ codes "a" ∷ []) ∷ chunked [] ∷ [])
    ≡ Some (first_alone (whole_value (pos 1))) ∷ Some (first_alone (whole_value (pos 1))) ∷ Some empty_structure ∷ []
unfolding smithy_cbor_codec_on_literals
chunked_keys = refl

-- each chunk is UTF-8 by itself: "é" in one chunk, and its two bytes in a chunk each
pub accented_keys : map (λ k. means_at accented 0 (a_map ((k, unsigned 1) ∷ []))) (a_text (0xc3 ∷ 0xa9 ∷ []) ∷ chunked ((0xc3 ∷ 0xa9 ∷ []) ∷ []) ∷ chunked ((0xc3 ∷ []) ∷ (0xa9 ∷ []) ∷ []) ∷ [])
    ≡ Some (first_alone (whole_value (pos 1))) ∷ Some (first_alone (whole_value (pos 1))) ∷ None ∷ []
unfolding smithy_cbor_codec_on_literals
accented_keys = refl

-- keys that are no texts: 97, h'61', null, ["a"], 0("a"), and texts that aren't UTF-8
abbrev keys_without_text : List Item
keys_without_text = unsigned 0x61 ∷ byte_string definite (codes "a" ∷ []) ∷ null ∷ an_array (a_text (codes "a") ∷ []) ∷ tag 0 (a_text (codes "a")) ∷ a_text (0xff ∷ []) ∷ chunked (codes "a" ∷ (0xff ∷ []) ∷ []) ∷ []

-- no value stands beside one, whether its own value is a null or not, and lifting the limits changes nothing
pub key_without_text : map (λ k. means_at one_long 0 (a_map ((k, null) ∷ []))) keys_without_text ≡ replicate 7 None
unfolding smithy_cbor_codec_on_literals
key_without_text = refl

pub key_without_text_beside : map (λ k. means_at one_long 0 (a_map ((a_text (codes "a"), unsigned 1) ∷ (k, unsigned 1) ∷ []))) keys_without_text ≡ replicate 7 None
unfolding smithy_cbor_codec_on_literals
key_without_text_beside = refl

pub key_without_text_lifted : map (λ k. would_mean_at one_long 0 (a_map ((k, null) ∷ []))) keys_without_text ≡ replicate 7 None
unfolding smithy_cbor_codec_on_literals
key_without_text_lifted = refl

-- ---- whole numbers

-- 0, 2^63-1, -1 and -2^63
pub whole_numbers : map (cbor_meaning strict one_long long_place 0) (unsigned 0 ∷ unsigned (2 ^ 63 - 1) ∷ negative 0 ∷ negative (2 ^ 63 - 1) ∷ [])
    ≡ Some (whole_value (pos 0)) ∷ Some (whole_value (pos (2 ^ 63 - 1))) ∷ Some (whole_value (neg_ℤ (pos 1))) ∷ Some (whole_value (neg_ℤ (pos (2 ^ 63)))) ∷ []
whole_numbers = refl

-- 2^63, 2^64-1, -2^63-1 and -2^64; the width isn't a limit that is lifted
pub out_of_range : (map (λ i. means_at one_long 0 (alone (codes "a") i)) (unsigned (2 ^ 63) ∷ unsigned (2 ^ 64 - 1) ∷ negative (2 ^ 63) ∷ negative (2 ^ 64 - 1) ∷ []) ≡ replicate 4 None)
    × (map (λ i. would_mean_at one_long 0 (alone (codes "a") i)) (unsigned (2 ^ 63) ∷ unsigned (2 ^ 64 - 1) ∷ negative (2 ^ 63) ∷ negative (2 ^ 64 - 1) ∷ []) ≡ replicate 4 None)
unfolding smithy_cbor_codec_on_literals
out_of_range = (refl, refl)

-- null, undefined, false, "1", h'01', 1.0, 2(h'01'), 0(1), [1] and {} are no whole numbers
pub no_longs : map (cbor_meaning strict one_long long_place 0) (null ∷ undefined ∷ simple 20 ∷ a_text (codes "1") ∷ byte_string definite ((1 ∷ []) ∷ []) ∷ float (0x3c ∷ 0x00 ∷ []) ∷ tag 2 (byte_string definite ((1 ∷ []) ∷ [])) ∷ tag 0 (unsigned 1) ∷ an_array (unsigned 1 ∷ []) ∷ a_map [] ∷ [])
    ≡ replicate 10 None
unfolding smithy_cbor_codec_on_literals
no_longs = refl

-- ---- texts

-- "", (_ ), "hi", (_ "h", "i"), a quotation mark with a line feed, and "é" in one chunk
pub texts : map (cbor_meaning strict one_string string_place 0) (a_text [] ∷ chunked [] ∷ a_text (codes "hi") ∷ chunked (codes "h" ∷ codes "i" ∷ []) ∷ a_text (0x22 ∷ 0x0a ∷ []) ∷ chunked (codes "h" ∷ (0xc3 ∷ 0xa9 ∷ []) ∷ []) ∷ [])
    ≡ Some (text_value []) ∷ Some (text_value []) ∷ Some (text_value (codes "hi")) ∷ Some (text_value (codes "hi")) ∷ Some (text_value (0x22 ∷ 0x0a ∷ [])) ∷ Some (text_value (0x68 ∷ 0xc3 ∷ 0xa9 ∷ [])) ∷ []
unfolding smithy_cbor_codec_on_literals
texts = refl

-- ff, an overlong slash, a surrogate, "é" cut off, and cut into two chunks
pub no_utf8 : map (cbor_meaning strict one_string string_place 0) (a_text (0xff ∷ []) ∷ a_text (0xc0 ∷ 0xaf ∷ []) ∷ a_text (0xed ∷ 0xa0 ∷ 0x80 ∷ []) ∷ a_text (0xc3 ∷ []) ∷ chunked ((0xc3 ∷ []) ∷ (0xa9 ∷ []) ∷ []) ∷ [])
    ≡ replicate 5 None
unfolding smithy_cbor_codec_on_literals
no_utf8 = refl

-- null, undefined, true, 1, h'61', 0("a"), ["a"] and {} are no texts
pub no_texts : map (cbor_meaning strict one_string string_place 0) (null ∷ undefined ∷ simple 21 ∷ unsigned 1 ∷ byte_string definite (codes "a" ∷ []) ∷ tag 0 (a_text (codes "a")) ∷ an_array (a_text (codes "a") ∷ []) ∷ a_map [] ∷ [])
    ≡ replicate 8 None
unfolding smithy_cbor_codec_on_literals
no_texts = refl

-- ---- lists

-- ["x", "y"], [_ "x", "y"], [] and [_ ]
pub elements : map (means_at (lists_of_strings false) 0) (an_array (a_text (codes "x") ∷ a_text (codes "y") ∷ []) ∷ array indefinite (items_of (a_text (codes "x") ∷ a_text (codes "y") ∷ [])) ∷ an_array [] ∷ array indefinite no_items ∷ [])
    ≡ Some (values.list (values.value (text_value (codes "x")) (values.value (text_value (codes "y")) no_values))) ∷ Some (values.list (values.value (text_value (codes "x")) (values.value (text_value (codes "y")) no_values))) ∷ Some (values.list no_values) ∷ Some (values.list no_values) ∷ []
unfolding smithy_cbor_codec_on_literals
elements = refl

-- a null stands in a sparse list alone
pub null_elements : map (λ is_sparse. means_at (lists_of_strings is_sparse) 0 (an_array (null ∷ a_text (codes "x") ∷ []))) (true ∷ false ∷ [])
    ≡ Some (values.list (values.value null_element (values.value (text_value (codes "x")) no_values))) ∷ None ∷ []
unfolding smithy_cbor_codec_on_literals
null_elements = refl

-- nothing else stands for one: undefined, 1, and a text that isn't UTF-8
pub no_elements_here : map (λ i. means_at (lists_of_strings true) 0 (an_array (i ∷ []))) (undefined ∷ unsigned 1 ∷ a_text (0xff ∷ []) ∷ [])
    ≡ replicate 3 None
unfolding smithy_cbor_codec_on_literals
no_elements_here = refl

-- null, {}, {0: "x"}, "x" and 1("x") are no lists
pub no_lists : map (means_at (lists_of_strings true) 0) (null ∷ a_map [] ∷ a_map ((unsigned 0, a_text (codes "x")) ∷ []) ∷ a_text (codes "x") ∷ tag 1 (an_array []) ∷ [])
    ≡ replicate 5 None
unfolding smithy_cbor_codec_on_literals
no_lists = refl

-- {"i": ["x", "y"], "s": "é", "a": 0}, whose members come in the table's order
pub members_in_order : means_at three_members 1 (a_map ((a_text (codes "i"), an_array (a_text (codes "x") ∷ a_text (codes "y") ∷ [])) ∷ (a_text (codes "s"), a_text (0xc3 ∷ 0xa9 ∷ [])) ∷ (a_text (codes "a"), unsigned 0) ∷ []))
    ≡ Some (values.structure (member_value 0 (whole_value (pos 0)) (member_value 1 (text_value (0xc3 ∷ 0xa9 ∷ [])) (member_value 2 (values.list (values.value (text_value (codes "x")) (values.value (text_value (codes "y")) no_values))) no_member_values))))
unfolding smithy_cbor_codec_on_literals
members_in_order = refl

-- an array where a structure is due, and a map where a list is: {"nodes": [[]]}, {"nodes": {}}
pub other_containers : map (means_at nodes 1) (alone (codes "nodes") (an_array (an_array [] ∷ [])) ∷ alone (codes "nodes") (a_map []) ∷ alone (codes "nodes") (an_array (a_map [] ∷ [])) ∷ [])
    ≡ None ∷ None ∷ Some (values.structure (member_value 1 (values.list (values.value empty_structure no_values)) no_member_values)) ∷ []
unfolding smithy_cbor_codec_on_literals
other_containers = refl

-- ---- maps

abbrev entries_of : List (List ℕ × Value) → MapEntries
entries_of [] = no_map_entries
entries_of (e ∷ es) = map_entry e.0 e.1 (entries_of es)

abbrev map_value : List (List ℕ × Value) → Option Value
map_value es = Some (values.map (entries_of es))

-- {"b": 1, "a": 2}, {_ "a": 1, "a": 2}, {"__type": 1} and {}: by key in the order of its bytes, and the last of equal keys
pub entries : map (means_at (map_of_longs false) 0) (both (codes "b") (unsigned 1) (codes "a") (unsigned 2) ∷ map_item indefinite (pair (a_text (codes "a")) (unsigned 1) (pair (a_text (codes "a")) (unsigned 2) no_pairs)) ∷ alone (codes "__type") (unsigned 1) ∷ a_map [] ∷ [])
    ≡ map_value ((codes "a", whole_value (pos 2)) ∷ (codes "b", whole_value (pos 1)) ∷ []) ∷ map_value ((codes "a", whole_value (pos 2)) ∷ []) ∷ map_value ((codes "__type", whole_value (pos 1)) ∷ []) ∷ map_value [] ∷ []
unfolding smithy_cbor_codec_on_literals
entries = refl

-- a null stands in a sparse map alone
pub null_entries : map (λ is_sparse. means_at (map_of_longs is_sparse) 0 (alone (codes "a") null)) (true ∷ false ∷ [])
    ≡ map_value ((codes "a", null_element) ∷ []) ∷ None ∷ []
unfolding smithy_cbor_codec_on_literals
null_entries = refl

-- each of equal keys has to stand for a value, and each key is a text: {"a": "x", "a": 1}, {0: 1}, {h'61': 1}
pub no_entries : map (means_at (map_of_longs true) 0) (both (codes "a") (a_text (codes "x")) (codes "a") (unsigned 1) ∷ a_map ((unsigned 0, unsigned 1) ∷ []) ∷ a_map ((byte_string definite (codes "a" ∷ []), unsigned 1) ∷ []) ∷ an_array [] ∷ null ∷ [])
    ≡ replicate 5 None
unfolding smithy_cbor_codec_on_literals
no_entries = refl

-- ---- unions, and marks

-- {"b": 1}, {"z": null, "b": 1} and {"__type": [], "b": 1}
pub variants : map (means_at two_variants 0) (alone (codes "b") (unsigned 1) ∷ both (codes "z") null (codes "b") (unsigned 1) ∷ both (codes "__type") (an_array []) (codes "b") (unsigned 1) ∷ [])
    ≡ replicate 3 (Some (values.union 1 (whole_value (pos 1))))
unfolding smithy_cbor_codec_on_literals
variants = refl

-- {}, {"a": null}, {"a": 1, "b": 1}, {"a": 1, "a": 1}, {"z": 1, "a": 1}, {"z": 1} and {"__type": 1}
pub no_variants : map (means_at two_variants 0) (a_map [] ∷ alone (codes "a") null ∷ both (codes "a") (unsigned 1) (codes "b") (unsigned 1) ∷ both (codes "a") (unsigned 1) (codes "a") (unsigned 1) ∷ both (codes "z") (unsigned 1) (codes "a") (unsigned 1) ∷ alone (codes "z") (unsigned 1) ∷ alone (codes "__type") (unsigned 1) ∷ [])
    ≡ replicate 7 None
unfolding smithy_cbor_codec_on_literals
no_variants = refl

-- {"__type": 1}, where it names a member, and of a structure, where it names none
pub types : (means_at type_variant 0 (alone (codes "__type") (unsigned 1)) ≡ Some (values.union 0 (whole_value (pos 1))))
    × (means_at one_long 0 (both (codes "__type") (unsigned 1) (codes "a") (unsigned 1)) ≡ Some (first_alone (whole_value (pos 1))))
unfolding smithy_cbor_codec_on_literals
types = (refl, refl)

-- ---- depth

-- the structure has depth 1, so that 127 lists stand in it, and 128 where the limits are lifted
pub depths : (map (λ n. means_at (lists_of_lists false) 1 (alone (codes "l") (in_arrays n (an_array [])))) (126 ∷ 127 ∷ []) ≡ Some (first_alone (in_lists 126 (values.list no_values))) ∷ None ∷ [])
    × (would_mean_at (lists_of_lists false) 1 (alone (codes "l") (in_arrays 127 (an_array []))) ≡ Some (first_alone (in_lists 127 (values.list no_values))))
unfolding smithy_cbor_codec_on_literals
depths = (refl, refl)

-- a null in the deepest list doesn't count, nor does a number
pub scalar_depths : (means_at (lists_of_lists true) 1 (alone (codes "l") (in_arrays 127 null)) ≡ Some (first_alone (in_lists 127 null_element)))
    × (means_at (lists_of_lists true) 1 (alone (codes "l") (in_arrays 128 null)) ≡ None)
unfolding smithy_cbor_codec_on_literals
scalar_depths = (refl, refl)

-- what is skipped doesn't count: under an unknown key in the deepest structure that may stand
pub skipped_depths : (means_within 1 one_long 0 (alone (codes "z") (in_arrays 9 null)) ≡ Some empty_structure)
    × (means_within 3 nodes 1 (alone (codes "nodes") (an_array (alone (codes "z") (in_arrays 9 null) ∷ []))) ≡ Some (values.structure (member_value 1 (values.list (values.value empty_structure no_values)) no_member_values)))
    × (means_within 2 nodes 1 (alone (codes "nodes") (an_array (a_map [] ∷ []))) ≡ None)
    × (means_within 0 one_long 0 (a_map []) ≡ None)
unfolding smithy_cbor_codec_on_literals
skipped_depths = (refl, refl, refl, refl)
