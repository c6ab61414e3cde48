-- What JSON values mean over small tables, by computing, and what stands close by and means nothing, with the
-- examples of the protocol pages.
use Rattle.std.proofs.Common.{◌≡◌, [], ◌∷◌, map, true, false, Some, None, refl, pos, codes}
use Rattle.std.specs.Char.{encode_utf8}
use Rattle.smithy_declarations.specs.Value as values
use Rattle.smithy_declarations.specs.Value.{null_element, no_values, no_member_values, member_value}
use Rattle.smithy_json_grammar.specs.Unescape.{code_unit}
use Rattle.smithy_json_grammar.specs.Tree.{null, boolean, number, string, array, object, no_elements, element, no_members, member, nesting}
use Rattle.smithy_json_codec.proofs.Examples.{whole_value, text_value, one_long, long_renamed, names_swapped, lists_of_lists, lists_of_strings, nodes, alone, both, in_arrays, in_objects, in_lists, empty_structure, first_alone, means_at, means_by_json_name, would_mean_at, means_within}

-- ---- members of a structure

-- {"a":1,"a":2} and {"a":2,"a":1}
pub last_member_counts : map (means_at one_long 0) (both (codes "a") (number (codes "1")) (codes "a") (number (codes "2")) ∷ both (codes "a") (number (codes "2")) (codes "a") (number (codes "1")) ∷ [])
    ≡ Some (first_alone (whole_value (pos 2))) ∷ Some (first_alone (whole_value (pos 1))) ∷ []
last_member_counts = refl

-- {"a":1,"a":null} and {"a":null,"a":1}
pub null_clears_nothing : map (means_at one_long 0) (both (codes "a") (number (codes "1")) (codes "a") null ∷ both (codes "a") null (codes "a") (number (codes "1")) ∷ [])
    ≡ Some (first_alone (whole_value (pos 1))) ∷ Some (first_alone (whole_value (pos 1))) ∷ []
null_clears_nothing = refl

-- {"z":["\ud800",1.5],"a":1,"a":null,"\u0061":2}, whose last key is escaped
pub key_is_unescaped : means_at one_long 0 (object (member (codes "z") (array (element (string (codes "\\ud800")) (element (number (codes "1.5")) no_elements))) (member (codes "a") (number (codes "1")) (member (codes "a") null (member (codes "\\u0061") (number (codes "2")) no_members)))))
    ≡ Some (first_alone (whole_value (pos 2)))
unfolding encode_utf8 code_unit
key_is_unescaped = refl

-- each of equal members has to be a value: {"a":"x","a":1}, {"a":1,"a":"x"}
pub each_member_counts : map (means_at one_long 0) (both (codes "a") (string (codes "x")) (codes "a") (number (codes "1")) ∷ both (codes "a") (number (codes "1")) (codes "a") (string (codes "x")) ∷ [])
    ≡ None ∷ None ∷ []
each_member_counts = refl

-- {"a":null}, {}, {"z":null}, {"z":1}, {"A":1}, {"aa":1}, {"":1}: a name is met whole and in its case
pub no_member_at_all : map (means_at one_long 0) (alone (codes "a") null ∷ object no_members ∷ alone (codes "z") null ∷ alone (codes "z") (number (codes "1")) ∷ alone (codes "A") (number (codes "1")) ∷ alone (codes "aa") (number (codes "1")) ∷ alone [] (number (codes "1")) ∷ [])
    ≡ Some empty_structure ∷ Some empty_structure ∷ Some empty_structure ∷ Some empty_structure ∷ Some empty_structure ∷ Some empty_structure ∷ Some empty_structure ∷ []
no_member_at_all = refl

-- null, true, 1, "a", [] and [{}] are no structures
pub no_structures : map (means_at one_long 0) (null ∷ boolean true ∷ number (codes "1") ∷ string (codes "a") ∷ array no_elements ∷ array (element (object no_members) no_elements) ∷ [])
    ≡ None ∷ None ∷ None ∷ None ∷ None ∷ None ∷ []
no_structures = refl

-- ---- keys without a text

-- {"\ud800":null}, {"\udc00":1}, {"\ud800":1,"a":1}
pub key_without_text : map (means_at one_long 0) (alone (codes "\\ud800") null ∷ alone (codes "\\udc00") (number (codes "1")) ∷ both (codes "\\ud800") (number (codes "1")) (codes "a") (number (codes "1")) ∷ [])
    ≡ None ∷ None ∷ None ∷ []
unfolding code_unit
key_without_text = refl

-- nor with the limits lifted
pub key_without_text_lifted : map (would_mean_at one_long 0) (alone (codes "\\ud800") null ∷ alone (codes "\\udc00") (number (codes "1")) ∷ [])
    ≡ None ∷ None ∷ []
unfolding code_unit
key_without_text_lifted = refl

-- {"\ud83d\ude00":1}, a text, and {"z":{"\ud800":"\udc00"}}, where what is skipped is free
pub key_with_text : map (means_at one_long 0) (alone (codes "\\ud83d\\ude00") (number (codes "1")) ∷ alone (codes "z") (alone (codes "\\ud800") (string (codes "\\udc00"))) ∷ [])
    ≡ Some empty_structure ∷ Some empty_structure ∷ []
unfolding encode_utf8 code_unit
key_with_text = refl

-- ---- depth of what is skipped

-- a scalar, an empty array, and 127 of them in one another
pub nestings : map nesting (number (codes "1") ∷ array no_elements ∷ object no_members ∷ in_arrays 127 null ∷ in_objects 2 (array no_elements) ∷ [])
    ≡ 0 ∷ 1 ∷ 1 ∷ 127 ∷ 3 ∷ []
nestings = refl

-- {"z":..} with 127 arrays and 128, with 127 objects and 128
pub skipped_depth : map (means_at one_long 0) (alone (codes "z") (in_arrays 127 (number (codes "1"))) ∷ alone (codes "z") (in_arrays 128 (number (codes "1"))) ∷ alone (codes "z") (in_objects 127 null) ∷ alone (codes "z") (in_objects 128 null) ∷ [])
    ≡ Some empty_structure ∷ None ∷ Some empty_structure ∷ None ∷ []
skipped_depth = refl

-- the same with the limits lifted
pub skipped_depth_lifted : map (would_mean_at one_long 0) (alone (codes "z") (in_arrays 128 (number (codes "1"))) ∷ alone (codes "z") (in_objects 128 null) ∷ [])
    ≡ Some empty_structure ∷ Some empty_structure ∷ []
skipped_depth_lifted = refl

-- one level further in, in {"nodes":[{"z":..}]}, 125 arrays may stand and 126 may not
pub skipped_depth_inside : map (λ n. means_at nodes 1 (alone (codes "nodes") (array (element (alone (codes "z") (in_arrays n null)) no_elements)))) (125 ∷ 126 ∷ [])
    ≡ Some (values.structure (member_value 1 (values.list (values.value empty_structure no_values)) no_member_values)) ∷ None ∷ []
skipped_depth_inside = refl

-- where 1 container may stand: {"z":1}, {"z":[]}; where none may: {}
pub small_depths : (map (means_within 1 one_long 0) (alone (codes "z") (number (codes "1")) ∷ alone (codes "z") (array no_elements) ∷ []) ≡ Some empty_structure ∷ None ∷ [])
    × (means_within 0 one_long 0 (object no_members) ≡ None)
small_depths = (refl, refl)

-- ---- lists

-- {"i":["x","y"]}, {"i":[]}
pub lists : map (means_at (lists_of_strings false) 1) (alone (codes "i") (array (element (string (codes "x")) (element (string (codes "y")) no_elements))) ∷ alone (codes "i") (array no_elements) ∷ [])
    ≡ Some (first_alone (values.list (values.value (text_value (codes "x")) (values.value (text_value (codes "y")) no_values)))) ∷ Some (first_alone (values.list no_values)) ∷ []
lists = refl

-- {"i":["x",1]}, {"i":{}}, {"i":"x"}
pub no_lists : map (λ x. means_at (lists_of_strings true) 1 (alone (codes "i") x)) (array (element (string (codes "x")) (element (number (codes "1")) no_elements)) ∷ object no_members ∷ string (codes "x") ∷ [])
    ≡ None ∷ None ∷ None ∷ []
no_lists = refl

-- {"i":[null,"x",null]} in a sparse list, and in another
pub null_elements : map (λ is_sparse. means_at (lists_of_strings is_sparse) 1 (alone (codes "i") (array (element null (element (string (codes "x")) (element null no_elements)))))) (true ∷ false ∷ [])
    ≡ Some (first_alone (values.list (values.value null_element (values.value (text_value (codes "x")) (values.value null_element no_values))))) ∷ None ∷ []
null_elements = refl

-- {"l":[[null],null]} in sparse lists of lists and in others; lifting the limits makes no null an element
pub null_lists : (means_at (lists_of_lists true) 1 (alone (codes "l") (array (element (in_arrays 1 null) (element null no_elements))))
    ≡ Some (first_alone (values.list (values.value (in_lists 1 null_element) (values.value null_element no_values)))))
    × (would_mean_at (lists_of_lists false) 1 (alone (codes "l") (array (element (in_arrays 1 null) (element null no_elements)))) ≡ None)
null_lists = (refl, refl)

-- {"l":..} with 127 lists in one another, and with 128
pub depth_of_lists : map (λ n. means_at (lists_of_lists false) 1 (alone (codes "l") (in_arrays n (array no_elements)))) (126 ∷ 127 ∷ [])
    ≡ Some (first_alone (in_lists 126 (values.list no_values))) ∷ None ∷ []
depth_of_lists = refl

-- the same value with the limits lifted, and one where there was none
pub depth_of_lists_lifted : map (λ n. would_mean_at (lists_of_lists false) 1 (alone (codes "l") (in_arrays n (array no_elements)))) (126 ∷ 127 ∷ 200 ∷ [])
    ≡ Some (first_alone (in_lists 126 (values.list no_values))) ∷ Some (first_alone (in_lists 127 (values.list no_values))) ∷ Some (first_alone (in_lists 200 (values.list no_values))) ∷ []
depth_of_lists_lifted = refl

-- a list alone, where 3 containers may stand
pub small_lists : map (λ n. means_within 3 (lists_of_lists false) 0 (in_arrays n (array no_elements))) (2 ∷ 3 ∷ [])
    ≡ Some (in_lists 2 (values.list no_values)) ∷ None ∷ []
small_lists = refl

-- a scalar takes no depth: 127 lists around a null, and 128
pub scalars_take_no_depth : map (λ n. means_at (lists_of_lists true) 1 (alone (codes "l") (in_arrays n null))) (127 ∷ 128 ∷ [])
    ≡ Some (first_alone (in_lists 127 null_element)) ∷ None ∷ []
scalars_take_no_depth = refl

-- ---- names

-- {"A":1,"a":2}, where `a` has the JSON name `A`: by JSON names and by member names
pub by_name : (means_by_json_name long_renamed 0 (both (codes "A") (number (codes "1")) (codes "a") (number (codes "2"))) ≡ Some (first_alone (whole_value (pos 1))))
    × (means_at long_renamed 0 (both (codes "A") (number (codes "1")) (codes "a") (number (codes "2"))) ≡ Some (first_alone (whole_value (pos 2))))
by_name = (refl, refl)

-- a member without a JSON name goes by its own
pub own_name : means_by_json_name one_long 0 (alone (codes "a") (number (codes "1"))) ≡ Some (first_alone (whole_value (pos 1)))
own_name = refl

-- {"a":1,"b":"x"}, where each has the JSON name of the other
pub swapped_names : (means_at names_swapped 0 (both (codes "a") (number (codes "1")) (codes "b") (string (codes "x"))) ≡ Some (values.structure (member_value 0 (whole_value (pos 1)) (member_value 1 (text_value (codes "x")) no_member_values))))
    × (means_by_json_name names_swapped 0 (both (codes "a") (number (codes "1")) (codes "b") (string (codes "x"))) ≡ None)
    × (means_by_json_name names_swapped 0 (both (codes "a") (string (codes "x")) (codes "b") (number (codes "1"))) ≡ Some (values.structure (member_value 0 (whole_value (pos 1)) (member_value 1 (text_value (codes "x")) no_member_values))))
swapped_names = (refl, refl, refl)
