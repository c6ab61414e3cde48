-- What JSON objects mean as unions and as maps, and the canonical texts of these, by computing.
use Rattle.std.proofs.Common.{◌≡◌, [], ◌∷◌, map, Bool, true, false, Some, None, refl, pos, codes}
use Rattle.std.specs.Fmt.{digits}
use Rattle.smithy_declarations.specs.Table as table
use Rattle.smithy_declarations.specs.Table.{Table}
use Rattle.smithy_declarations.specs.Value as values
use Rattle.smithy_declarations.specs.Value.{null_element, no_map_entries, map_entry}
use Rattle.smithy_json_grammar.specs.Unescape.{code_unit}
use Rattle.smithy_json_grammar.specs.Tree.{null, number, string, array, object, no_elements, no_members, member}
use Rattle.smithy_json_codec.proofs.Examples.{whole_value, text_value, long_place, string_place, plain_member, named, one_long, alone, both, in_arrays, empty_structure, means_at, would_mean_at, written, rewritten}

-- union U / member a long / member b string
abbrev one_union : Table
one_union = named (codes "U") (table.union (plain_member (codes "a") long_place ∷ plain_member (codes "b") string_place ∷ [])) ∷ []

-- map M long, sparse or not
abbrev one_map : Bool → Table
one_map is_sparse = named (codes "M") (table.map (record { place = long_place; is_sparse = is_sparse; key_name = None; value_name = None })) ∷ []

-- ---- unions

-- {"b":"x"}, {"z":null,"a":1}, {"b":null,"a":1}
pub one_member : map (means_at one_union 0) (alone (codes "b") (string (codes "x")) ∷ both (codes "z") null (codes "a") (number (codes "1")) ∷ both (codes "b") null (codes "a") (number (codes "1")) ∷ [])
    ≡ Some (values.union 1 (text_value (codes "x"))) ∷ Some (values.union 0 (whole_value (pos 1))) ∷ Some (values.union 0 (whole_value (pos 1))) ∷ []
one_member = refl

-- {}, {"z":1}, {"a":1,"b":"x"}, {"a":1,"a":1}, {"z":1,"a":1}, {"a":"x"}, null, []
pub no_unions : map (means_at one_union 0) (object no_members ∷ alone (codes "z") (number (codes "1")) ∷ both (codes "a") (number (codes "1")) (codes "b") (string (codes "x")) ∷ both (codes "a") (number (codes "1")) (codes "a") (number (codes "1")) ∷ both (codes "z") (number (codes "1")) (codes "a") (number (codes "1")) ∷ alone (codes "a") (string (codes "x")) ∷ null ∷ array no_elements ∷ [])
    ≡ None ∷ None ∷ None ∷ None ∷ None ∷ None ∷ None ∷ None ∷ []
no_unions = refl

-- {"__type":"b","a":1}, {"a":1,"__type":[]}, {"__type":null,"a":1}; {"__type":1} alone
pub marks : map (means_at one_union 0) (both (codes "__type") (string (codes "b")) (codes "a") (number (codes "1")) ∷ both (codes "a") (number (codes "1")) (codes "__type") (array no_elements) ∷ both (codes "__type") null (codes "a") (number (codes "1")) ∷ alone (codes "__type") (number (codes "1")) ∷ [])
    ≡ Some (values.union 0 (whole_value (pos 1))) ∷ Some (values.union 0 (whole_value (pos 1))) ∷ Some (values.union 0 (whole_value (pos 1))) ∷ None ∷ []
marks = refl

-- {"__type":..,"a":1} with 127 arrays and 128, and the latter with the limits lifted; {"__type":..} in a structure
pub deep_marks : (map (λ n. means_at one_union 0 (both (codes "__type") (in_arrays n null) (codes "a") (number (codes "1")))) (127 ∷ 128 ∷ []) ≡ Some (values.union 0 (whole_value (pos 1))) ∷ None ∷ [])
    × (would_mean_at one_union 0 (both (codes "__type") (in_arrays 128 null) (codes "a") (number (codes "1"))) ≡ Some (values.union 0 (whole_value (pos 1))))
    × (map (λ n. means_at one_long 0 (alone (codes "__type") (in_arrays n null))) (127 ∷ 128 ∷ []) ≡ Some empty_structure ∷ None ∷ [])
deep_marks = (refl, refl, refl)

-- ---- maps

-- {"b":1,"a":2,"b":3}: in the order of the keys' bytes, and of equal keys the last counts
pub last_key_counts : means_at (one_map false) 0 (object (member (codes "b") (number (codes "1")) (member (codes "a") (number (codes "2")) (member (codes "b") (number (codes "3")) no_members))))
    ≡ Some (values.map (map_entry (codes "a") (whole_value (pos 2)) (map_entry (codes "b") (whole_value (pos 3)) no_map_entries)))
last_key_counts = refl

-- {"b":"x","b":1}, {"b":1,"b":"x"}, {"b":null}, [], null: each entry has to be one
pub no_maps : map (means_at (one_map false) 0) (both (codes "b") (string (codes "x")) (codes "b") (number (codes "1")) ∷ both (codes "b") (number (codes "1")) (codes "b") (string (codes "x")) ∷ alone (codes "b") null ∷ array no_elements ∷ null ∷ [])
    ≡ None ∷ None ∷ None ∷ None ∷ None ∷ []
no_maps = refl

-- {"__type":null}, a key like any other, in a sparse map; {}
pub sparse_maps : map (means_at (one_map true) 0) (alone (codes "__type") null ∷ object no_members ∷ [])
    ≡ Some (values.map (map_entry (codes "__type") null_element no_map_entries)) ∷ Some (values.map no_map_entries) ∷ []
sparse_maps = refl

-- {"\ud800":1}
pub key_without_text : means_at (one_map false) 0 (alone (codes "\\ud800") (number (codes "1"))) ≡ None
unfolding code_unit
key_without_text = refl

-- ---- canonical texts

pub texts : map (λ v. written (one_map true) 0 (values.map v)) (no_map_entries ∷ map_entry (codes "a\"") (whole_value (pos 1)) (map_entry (codes "b") null_element no_map_entries) ∷ [])
    ≡ codes "{}" ∷ codes "{\"a\\\"\":1,\"b\":null}" ∷ []
unfolding digits
texts = refl

-- {"__type":"b","a":-0}
pub text_of_union : rewritten one_union 0 (both (codes "__type") (string (codes "b")) (codes "a") (number (codes "-0"))) ≡ Some (codes "{\"a\":0}")
unfolding digits
text_of_union = refl
