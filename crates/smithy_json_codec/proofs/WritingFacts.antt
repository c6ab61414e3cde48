-- The canonical texts of values over small tables.
use Rattle.std.proofs.Common.{◌≡◌, [], ◌∷◌, ◌++◌, map, true, false, Some, refl, pos, neg_ℤ, ◌^◌, ◌-◌, codes, replicate}
use Rattle.std.specs.Fmt.{digits}
use Rattle.smithy_types.specs.Document as documents
use Rattle.smithy_types.specs.Document.{no_documents, item, no_properties, property}
use Rattle.smithy_declarations.specs.Value as values
use Rattle.smithy_declarations.specs.Value.{null_element, no_values}
use Rattle.smithy_json_grammar.specs.Ascii.{begin_array, end_array}
use Rattle.smithy_json_grammar.specs.Tree.{number, string, array, object, no_elements, element, no_members, member}
use Rattle.smithy_json_codec.proofs.Examples.{whole_value, text_value, one_long, long_renamed, one_string, three_members, lists_of_lists, nodes, alone, both, in_lists, empty_structure, first_alone, written, rewritten, rewritten_by}

-- {"i":["x","y"],"s":"é","a":-0}: members in the table's order, whatever order they came in
pub in_table_order : rewritten three_members 1 (object (member (codes "i") (array (element (string (codes "x")) (element (string (codes "y")) no_elements))) (member (codes "s") (string (0xc3 ∷ 0xa9 ∷ [])) (member (codes "a") (number (codes "-0")) no_members))))
    ≡ Some (codes "{\"a\":0,\"s\":\"" ++ 0xc3 ∷ 0xa9 ∷ codes "\",\"i\":[\"x\",\"y\"]}")
unfolding digits
in_table_order = refl

-- {"i":[],"a":1}: what is absent is left out, with its comma
pub without_absent : rewritten three_members 1 (both (codes "i") (array no_elements) (codes "a") (number (codes "1"))) ≡ Some (codes "{\"a\":1,\"i\":[]}")
unfolding digits
without_absent = refl

pub empty_texts : (written one_long 0 empty_structure ≡ codes "{}") × (written (lists_of_lists false) 0 (values.list no_values) ≡ codes "[]")
empty_texts = (refl, refl)

-- each byte that is escaped, and the neighbours that aren't: 0x1f and space, DEL, `/`
pub escapes : written one_string 0 (first_alone (text_value (0x22 ∷ 0x5c ∷ 0x08 ∷ 0x0c ∷ 0x0a ∷ 0x0d ∷ 0x09 ∷ 0x00 ∷ 0x1f ∷ 0x20 ∷ 0x7f ∷ 0x2f ∷ [])))
    ≡ codes "{\"a\":\"\\\"\\\\\\b\\f\\n\\r\\t\\u0000\\u001f " ++ 0x7f ∷ codes "/\"}"
escapes = refl

-- 2^63-1, -2^63, 0, -7
pub numbers : map (λ z. written one_long 0 (first_alone (whole_value z))) (pos (2 ^ 63 - 1) ∷ neg_ℤ (pos (2 ^ 63)) ∷ pos 0 ∷ neg_ℤ (pos 7) ∷ [])
    ≡ codes "{\"a\":9223372036854775807}" ∷ codes "{\"a\":-9223372036854775808}" ∷ codes "{\"a\":0}" ∷ codes "{\"a\":-7}" ∷ []
unfolding digits
numbers = refl

-- elements have no names, and a null element is a null
pub elements : written (lists_of_lists true) 1 (first_alone (values.list (values.value (values.list no_values) (values.value null_element (values.value (in_lists 1 (values.list no_values)) no_values)))))
    ≡ codes "{\"l\":[[],null,[[]]]}"
elements = refl

-- {"\"":[null,true,-2^63,2^64-1],"b":"\n"}: no property is left out, and names and texts are escaped
pub free_values : written one_long 0 (first_alone (values.document_value (documents.object (property (codes "\"") (documents.array (item documents.null (item (documents.boolean true) (item (documents.number (neg_ℤ (pos (2 ^ 63)))) (item (documents.number (pos (2 ^ 64 - 1))) no_documents))))) (property (codes "b") (documents.text (0x0a ∷ [])) no_properties)))))
    ≡ codes "{\"a\":{\"\\\"\":[null,true,-9223372036854775808,18446744073709551615],\"b\":\"\\n\"}}"
unfolding digits
free_values = refl

-- documents without parts
pub small_free_values : map (λ d. written one_long 0 (values.document_value d)) (documents.null ∷ documents.boolean false ∷ documents.number (pos 0) ∷ documents.text [] ∷ documents.array no_documents ∷ documents.object no_properties ∷ [])
    ≡ codes "null" ∷ codes "false" ∷ codes "0" ∷ codes "\"\"" ∷ codes "[]" ∷ codes "{}" ∷ []
unfolding digits
small_free_values = refl

-- structures in a list in a structure
pub inner_structures : rewritten nodes 1 (both (codes "nodes") (array (element (alone (codes "value") (number (codes "1"))) (element (object no_members) (element (alone (codes "nodes") (array no_elements)) no_elements)))) (codes "value") (number (codes "-2")))
    ≡ Some (codes "{\"value\":-2,\"nodes\":[{\"value\":1},{},{\"nodes\":[]}]}")
unfolding digits
inner_structures = refl

-- 127 lists in one another
pub nested_lists : written (lists_of_lists false) 1 (first_alone (in_lists 126 (values.list no_values)))
    ≡ codes "{\"l\":" ++ (replicate 127 begin_array ++ (replicate 127 end_array ++ codes "}"))
nested_lists = refl

-- {"A":1} read by JSON names and written by either kind
pub written_names : map (λ to. rewritten_by true to long_renamed 0 (alone (codes "A") (number (codes "1")))) (false ∷ true ∷ [])
    ≡ Some (codes "{\"a\":1}") ∷ Some (codes "{\"A\":1}") ∷ []
unfolding digits
written_names = refl

-- {"a":1} by JSON names, where a has none
pub written_own_name : rewritten_by true true one_long 0 (alone (codes "a") (number (codes "1"))) ≡ Some (codes "{\"a\":1}")
unfolding digits
written_own_name = refl
