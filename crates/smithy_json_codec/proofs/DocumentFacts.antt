-- What JSON values mean as documents, at places of a table and by themselves, by computing.
use Rattle.std.proofs.Common.{◌≡◌, [], ◌∷◌, map as list_map, Bool, true, false, Option, Some, None, refl, pos, neg_ℤ, codes}
use Rattle.std.specs.Option.{option_map_or}
use Rattle.smithy_types.specs.Document as documents
use Rattle.smithy_types.specs.Document.{no_documents, item, no_properties, property}
use Rattle.smithy_types.specs.declared.number.Number.TheVariants.{PosInt, NegInt}
use Rattle.smithy_declarations.specs.Table as table
use Rattle.smithy_declarations.specs.Table.{Table, document_place}
use Rattle.smithy_declarations.specs.Value as values
use Rattle.smithy_declarations.specs.Value.{Value, document_value, no_values, no_map_entries}
use Rattle.smithy_json_grammar.specs.Tree.{null, boolean, number, string, array, object, no_elements, no_members, member}
use Rattle.smithy_json_grammar.specs.Unescape.{code_unit}
use Rattle.smithy_wire.specs.Rules.{means, no_meaning, uncarried}
use Rattle.smithy_json_values.specs.Scalar.{a_boolean, a_number, a_string, document_says}
use Rattle.smithy_json_codec.proofs.Examples.{plain_member, named, long_place, list_shape, alone, both, in_arrays, empty_structure, first_alone, means_at, would_mean_at}

-- structure S / member d document / member a long
abbrev one_document : Table
one_document = named (codes "S") (table.structure (plain_member (codes "d") (document_place None) ∷ plain_member (codes "a") long_place ∷ [])) ∷ []

-- list L document / map M document
abbrev many_documents : Table
many_documents = named (codes "L") (list_shape false (document_place None))
    ∷ named (codes "M") (table.map (record { place = document_place None; is_sparse = false; key_name = None; value_name = None })) ∷ []

-- ---- scalars

-- 0, -0, the ends of the numbers, each with one past it, a fraction and an exponent
pub numbers : list_map document_says (a_number (codes "0") ∷ a_number (codes "-0") ∷ a_number (codes "18446744073709551615") ∷ a_number (codes "18446744073709551616") ∷ a_number (codes "-9223372036854775808") ∷ a_number (codes "-9223372036854775809") ∷ a_number (codes "1.0") ∷ a_number (codes "1e0") ∷ [])
    ≡ means (documents.number (PosInt 0)) ∷ means (documents.number (NegInt (pos 0))) ∷ means (documents.number (PosInt 18_446_744_073_709_551_615)) ∷ uncarried ∷ means (documents.number (NegInt (neg_ℤ (pos 9_223_372_036_854_775_808)))) ∷ uncarried ∷ uncarried ∷ uncarried ∷ []
numbers = refl

-- true, "a" and "\ud800"
pub others : list_map document_says (a_boolean true ∷ a_string (codes "a") ∷ a_string (codes "\\ud800") ∷ [])
    ≡ means (documents.boolean true) ∷ means (documents.text (codes "a")) ∷ no_meaning ∷ []
unfolding code_unit
others = refl

-- ---- members

-- {"d":null}, {"a":null,"d":null}, {"z":null}, {"d":null,"d":true}
pub null_members : list_map (means_at one_document 0) (alone (codes "d") null ∷ both (codes "a") null (codes "d") null ∷ alone (codes "z") null ∷ both (codes "d") null (codes "d") (boolean true) ∷ [])
    ≡ Some (first_alone (document_value documents.null)) ∷ Some (first_alone (document_value documents.null)) ∷ Some empty_structure ∷ Some (first_alone (document_value (documents.boolean true))) ∷ []
null_members = refl

-- {"d":{"b":1,"a":-0,"b":"x"}}: in the order of the names' bytes, and of equal names the last counts
pub last_name_counts : means_at one_document 0 (alone (codes "d") (object (member (codes "b") (number (codes "1")) (member (codes "a") (number (codes "-0")) (member (codes "b") (string (codes "x")) no_members)))))
    ≡ Some (first_alone (document_value (documents.object (property (codes "a") (documents.number (pos 0)) (property (codes "b") (documents.text (codes "x")) no_properties)))))
last_name_counts = refl

-- {"d":1.5}, {"d":[1.5]}, and what they would mean
pub other_numbers : (list_map (means_at one_document 0) (alone (codes "d") (number (codes "1.5")) ∷ alone (codes "d") (in_arrays 1 (number (codes "1.5"))) ∷ []) ≡ None ∷ None ∷ [])
    × (list_map (would_mean_at one_document 0) (alone (codes "d") (number (codes "1.5")) ∷ alone (codes "d") (in_arrays 1 (number (codes "1.5"))) ∷ [])
    ≡ Some (first_alone (document_value documents.null)) ∷ Some (first_alone (document_value (documents.array (item documents.null no_documents)))) ∷ [])
other_numbers = (refl, refl)

-- ---- elements and a map's values

-- [null] in a list, {"a":null} in a map
pub null_children : (means_at many_documents 0 (in_arrays 1 null) ≡ Some (values.list (values.value (document_value documents.null) no_values)))
    × (means_at many_documents 1 (alone (codes "a") null) ≡ Some (values.map (values.map_entry (codes "a") (document_value documents.null) no_map_entries)))
null_children = (refl, refl)

-- ---- depth

-- {"d":..} with 126 arrays around a number and 127, and 127 around an empty array and 126; and with the limits lifted
abbrev is_there : Option Value → Bool
is_there v = option_map_or (λ x. true) v false

pub depth_of_documents : (list_map (λ n. is_there (means_at one_document 0 (alone (codes "d") (in_arrays n (number (codes "1")))))) (126 ∷ 127 ∷ []) ≡ true ∷ false ∷ [])
    × (list_map (λ n. is_there (means_at one_document 0 (alone (codes "d") (in_arrays n (array no_elements))))) (126 ∷ 127 ∷ []) ≡ true ∷ false ∷ [])
    × (is_there (would_mean_at one_document 0 (alone (codes "d") (in_arrays 200 null))) ≡ true)
depth_of_documents = (refl, refl, refl)
