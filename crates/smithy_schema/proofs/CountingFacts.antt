-- Examples of how many values stand in one, by computing.
use Rattle.std.specs.Prelude.{◌≡◌, ◌+◌, ℕ, pos, [], ◌∷◌, length, map as list_map, true, refl, codes}
use Rattle.smithy_types.specs.Document.{null, number, array, object, no_documents, item, no_properties, property}
use Rattle.smithy_declarations.specs.Value.{boolean, whole, Value, scalar_value, list, map, structure, union, null_element, document_value, no_values, value, no_map_entries, map_entry, no_member_values, member_value}
use Rattle.smithy_schema.specs.Nodes.{nodes}

abbrev one : Value
one = scalar_value (whole (pos 1))

-- a container and its children, null elements among them; keys and positions count for nothing
pub containers : list_map nodes
    (one ∷ null_element ∷ structure no_member_values ∷ list (value null_element (value one no_values)) ∷ map (map_entry (codes "a") one no_map_entries) ∷ union 0 one ∷ [])
    ≡ 1 ∷ 1 ∷ 1 ∷ 3 ∷ 2 ∷ 2 ∷ []
containers = refl

-- and what is inside of them
pub inner : nodes (structure (member_value 0 (list (value (union 1 one) no_values)) (member_value 1 (scalar_value (boolean true)) no_member_values))) ≡ 5
inner = refl

-- a document counts each of its parts
pub documents : list_map nodes
    (document_value null ∷ document_value (array (item null (item (object (property (codes "a") (number (pos 1)) no_properties)) no_documents))) ∷ list (value (document_value null) no_values) ∷ [])
    ≡ 1 ∷ 4 ∷ 2 ∷ []
documents = refl

-- one value more than bytes: what an empty input spells
pub most : nodes (structure no_member_values) ≡ length {A = ℕ} [] + 1
most = refl
