-- What a node means where a document is due, whichever wire it came from.
use Rattle.std.specs.Prelude.{ℕ, suc, List, [], Option, Some, None, option_map, option_and_then}
use Rattle.smithy_types.specs.Document.{Document, null, array, object, Documents, no_documents, item, whole_document, properties_by, with_pair}
use Rattle.smithy_types.specs.declared.number.Number.{Number}
use Rattle.smithy_declarations.specs.Value.{Value, document_value, null_element}
use Rattle.smithy_wire.specs.Node.{as_array, as_object, Node, null_node, leaf, container, missing, Nodes, no_nodes, node}
use Rattle.smithy_wire.specs.Rules.{Answer, settled, where_lifted, Rules, at_depth, key_text}

module _ {L : Type 0} (r : Rules L) (says : L → Answer (Document Number)) where
  abbrev mutual
    -- the document of a node inside so many containers, by what its scalars are: each part counts as depth, scalars too
    pub document_of : ℕ → Node L → Option (Document Number)
    document_of depth null_node = at_depth r (suc depth) (Some null)
    document_of depth (leaf x) = at_depth r (suc depth) (settled r.limits null (says x))
    document_of depth (container as_array xs) = at_depth r (suc depth) (option_map array (elements_of (suc depth) xs))
    document_of depth (container as_object xs) =
        at_depth r (suc depth) (option_map (λ pairs. object (properties_by pairs)) (pairs_of (suc depth) xs))
    document_of depth missing = None

    -- each element means a document
    pub elements_of : ℕ → Nodes L → Option (Documents Number)
    elements_of depth no_nodes = Some no_documents
    elements_of depth (node key x xs) =
        option_and_then (λ d. option_map (item d) (elements_of depth xs)) (document_of depth x)

    -- each key is a text, and what stands under it means a document: of equal keys the last counts
    pub pairs_of : ℕ → Nodes L → Option (List (List ℕ × Document Number))
    pairs_of depth no_nodes = Some []
    pairs_of depth (node key x xs) = with_pair (key_text r as_object key) (document_of depth x) (pairs_of depth xs)

-- the document of a node, each number in its variant: none where the wire carries none
abbrev pub held_document : {L : Type 0} → Rules L → ℕ → Node L → Option (Document Number)
held_document r depth x = option_and_then (λ says. document_of r says depth x) r.documents

-- whatever lies there means a null, where the limits are lifted
abbrev pub lifted_null : {L : Type 0} → Rules L → Node L → Option Value
lifted_null r missing = None
lifted_null r _ = where_lifted r.limits null_element

-- what a node means as a document, by what a scalar is as one, if the wire carries documents
abbrev pub document_by : {L : Type 0} → Rules L → Option (L → Answer (Document Number)) → ℕ → Node L → Option Value
document_by r None depth x = lifted_null r x
document_by r (Some says) depth x = option_map (λ d. document_value (whole_document d)) (document_of r says depth x)

-- The value that a node means where a document is due: a document whose numbers count as whole numbers alone. Where the wire
-- carries no documents it means nothing, and a null where the limits are lifted.
abbrev pub document_meaning : {L : Type 0} → Rules L → ℕ → Node L → Option Value
document_meaning r depth x = document_by r r.documents depth x
