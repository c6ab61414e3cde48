-- Examples of what nodes mean where documents are due, and of the nodes that are written for them, by computing.
use Rattle.std.specs.Option.{option_map_or}
use Rattle.std.specs.Prelude.{◌≡◌, ℕ, ℤ, pos, neg_ℤ, int_lt, unsigned_abs, List, [], ◌∷◌, map as list_map, Bool, true, false, Option, Some, None, refl, codes, if◌then◌else◌}
use Rattle.smithy_types.specs.Document.{Document, null, boolean, number, text, array, object, no_documents, item, no_properties, property}
use Rattle.smithy_types.specs.declared.number.Number.{Number}
use Rattle.smithy_types.specs.declared.number.Number.TheVariants.{PosInt, NegInt}
use Rattle.smithy_declarations.specs.declared.shape_type.Scalar.{Scalar}
use Rattle.smithy_declarations.specs.declared.shape_type.TimestampFormat.{TimestampFormat}
use Rattle.smithy_shapes.specs.Limits.{Limits, kept, lifted}
use Rattle.smithy_declarations.specs.Table as table
use Rattle.smithy_declarations.specs.Table.{Table, document_place, shape_place, is_document_place}
use Rattle.smithy_declarations.specs.Value.{ScalarValue, boolean as truth, whole, text as string, Value, document_value, list, union, structure, null_element, no_values, value, no_member_values, member_value}
use Rattle.smithy_wire.specs.Node.{as_array, as_object, Node, null_node, leaf, container, missing, Nodes, no_nodes, node}
use Rattle.smithy_wire.specs.Rules.{Answer, means, no_meaning, uncarried, Rules}
use Rattle.smithy_wire.specs.Documents.{held_document}
use Rattle.smithy_wire.specs.Meaning.{meaning}
use Rattle.smithy_wire.specs.Written.{Leaves, written_node}

-- ---- a wire of numbers, texts and truth values, whose documents carry numbers below 100

pub data Atom : Type 0 where
  a_number : ℤ → Atom
  a_text : List ℕ → Atom
  a_truth : Bool → Atom

abbrev text_of : Atom → Option (List ℕ)
text_of (a_text s) = Some s
text_of _ = None

abbrev held : ℤ → Number
held n = if int_lt n (pos 0) then NegInt n else PosInt (unsigned_abs n)

abbrev says_document : Atom → Answer (Document Number)
says_document (a_number n) = if int_lt n (pos 100) then means (number (held n)) else uncarried
says_document (a_text s) = means (text s)
says_document (a_truth b) = means (boolean b)

-- at most four containers and documents, one inside another
abbrev rules : Option (Atom → Answer (Document Number)) → Limits → Rules Atom
rules documents limits = record {
  text_of = text_of;
  says = λ s time x. no_meaning;
  documents = documents;
  mismatches = λ kind time input a. false;
  skips_count = true;
  name_of = λ m. m.name;
  max_depth = 4;
  limits = limits;
  keeps_null = λ q. option_map_or is_document_place q false;
  may_skip_scalar = λ x. true;
}

-- structure S / member d document; union U with the same member; list L document; list K document sparse
abbrev a_table : Table
a_table =
    list_map (λ shape. record { name = []; shape = shape })
    (table.structure (a_member ∷ []) ∷ table.union (a_member ∷ []) ∷ table.list (of_documents false) ∷ table.list (of_documents true) ∷ [])
  where
    a_member : table.Member
    a_member = record { name = codes "d"; json_name = None; xml_name = None; is_flat = false; place = document_place None }

    of_documents : Bool → table.ListShape
    of_documents is_sparse = record { place = document_place None; is_sparse = is_sparse; xml_name = None }

-- what a node means at a declaration, outside of all containers
abbrev at : Limits → ℕ → Node Atom → Option Value
at limits n x = meaning (rules (Some says_document) limits) a_table (shape_place n) 0 x

abbrev a_node : List (Option Atom × Node Atom) → Nodes Atom
a_node [] = no_nodes
a_node (e ∷ es) = node e.0 e.1 (a_node es)

abbrev without_key : Node Atom → Option Atom × Node Atom
without_key x = (None, x)

abbrev with_key : List ℕ × Node Atom → Option Atom × Node Atom
with_key e = (Some (a_text e.0), e.1)

abbrev an_array : List (Node Atom) → Node Atom
an_array xs = container as_array (a_node (list_map without_key xs))

abbrev an_object : List (List ℕ × Node Atom) → Node Atom
an_object es = container as_object (a_node (list_map with_key es))

abbrev number_node : ℕ → Node Atom
number_node n = leaf (a_number (pos n))

-- the member `d` with this node
abbrev with_member : Node Atom → Node Atom
with_member x = an_object ((codes "d", x) ∷ [])

abbrev structure_with : Document ℤ → Option Value
structure_with d = Some (structure (member_value 0 (document_value d) no_member_values))

-- ---- what nodes mean

-- a null is a document, a number is its whole number, and of equal keys the last counts, which come in byte order
pub documents_in_members : list_map (λ x. at kept 0 (with_member x))
    (null_node ∷ leaf (a_truth true) ∷ leaf (a_number (neg_ℤ (pos 5))) ∷ an_object ((codes "b", number_node 1) ∷ (codes "a", null_node) ∷ (codes "b", leaf (a_text (codes "x"))) ∷ []) ∷ [])
    ≡ structure_with null ∷ structure_with (boolean true) ∷ structure_with (number (neg_ℤ (pos 5)))
    ∷ structure_with (object (property (codes "a") null (property (codes "b") (text (codes "x")) no_properties))) ∷ []
documents_in_members = refl

-- each number is in its variant
pub variants : held_document (rules (Some says_document) kept) 0 (an_array (number_node 5 ∷ leaf (a_number (neg_ℤ (pos 5))) ∷ []))
    ≡ Some (array (item (number (PosInt 5)) (item (number (NegInt (neg_ℤ (pos 5)))) no_documents)))
variants = refl

-- a null is one in unions and lists, too, and an element of a sparse list
pub nulls : (at kept 1 (with_member null_node) ≡ Some (union 0 (document_value null)))
    × (list_map (λ n. at kept n (an_array (null_node ∷ []))) (2 ∷ 3 ∷ [])
    ≡ Some (list (value (document_value null) no_values)) ∷ Some (list (value null_element no_values)) ∷ [])
nulls = (refl, refl)

-- each part counts as depth, also one without parts: in the structure three arrays may nest, but none with a part
pub depths : list_map (λ x. at kept 0 (with_member (an_array (an_array (x ∷ []) ∷ [])))) (null_node ∷ an_array [] ∷ an_array (null_node ∷ []) ∷ [])
    ≡ structure_with (array (item (array (item null no_documents)) no_documents)) ∷ structure_with (array (item (array (item (array no_documents) no_documents)) no_documents)) ∷ None ∷ []
depths = refl

-- what is too deep or isn't carried is one with the limits lifted: another number is a null
pub lifted_documents : list_map (λ limits. list_map (λ x. at limits 0 (with_member x)) (an_array (number_node 100 ∷ number_node 99 ∷ []) ∷ an_array (an_array (an_array (null_node ∷ []) ∷ []) ∷ []) ∷ [])) (kept ∷ lifted ∷ [])
    ≡ (None ∷ None ∷ [])
    ∷ (structure_with (array (item null (item (number (pos 99)) no_documents))) ∷ structure_with (array (item (array (item (array (item null no_documents)) no_documents)) no_documents)) ∷ []) ∷ []
lifted_documents = refl

-- a key that is no text, and what is missing
pub no_documents_there : (list_map (λ limits. at limits 0 (with_member (container as_object (node (Some (a_number (pos 1))) null_node no_nodes)))) (kept ∷ lifted ∷ []) ≡ None ∷ None ∷ [])
    × (meaning (rules (Some says_document) lifted) a_table (document_place None) 0 missing ≡ None)
no_documents_there = (refl, refl)

-- where the wire carries none, whatever stands there means nothing, and a null with the limits lifted
pub none_carried : list_map (λ limits. list_map (meaning (rules None limits) a_table (document_place None) 0) (null_node ∷ number_node 1 ∷ an_array [] ∷ missing ∷ [])) (kept ∷ lifted ∷ [])
    ≡ (None ∷ None ∷ None ∷ None ∷ []) ∷ (Some null_element ∷ Some null_element ∷ Some null_element ∷ None ∷ []) ∷ []
none_carried = refl

-- ---- what is written

abbrev leaves : Bool → Leaves Atom
leaves documents = record { leaf_of = leaf_of; key_of = a_text; holds = record { scalar = λ time x. true; documents = documents } }
  where
    leaf_of : Scalar → Option TimestampFormat → ScalarValue → Atom
    leaf_of s time (whole n) = a_number n
    leaf_of s time (truth b) = a_truth b
    leaf_of s time (string t) = a_text t
    leaf_of s time _ = a_text []

pub written : list_map (λ documents. written_node (leaves documents) (λ m. m.name) a_table (document_place None) (document_value (array (item null (item (object (property (codes "a") (number (pos 1)) no_properties)) no_documents))))) (true ∷ false ∷ [])
    ≡ an_array (null_node ∷ an_object ((codes "a", number_node 1) ∷ []) ∷ []) ∷ missing ∷ []
written = refl
