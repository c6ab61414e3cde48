-- The node as which a value is written at a place of a table, whichever wire carries it.
use Rattle.std.specs.Prelude.{◌≡◌, ℕ, ℤ, List, [], Bool, true, false, Option, Some, None, map as list_map, slice_get, unwrap_or, if◌then◌else◌, IsUtf8}
use Rattle.std.specs.Option.{option_map_or}
use Rattle.smithy_types.specs.Document.{Document, Documents, no_documents, item, Properties, no_properties, property, whole_document, is_document_number}
use Rattle.smithy_types.specs.declared.number.Number.{Number}
use Rattle.smithy_declarations.specs.declared.place.Place.{Place}
use Rattle.smithy_declarations.specs.declared.shape_type.Scalar.{Scalar}
use Rattle.smithy_declarations.specs.declared.shape_type.Scalar.TheVariants as scalars
use Rattle.smithy_declarations.specs.declared.shape_type.TimestampFormat.{TimestampFormat}
use Rattle.smithy_declarations.specs.Names.{has_equal_texts}
use Rattle.smithy_declarations.specs.Table.{Table, Member, Kind, scalar, kind_of, members_of, place_in, is_document_place, IsSparse, IsDocument}
use Rattle.smithy_declarations.specs.Value.{ScalarValue, boolean, whole, text, Value, scalar_value, document_value, list, map, structure, union, null_element, Values, no_values, value, MapEntries, no_map_entries, map_entry, MemberValues, no_member_values, member_value}
use Rattle.smithy_shapes.specs.Fits.{is_of}
use Rattle.smithy_shapes.specs.ScalarTest.{ValueTest}
use Rattle.smithy_wire.specs.Node.{as_array, as_object, Node, null_node, leaf, container, missing, Nodes, no_nodes, node}
use Rattle.smithy_wire.specs.Rules.{Answer, means, Rules}

-- what a wire writes for a scalar, by the time form of its place, and for a key
pub record Leaves (L : Type 0) : Type 0 where
  pub leaf_of : Scalar → Option TimestampFormat → ScalarValue → L
  pub key_of : List ℕ → L
  -- what is written for the scalar stands for exactly it, and documents are written
  pub holds : ValueTest

-- ---- the node

abbrev mutual
  -- Arrays and objects under the names of their properties. What has no parts is written as at places of booleans, of
  -- big integers and of strings.
  pub document_node : {L : Type 0} → Leaves L → Document ℤ → Node L
  document_node l Document.null = null_node
  document_node l (Document.boolean b) = leaf (l.leaf_of scalars.Boolean None (boolean b))
  document_node l (Document.number n) = leaf (l.leaf_of scalars.BigInteger None (whole n))
  document_node l (Document.text s) = leaf (l.leaf_of scalars.String None (text s))
  document_node l (Document.array ds) = container as_array (document_nodes l ds)
  document_node l (Document.object ps) = container as_object (property_nodes l ps)

  -- elements in order
  pub document_nodes : {L : Type 0} → Leaves L → Documents ℤ → Nodes L
  document_nodes l no_documents = no_nodes
  document_nodes l (item d ds) = node None (document_node l d) (document_nodes l ds)

  -- properties in order
  pub property_nodes : {L : Type 0} → Leaves L → Properties ℤ → Nodes L
  property_nodes l no_properties = no_nodes
  property_nodes l (property name d ps) =
      node (Some (l.key_of name)) (document_node l d) (property_nodes l ps)

-- a wire that writes no documents writes nothing for one
abbrev pub written_document : {L : Type 0} → Leaves L → Document ℤ → Node L
written_document l d = if l.holds.documents then document_node l d else missing

-- the node of a scalar, at a place of scalars
abbrev pub scalar_node : {L : Type 0} → Leaves L → Kind → Option TimestampFormat → ScalarValue → Node L
scalar_node l (scalar s) time x = leaf (l.leaf_of s time x)
scalar_node l _ time x = null_node

-- the place of a child, or another one where it has none
abbrev pub child_place : Kind → Option ℕ → Place → Place
child_place k position other = unwrap_or (place_in k position) other

-- the name of the member at a position, empty where there is none
abbrev pub name_at : (Member → List ℕ) → Kind → ℕ → List ℕ
name_at name_of k n = option_map_or name_of (slice_get (members_of k) n) []

abbrev mutual
  -- Lists are arrays. Maps are objects under their keys, and structures and unions under the names of their members.
  pub written_node : {L : Type 0} → Leaves L → (Member → List ℕ) → Table → Place → Value → Node L
  written_node l name_of t p (scalar_value x) = scalar_node l (kind_of t p) p.time x
  written_node l name_of t p (list vs) = container as_array (element_nodes l name_of t (child_place (kind_of t p) None p) vs)
  written_node l name_of t p (map es) = container as_object (entry_nodes l name_of t (child_place (kind_of t p) None p) es)
  written_node l name_of t p (structure ms) = container as_object (member_nodes l name_of t p ms)
  written_node l name_of t p (union n v) =
      container as_object
      (node (Some (l.key_of (name_at name_of (kind_of t p) n))) (written_node l name_of t (child_place (kind_of t p) (Some n) p) v) no_nodes)
  written_node l name_of t p null_element = null_node
  written_node l name_of t p (document_value d) = written_document l d

  -- elements in order, all at one place
  pub element_nodes : {L : Type 0} → Leaves L → (Member → List ℕ) → Table → Place → Values → Nodes L
  element_nodes l name_of t q no_values = no_nodes
  element_nodes l name_of t q (value v vs) = node None (written_node l name_of t q v) (element_nodes l name_of t q vs)

  -- entries of a map in order, their values all at one place
  pub entry_nodes : {L : Type 0} → Leaves L → (Member → List ℕ) → Table → Place → MapEntries → Nodes L
  entry_nodes l name_of t q no_map_entries = no_nodes
  entry_nodes l name_of t q (map_entry key v es) =
      node (Some (l.key_of key)) (written_node l name_of t q v) (entry_nodes l name_of t q es)

  -- members in order, of a structure at this place
  pub member_nodes : {L : Type 0} → Leaves L → (Member → List ℕ) → Table → Place → MemberValues → Nodes L
  member_nodes l name_of t p no_member_values = no_nodes
  member_nodes l name_of t p (member_value n v ms) =
      node (Some (l.key_of (name_at name_of (kind_of t p) n))) (written_node l name_of t (child_place (kind_of t p) (Some n) p) v)
      (member_nodes l name_of t p ms)

-- ---- what it means

-- what an accepted table says of the names under which members are written, and of nulls: where a list or a map is sparse, a
-- null is no document
pub record TellsApart (name_of : Member → List ℕ) (t : Table) : Type 0 where
  pub names_differ : (at : Place) → has_equal_texts (list_map name_of (members_of (kind_of t at))) ≡ false
  pub names_are_texts : (at : Place) (n : ℕ) (m : Member) → slice_get (members_of (kind_of t at)) n ≡ Some m → IsUtf8 (name_of m)
  pub sparse_without_documents : (at inner : Place) (n : Option ℕ) → IsSparse (kind_of t at) → place_in (kind_of t at) n ≡ Some inner
      → IsDocument (kind_of t inner) → ⊥

-- what a wire proves: a scalar that it holds and a key mean what they were written for
pub record ReadsLeaves {L : Type 0} (l : Leaves L) (r : Rules L) : Type 0 where
  pub scalar_means : (s : Scalar) (time : Option TimestampFormat) (x : ScalarValue) → is_of s x ≡ true → l.holds.scalar time x ≡ true
      → r.says s time (l.leaf_of s time x) ≡ means (scalar_value x)
  pub key_means : (key : List ℕ) → IsUtf8 key → r.text_of (l.key_of key) ≡ Some key

-- what a wire proves that writes documents: what it has for a document without parts means this document, and a null of a
-- member that is a document is kept
pub record ReadsDocuments {L : Type 0} (l : Leaves L) (r : Rules L) : Type 0 where
  pub says : L → Answer (Document Number)
  pub carried : r.documents ≡ Some says
  pub null_is_kept : (p : Place) → is_document_place p ≡ true → r.keeps_null (Some p) ≡ true
  pub boolean_means : (b : Bool) → says (l.leaf_of scalars.Boolean None (boolean b)) ≡ means (Document.boolean b)
  pub number_means : (n : ℤ) → is_document_number n ≡ true
      → (d : Document Number) × (says (l.leaf_of scalars.BigInteger None (whole n)) ≡ means d) × (whole_document d ≡ Document.number n)
  pub text_means : (s : List ℕ) → IsUtf8 s → says (l.leaf_of scalars.String None (text s)) ≡ means (Document.text s)
