-- A value as a tree: what stands at its top, and its parts, each behind the step that leads to it.
use Rattle.std.specs.Prelude.{ℕ, suc, ℤ, List}
use Rattle.smithy_types.specs.Document as documents
use Rattle.smithy_types.specs.Document.{Document, Documents, no_documents, item, Properties, no_properties, property}
use Rattle.smithy_declarations.specs.Value as values
use Rattle.smithy_declarations.specs.Value.{ScalarValue, Value, scalar_value, null_element, document_value, Values, no_values, value, MapEntries, no_map_entries, map_entry, MemberValues, no_member_values, member_value}

-- one step of a path: to a member by its position, to an element by its index, both from 0, or to the value of a key
pub data Step : Type 0 where
  member : ℕ → Step
  element : ℕ → Step
  key : List ℕ → Step

-- what a value or a document is beside its parts
pub data Top : Type 0 where
  scalar : ScalarValue → Top
  null list map structure : Top
  -- with the position of its member
  union : ℕ → Top
  document_null : Top
  -- a truth value, a whole number or a text
  document_scalar : ScalarValue → Top
  array object : Top

mutual
  pub data Tree : Type 0 where
    tree : Top → Parts → Tree

  -- in the order of their steps, each once
  pub data Parts : Type 0 where
    no_parts : Parts
    part : Step → Tree → Parts → Parts

abbrev mutual
  -- of a document's number the whole number alone counts
  pub document_tree : Document ℤ → Tree
  document_tree documents.null = tree document_null no_parts
  document_tree (documents.boolean b) = tree (document_scalar (values.boolean b)) no_parts
  document_tree (documents.number n) = tree (document_scalar (values.whole n)) no_parts
  document_tree (documents.text s) = tree (document_scalar (values.text s)) no_parts
  document_tree (documents.array ds) = tree array (item_parts 0 ds)
  document_tree (documents.object ps) = tree object (property_parts ps)

  -- the elements of an array, from this index on
  pub item_parts : ℕ → Documents ℤ → Parts
  item_parts i no_documents = no_parts
  item_parts i (item d ds) = part (element i) (document_tree d) (item_parts (suc i) ds)

  pub property_parts : Properties ℤ → Parts
  property_parts no_properties = no_parts
  property_parts (property name d ps) = part (key name) (document_tree d) (property_parts ps)

abbrev mutual
  pub tree_of : Value → Tree
  tree_of (scalar_value x) = tree (scalar x) no_parts
  tree_of (values.list vs) = tree list (element_parts 0 vs)
  tree_of (values.map es) = tree map (entry_parts es)
  tree_of (values.structure ms) = tree structure (member_parts ms)
  tree_of (values.union n v) = tree (union n) (part (member n) (tree_of v) no_parts)
  tree_of null_element = tree null no_parts
  tree_of (document_value d) = document_tree d

  -- the elements of a list, from this index on
  pub element_parts : ℕ → Values → Parts
  element_parts i no_values = no_parts
  element_parts i (value v vs) = part (element i) (tree_of v) (element_parts (suc i) vs)

  pub entry_parts : MapEntries → Parts
  entry_parts no_map_entries = no_parts
  entry_parts (map_entry name v es) = part (key name) (tree_of v) (entry_parts es)

  pub member_parts : MemberValues → Parts
  member_parts no_member_values = no_parts
  member_parts (member_value n v ms) = part (member n) (tree_of v) (member_parts ms)
