-- How many values stand in a value, with itself: elements, nulls among them, the values of maps, members, the value of a
-- union, and the parts of documents.
use Rattle.std.specs.Prelude.{ℕ, suc, ◌+◌}
use Rattle.smithy_types.specs.Document.{Document, null, boolean, number, text, array, object, Documents, no_documents, item, Properties, no_properties, property}
use Rattle.smithy_declarations.specs.Value.{Value, scalar_value, list, map, structure, union, null_element, document_value, Values, no_values, value, MapEntries, no_map_entries, map_entry, MemberValues, no_member_values, member_value}

abbrev mutual
  -- how many documents stand in a document: itself and each of its parts
  pub document_nodes : {N : Type 0} → Document N → ℕ
  document_nodes null = 1
  document_nodes (boolean b) = 1
  document_nodes (number n) = 1
  document_nodes (text s) = 1
  document_nodes (array ds) = suc (documents_nodes ds)
  document_nodes (object ps) = suc (properties_nodes ps)

  -- how many documents stand in the elements of an array: themselves and their parts
  pub documents_nodes : {N : Type 0} → Documents N → ℕ
  documents_nodes no_documents = 0
  documents_nodes (item d ds) = document_nodes d + documents_nodes ds

  -- how many documents stand in the properties of an object: themselves and their parts
  pub properties_nodes : {N : Type 0} → Properties N → ℕ
  properties_nodes no_properties = 0
  properties_nodes (property name d ps) = document_nodes d + properties_nodes ps

abbrev mutual
  -- how many values stand in a value: itself and each one inside of it, and in a document itself and each of its parts
  pub nodes : Value → ℕ
  nodes (scalar_value x) = 1
  nodes (list vs) = suc (elements_nodes vs)
  nodes (map es) = suc (entries_nodes es)
  nodes (structure ms) = suc (members_nodes ms)
  nodes (union n v) = suc (nodes v)
  nodes null_element = 1
  nodes (document_value d) = document_nodes d

  -- how many values stand in the elements of a list: themselves and all inside of them
  pub elements_nodes : Values → ℕ
  elements_nodes no_values = 0
  elements_nodes (value v vs) = nodes v + elements_nodes vs

  -- how many values stand in the values of a map: themselves and all inside of them
  pub entries_nodes : MapEntries → ℕ
  entries_nodes no_map_entries = 0
  entries_nodes (map_entry key v es) = nodes v + entries_nodes es

  -- how many values stand in the members of a structure: themselves and all inside of them
  pub members_nodes : MemberValues → ℕ
  members_nodes no_member_values = 0
  members_nodes (member_value n v ms) = nodes v + members_nodes ms
