-- A value is known from its tree: of two values with one tree no two differ.
use Rattle.std.proofs.Common.{◌≡◌, ℕ, suc, ℤ, List, [], refl, sym, ◌∙◌, ap}
use Rattle.smithy_types.specs.Document as documents
use Rattle.smithy_types.specs.Document.{Document, Documents, no_documents, item, Properties, no_properties, property}
use Rattle.smithy_declarations.specs.Value as values
use Rattle.smithy_declarations.specs.Value.{ScalarValue, Value, scalar_value, null_element, document_value, Values, no_values, value, MapEntries, no_map_entries, map_entry, MemberValues, no_member_values, member_value}
use Rattle.smithy_compare.specs.Tree.{Step, member, key, scalar, null, list, map, structure, union, document_null, document_scalar, array, object, Tree, tree, Parts, no_parts, part, document_tree, item_parts, property_parts, tree_of, element_parts, entry_parts, member_parts}

abbrev position : Step → ℕ
position (member n) = n
position _ = 0

abbrev name : Step → List ℕ
name (key k) = k
name _ = []

abbrev scalar_document : ScalarValue → Document ℤ
scalar_document (values.boolean b) = documents.boolean b
scalar_document (values.whole n) = documents.number n
scalar_document (values.text s) = documents.text s
scalar_document _ = documents.null

abbrev mutual
  document_in : Tree → Document ℤ
  document_in (tree (document_scalar x) ps) = scalar_document x
  document_in (tree array ps) = documents.array (items_in ps)
  document_in (tree object ps) = documents.object (properties_in ps)
  document_in (tree _ ps) = documents.null

  items_in : Parts → Documents ℤ
  items_in no_parts = no_documents
  items_in (part s x ps) = item (document_in x) (items_in ps)

  properties_in : Parts → Properties ℤ
  properties_in no_parts = no_properties
  properties_in (part s x ps) = property (name s) (document_in x) (properties_in ps)

mutual
  document_back : (d : Document ℤ) → document_in (document_tree d) ≡ d
  document_back documents.null = refl
  document_back (documents.boolean b) = refl
  document_back (documents.number n) = refl
  document_back (documents.text s) = refl
  document_back (documents.array ds) = ap documents.array (items_back 0 ds)
  document_back (documents.object ps) = ap documents.object (properties_back ps)

  items_back : (i : ℕ) (ds : Documents ℤ) → items_in (item_parts i ds) ≡ ds
  items_back i no_documents = refl
  items_back i (item d ds) = λ k. item (document_back d k) (items_back (suc i) ds k)

  properties_back : (ps : Properties ℤ) → properties_in (property_parts ps) ≡ ps
  properties_back no_properties = refl
  properties_back (property at d ps) = λ k. property at (document_back d k) (properties_back ps k)

abbrev mutual
  value_in : Tree → Value
  value_in (tree (scalar x) ps) = scalar_value x
  value_in (tree list ps) = values.list (elements_in ps)
  value_in (tree map ps) = values.map (entries_in ps)
  value_in (tree structure ps) = values.structure (members_in ps)
  value_in (tree (union n) no_parts) = null_element
  value_in (tree (union n) (part s x ps)) = values.union n (value_in x)
  value_in (tree null ps) = null_element
  value_in (tree document_null ps) = document_value documents.null
  value_in (tree (document_scalar x) ps) = document_value (scalar_document x)
  value_in (tree array ps) = document_value (documents.array (items_in ps))
  value_in (tree object ps) = document_value (documents.object (properties_in ps))

  elements_in : Parts → Values
  elements_in no_parts = no_values
  elements_in (part s x ps) = value (value_in x) (elements_in ps)

  entries_in : Parts → MapEntries
  entries_in no_parts = no_map_entries
  entries_in (part s x ps) = map_entry (name s) (value_in x) (entries_in ps)

  members_in : Parts → MemberValues
  members_in no_parts = no_member_values
  members_in (part s x ps) = member_value (position s) (value_in x) (members_in ps)

as_value : (d : Document ℤ) → value_in (document_tree d) ≡ document_value d
as_value documents.null = refl
as_value (documents.boolean b) = refl
as_value (documents.number n) = refl
as_value (documents.text s) = refl
as_value (documents.array ds) = ap (λ x. document_value (documents.array x)) (items_back 0 ds)
as_value (documents.object ps) = ap (λ x. document_value (documents.object x)) (properties_back ps)

mutual
  value_back : (v : Value) → value_in (tree_of v) ≡ v
  value_back (scalar_value x) = refl
  value_back (values.list vs) = ap values.list (elements_back 0 vs)
  value_back (values.map es) = ap values.map (entries_back es)
  value_back (values.structure ms) = ap values.structure (members_back ms)
  value_back (values.union n v) = ap (values.union n) (value_back v)
  value_back null_element = refl
  value_back (document_value d) = as_value d

  elements_back : (i : ℕ) (vs : Values) → elements_in (element_parts i vs) ≡ vs
  elements_back i no_values = refl
  elements_back i (value v vs) = λ k. value (value_back v k) (elements_back (suc i) vs k)

  entries_back : (es : MapEntries) → entries_in (entry_parts es) ≡ es
  entries_back no_map_entries = refl
  entries_back (map_entry at v es) = λ k. map_entry at (value_back v k) (entries_back es k)

  members_back : (ms : MemberValues) → members_in (member_parts ms) ≡ ms
  members_back no_member_values = refl
  members_back (member_value n v ms) = λ k. member_value n (value_back v k) (members_back ms k)

-- values of one tree are one value
pub one_value_of : (v w : Value) → tree_of v ≡ tree_of w → v ≡ w
one_value_of v w same = sym (value_back v) ∙ ap value_in same ∙ value_back w
