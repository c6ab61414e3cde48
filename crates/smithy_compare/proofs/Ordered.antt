-- The parts of a value of a place stand in the order of their steps, each once.
use Rattle.std.proofs.Common.{arith, ◌≡◌, ◌<◌, ℕ, suc, ℤ, List, Bool, false, sym, nat_cmp}
use Rattle.std.specs.Cmp.{nat_cmp_is}
use Rattle.std.specs.Cmp.Lexicographic.{slice_cmp, nat_list_cmp_total}
use Rattle.std.specs.declared.cmp.Ordering.TheVariants.{Less}
use Rattle.smithy_types.specs.Document as documents
use Rattle.smithy_types.specs.Document.{Document, Documents, no_documents, item, Properties, no_properties, property}
use Rattle.smithy_declarations.specs.declared.place.Place.{Place}
use Rattle.smithy_declarations.specs.Documents.{DocumentFits, DocumentsFit, PropertiesFit, NamesAscendAbove, NamesAscend}
use Rattle.smithy_shapes.specs.Fits.{FitsOr, ElementsFit, EntriesFit, MembersFit, AscendFrom, KeysAscendAbove, KeysAscend}
use Rattle.smithy_declarations.specs.Table.{Table, Kind}
use Rattle.smithy_declarations.specs.Value as values
use Rattle.smithy_declarations.specs.Value.{Value, scalar_value, null_element, document_value, Values, no_values, value, MapEntries, no_map_entries, map_entry, MemberValues, no_member_values, member_value}
use Rattle.smithy_compare.specs.Tree.{Step, member, element, key, Tree, tree, Parts, no_parts, part, document_tree, item_parts, property_parts, tree_of, element_parts, entry_parts, member_parts}
use Rattle.smithy_compare.specs.FirstPath.{step_cmp}

-- the step comes before each of the parts
abbrev pub IsBefore : Step → Parts → Type 0
IsBefore s no_parts = Unit {0}
IsBefore s (part t x ps) = (step_cmp s t ≡ Less) × IsBefore s ps

abbrev mutual
  pub IsOrdered : Tree → Type 0
  IsOrdered (tree a ps) = AreOrdered ps

  pub AreOrdered : Parts → Type 0
  AreOrdered no_parts = Unit {0}
  AreOrdered (part s x ps) = IsOrdered x × IsBefore s ps × AreOrdered ps

less : (n m : ℕ) → n < m → nat_cmp n m ≡ Less
less n m h = sym (nat_cmp_is n m Less h)

-- ---- documents

before_items : (i j : ℕ) (ds : Documents ℤ) → i < j → IsBefore (element i) (item_parts j ds)
before_items i j no_documents h = tt
before_items i j (item d ds) h = (less i j h, before_items i (suc j) ds (omega (arith, h)))

before_properties : (low name : List ℕ) (ps : Properties ℤ) → slice_cmp nat_cmp low name ≡ Less → NamesAscendAbove name ps → IsBefore (key low) (property_parts ps)
before_properties low name no_properties h up = tt
before_properties low name (property at d ps) h up =
    let below = nat_list_cmp_total.trans low name at h up.0 in
    (below, before_properties low at ps below up.1)

first_properties : (name : List ℕ) (ps : Properties ℤ) → NamesAscendAbove name ps → IsBefore (key name) (property_parts ps)
first_properties name no_properties up = tt
first_properties name (property at d ps) up = (up.0, before_properties name at ps up.0 up.1)

above : (name : List ℕ) (ps : Properties ℤ) → NamesAscendAbove name ps → NamesAscend ps
above name no_properties up = tt
above name (property at d ps) up = up.1

mutual
  document_ordered : (d : Document ℤ) → DocumentFits d → IsOrdered (document_tree d)
  document_ordered documents.null h = tt
  document_ordered (documents.boolean b) h = tt
  document_ordered (documents.number n) h = tt
  document_ordered (documents.text s) h = tt
  document_ordered (documents.array ds) h = items_ordered 0 ds h
  document_ordered (documents.object ps) h = properties_ordered ps h.0 h.1

  items_ordered : (i : ℕ) (ds : Documents ℤ) → DocumentsFit ds → AreOrdered (item_parts i ds)
  items_ordered i no_documents h = tt
  items_ordered i (item d ds) h = (document_ordered d h.0, before_items i (suc i) ds (omega arith), items_ordered (suc i) ds h.1)

  properties_ordered : (ps : Properties ℤ) → PropertiesFit ps → NamesAscend ps → AreOrdered (property_parts ps)
  properties_ordered no_properties h up = tt
  properties_ordered (property name d ps) h up = (document_ordered d h.1, first_properties name ps up, properties_ordered ps h.2 (above name ps up))

-- ---- values

before_elements : (i j : ℕ) (vs : Values) → i < j → IsBefore (element i) (element_parts j vs)
before_elements i j no_values h = tt
before_elements i j (value v vs) h = (less i j h, before_elements i (suc j) vs (omega (arith, h)))

before_entries : (low name : List ℕ) (es : MapEntries) → slice_cmp nat_cmp low name ≡ Less → KeysAscendAbove name es → IsBefore (key low) (entry_parts es)
before_entries low name no_map_entries h up = tt
before_entries low name (map_entry at v es) h up =
    let below = nat_list_cmp_total.trans low name at h up.0 in
    (below, before_entries low at es below up.1)

first_entries : (name : List ℕ) (es : MapEntries) → KeysAscendAbove name es → IsBefore (key name) (entry_parts es)
first_entries name no_map_entries up = tt
first_entries name (map_entry at v es) up = (up.0, before_entries name at es up.0 up.1)

keys_above : (name : List ℕ) (es : MapEntries) → KeysAscendAbove name es → KeysAscend es
keys_above name no_map_entries up = tt
keys_above name (map_entry at v es) up = up.1

before_members : (n least : ℕ) (ms : MemberValues) → n < least → AscendFrom least ms → IsBefore (member n) (member_parts ms)
before_members n least no_member_values h up = tt
before_members n least (member_value m v ms) h up =
    let low : n < m = (let from = up.0 in omega (arith, h, from)) in
    (less n m low, before_members n (suc m) ms (omega (arith, low)) up.1)

mutual
  value_ordered : (t : Table) (p : Place) (nulls : Bool) (v : Value) → FitsOr t p nulls v → IsOrdered (tree_of v)
  value_ordered t p nulls (scalar_value x) h = tt
  value_ordered t p nulls (values.list vs) h = elements_ordered t _ 0 vs h.1
  value_ordered t p nulls (values.map es) h = entries_ordered t _ es h.1 h.2
  value_ordered t p nulls (values.structure ms) h = members_ordered t _ 0 ms h.1 h.2
  value_ordered t p nulls (values.union n v) h = (value_ordered t h.1.0 _ v h.1.2, tt, tt)
  value_ordered t p nulls null_element h = tt
  value_ordered t p nulls (document_value d) h = document_ordered d h.1

  elements_ordered : (t : Table) (k : Kind) (i : ℕ) (vs : Values) → ElementsFit t k vs → AreOrdered (element_parts i vs)
  elements_ordered t k i no_values h = tt
  elements_ordered t k i (value v vs) h = (value_ordered t h.0.0 _ v h.0.2, before_elements i (suc i) vs (omega arith), elements_ordered t k (suc i) vs h.1)

  entries_ordered : (t : Table) (k : Kind) (es : MapEntries) → EntriesFit t k es → KeysAscend es → AreOrdered (entry_parts es)
  entries_ordered t k no_map_entries h up = tt
  entries_ordered t k (map_entry name v es) h up =
      (value_ordered t h.1.0 _ v h.1.2, first_entries name es up, entries_ordered t k es h.2 (keys_above name es up))

  members_ordered : (t : Table) (k : Kind) (least : ℕ) (ms : MemberValues) → MembersFit t k ms → AscendFrom least ms → AreOrdered (member_parts ms)
  members_ordered t k least no_member_values h up = tt
  members_ordered t k least (member_value n v ms) h up =
      (value_ordered t h.0.0 _ v h.0.2, before_members n (suc n) ms (omega arith) up.1, members_ordered t k (suc n) ms h.1 up.1)

pub ordered : (t : Table) (p : Place) (v : Value) → FitsOr t p false v → IsOrdered (tree_of v)
ordered t p v h = value_ordered t p false v h
