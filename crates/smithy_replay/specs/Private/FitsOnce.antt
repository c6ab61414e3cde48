-- A value fits its place in one way at most, so a struct may keep the proof of it.
use Rattle.std.proofs.Common.{◌≡◌, ℕ, suc, ℤ, List, Bool, false, Option, Some, None, sym, ◌∙◌, ap}
use Rattle.std.proofs.Props.{props}
use Rattle.std.specs.Coded.{×_prop, le_prop}
use mathlib.Core.HLevel.{Σ_prop_path, ×₃_prop}
use mathlib.Core.Sum.{⊎_set}
use Rattle.smithy_declarations.specs.declared.place.Place.{Place}
use Rattle.smithy_declarations.specs.Table.{Table, Kind, scalar, document, structure_of, union_of, list_of, map_of, nothing, kind_of, place_in, is_sparse, IsDocument, IsList, IsMap, IsStructure, IsUnion}
use Rattle.smithy_types.specs.Document.{Document, null, boolean as true_or_false, number, text as string, array, object, Documents, no_documents, item, Properties, no_properties, property}
use Rattle.smithy_declarations.specs.Documents.{NamesAscendAbove, NamesAscend, DocumentFits, DocumentsFit, PropertiesFit}
use Rattle.smithy_declarations.specs.Value.{Value, scalar_value, list, map, structure, union, null_element, document_value, Values, no_values, value, MapEntries, no_map_entries, map_entry, MemberValues, no_member_values, member_value}
use Rattle.smithy_shapes.specs.Fits.{AscendFrom, KeysAscendAbove, KeysAscend, FitsOr, ElementsFit, EntriesFit, MembersFit}

some_is : {A : Type 0} (x y : A) → Some x ≡ Some y → x ≡ y
some_is x y h = cc

list_once : (k : Kind) → IsProp (IsList k)
list_once (scalar s) = hlevel
list_once document = hlevel
list_once (structure_of ms) = hlevel
list_once (union_of ms) = hlevel
list_once (list_of l) = hlevel
list_once (map_of m) = hlevel
list_once nothing = hlevel

map_once : (k : Kind) → IsProp (IsMap k)
map_once (scalar s) = hlevel
map_once document = hlevel
map_once (structure_of ms) = hlevel
map_once (union_of ms) = hlevel
map_once (list_of l) = hlevel
map_once (map_of m) = hlevel
map_once nothing = hlevel

pub structure_once : (k : Kind) → IsProp (IsStructure k)
structure_once (scalar s) = hlevel
structure_once document = hlevel
structure_once (structure_of ms) = hlevel
structure_once (union_of ms) = hlevel
structure_once (list_of l) = hlevel
structure_once (map_of m) = hlevel
structure_once nothing = hlevel

union_once : (k : Kind) → IsProp (IsUnion k)
union_once (scalar s) = hlevel
union_once document = hlevel
union_once (structure_of ms) = hlevel
union_once (union_of ms) = hlevel
union_once (list_of l) = hlevel
union_once (map_of m) = hlevel
union_once nothing = hlevel

document_once : (k : Kind) → IsProp (IsDocument k)
document_once (scalar s) = hlevel
document_once document = hlevel
document_once (structure_of ms) = hlevel
document_once (union_of ms) = hlevel
document_once (list_of l) = hlevel
document_once (map_of m) = hlevel
document_once nothing = hlevel

place_is_once : (o : Option Place) (p : Place) → IsProp (o ≡ Some p)
place_is_once o p = hlevel (props, ⊎_set)

-- what holds in one way of each place holds in one way of the one that is told
place_once : (o : Option Place) (F : Place → Type 0) → ((p : Place) → IsProp (F p)) → IsProp ((p : Place) × (o ≡ Some p) × F p)
place_once o F once x y =
    ap (λ (t : (p : Place) × ((o ≡ Some p) × F p)). (t.0, t.1.0, t.1.1))
    (Σ_prop_path {A = Place} {B = λ p. (o ≡ Some p) × F p} (λ p. ×_prop (place_is_once o p) (once p)) {u = (x.0, (x.1, x.2))} {v = (y.0, (y.1, y.2))} (some_is x.0 y.0 (sym x.1 ∙ y.1)))

ascend_once : (least : ℕ) (ms : MemberValues) → IsProp (AscendFrom least ms)
ascend_once least no_member_values = hlevel
ascend_once least (member_value n v ms) = let rest = ascend_once (suc n) ms in hlevel (le_prop, rest)

above_once : (key : List ℕ) (es : MapEntries) → IsProp (KeysAscendAbove key es)
above_once key no_map_entries = hlevel
above_once key (map_entry at v es) = let rest = above_once at es in hlevel (props, ⊎_set, rest)

keys_once : (es : MapEntries) → IsProp (KeysAscend es)
keys_once no_map_entries = hlevel
keys_once (map_entry key v es) = above_once key es

names_above_once : (name : List ℕ) (ps : Properties ℤ) → IsProp (NamesAscendAbove name ps)
names_above_once name no_properties = hlevel
names_above_once name (property at d ps) = let rest = names_above_once at ps in hlevel (props, ⊎_set, rest)

names_once : (ps : Properties ℤ) → IsProp (NamesAscend ps)
names_once no_properties = hlevel
names_once (property name d ps) = names_above_once name ps

mutual
  document_fits_once : (d : Document ℤ) → IsProp (DocumentFits d)
  document_fits_once null = hlevel
  document_fits_once (true_or_false b) = hlevel
  document_fits_once (number n) = hlevel props
  document_fits_once (string s) = hlevel props
  document_fits_once (array ds) = documents_fit_once ds
  document_fits_once (object ps) = ×_prop (properties_fit_once ps) (names_once ps)

  documents_fit_once : (ds : Documents ℤ) → IsProp (DocumentsFit ds)
  documents_fit_once no_documents = hlevel
  documents_fit_once (item d ds) = ×_prop (document_fits_once d) (documents_fit_once ds)

  properties_fit_once : (ps : Properties ℤ) → IsProp (PropertiesFit ps)
  properties_fit_once no_properties = hlevel
  properties_fit_once (property name d ps) = ×₃_prop (hlevel props) (document_fits_once d) (properties_fit_once ps)

mutual
  pub fits_once : (t : Table) (p : Place) (nulls : Bool) (v : Value) → IsProp (FitsOr t p nulls v)
  fits_once t p nulls (scalar_value x) = hlevel props
  fits_once t p nulls (list vs) = ×_prop (list_once (kind_of t p)) (elements_once t (kind_of t p) vs)
  fits_once t p nulls (map es) = ×₃_prop (map_once (kind_of t p)) (entries_once t (kind_of t p) es) (keys_once es)
  fits_once t p nulls (structure ms) = ×₃_prop (structure_once (kind_of t p)) (members_once t (kind_of t p) ms) (ascend_once 0 ms)
  fits_once t p nulls (union n v) =
      ×_prop (union_once (kind_of t p)) (place_once (place_in (kind_of t p) (Some n)) (λ inner. FitsOr t inner false v) (λ inner. fits_once t inner false v))
  fits_once t p nulls null_element = hlevel props
  fits_once t p nulls (document_value d) = ×_prop (document_once (kind_of t p)) (document_fits_once d)

  elements_once : (t : Table) (k : Kind) (vs : Values) → IsProp (ElementsFit t k vs)
  elements_once t k no_values = hlevel
  elements_once t k (value v vs) =
      ×_prop (place_once (place_in k None) (λ p. FitsOr t p (is_sparse k) v) (λ p. fits_once t p (is_sparse k) v)) (elements_once t k vs)

  entries_once : (t : Table) (k : Kind) (es : MapEntries) → IsProp (EntriesFit t k es)
  entries_once t k no_map_entries = hlevel
  entries_once t k (map_entry key v es) =
      ×₃_prop (hlevel props) (place_once (place_in k None) (λ p. FitsOr t p (is_sparse k) v) (λ p. fits_once t p (is_sparse k) v)) (entries_once t k es)

  pub members_once : (t : Table) (k : Kind) (ms : MemberValues) → IsProp (MembersFit t k ms)
  members_once t k no_member_values = hlevel
  members_once t k (member_value n v ms) =
      ×_prop (place_once (place_in k (Some n)) (λ p. FitsOr t p false v) (λ p. fits_once t p false v)) (members_once t k ms)
