-- Documents as values: how deep they nest, and which of them can be values.
use Rattle.std.specs.Prelude.{◌≡◌, ℕ, suc, max, ℤ, List, true, IsUtf8}
use Rattle.std.specs.declared.cmp.Ordering.TheVariants.{Less}
use Rattle.std.specs.Ordering.{nat_cmp}
use Rattle.std.specs.Cmp.Lexicographic.{slice_cmp}
use Rattle.smithy_types.specs.Document.{Document, null, boolean, number, text, array, object, Documents, no_documents, item, Properties, no_properties, property, is_document_number}

abbrev mutual
  -- how deep documents nest: 1 for one without parts, else one more than the deepest part
  pub document_nesting : {N : Type 0} → Document N → ℕ
  document_nesting null = 1
  document_nesting (boolean b) = 1
  document_nesting (number n) = 1
  document_nesting (text s) = 1
  document_nesting (array ds) = suc (documents_nesting ds)
  document_nesting (object ps) = suc (properties_nesting ps)

  -- the greatest of the elements
  pub documents_nesting : {N : Type 0} → Documents N → ℕ
  documents_nesting no_documents = 0
  documents_nesting (item d ds) = max (document_nesting d) (documents_nesting ds)

  -- the greatest of the properties
  pub properties_nesting : {N : Type 0} → Properties N → ℕ
  properties_nesting no_properties = 0
  properties_nesting (property name d ps) = max (document_nesting d) (properties_nesting ps)

-- the first name, if there is one, is above this one in byte order, and so on
abbrev pub NamesAscendAbove : {N : Type 0} → List ℕ → Properties N → Type 0
NamesAscendAbove name no_properties = Unit {0}
NamesAscendAbove name (property at d ps) = (slice_cmp nat_cmp name at ≡ Less) × NamesAscendAbove at ps

-- the names ascend, each once
abbrev pub NamesAscend : {N : Type 0} → Properties N → Type 0
NamesAscend no_properties = Unit {0}
NamesAscend (property name d ps) = NamesAscendAbove name ps

abbrev mutual
  -- each number is of 64 bits, and each text and each name in UTF-8; names ascend
  pub DocumentFits : Document ℤ → Type 0
  DocumentFits null = Unit {0}
  DocumentFits (boolean b) = Unit {0}
  DocumentFits (number n) = is_document_number n ≡ true
  DocumentFits (text s) = IsUtf8 s
  DocumentFits (array ds) = DocumentsFit ds
  DocumentFits (object ps) = PropertiesFit ps × NamesAscend ps

  -- the elements of an array
  pub DocumentsFit : Documents ℤ → Type 0
  DocumentsFit no_documents = Unit {0}
  DocumentsFit (item d ds) = DocumentFits d × DocumentsFit ds

  -- the properties of an object
  pub PropertiesFit : Properties ℤ → Type 0
  PropertiesFit no_properties = Unit {0}
  PropertiesFit (property name d ps) = IsUtf8 name × DocumentFits d × PropertiesFit ps
