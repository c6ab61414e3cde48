-- The text in which a document is written: no white space, and the properties in the order of their names' bytes.
use Rattle.std.specs.Prelude.{ℕ, List, [], ◌∷◌, ◌++◌, codes}
use Rattle.smithy_types.specs.Document.{Document, null, boolean, number, text, array, object, Documents, no_documents, item, Properties, no_properties, property}
use Rattle.smithy_types.specs.PrimitiveText.{boolean_text}
use Rattle.smithy_types.specs.declared.number.Number.{Number}
use Rattle.smithy_json_grammar.specs.Ascii.{value_separator, begin_array, end_array, begin_object, end_object}
use Rattle.smithy_json.specs.Escape.{quoted}
use Rattle.smithy_json.specs.ValueTexts.{name_text, number_text}

-- what parts an element or a property from the one before
abbrev pub comma : List ℕ
comma = value_separator ∷ []

abbrev mutual
  -- where this is how a number is written
  pub document_text_by : {N : Type 0} → (N → List ℕ) → Document N → List ℕ
  document_text_by written null = codes "null"
  document_text_by written (boolean b) = boolean_text b
  document_text_by written (number n) = written n
  document_text_by written (text s) = quoted s
  document_text_by written (array ds) = begin_array ∷ (elements_text_by written [] ds ++ end_array ∷ [])
  document_text_by written (object ps) = begin_object ∷ (properties_text_by written [] ps ++ end_object ∷ [])

  -- each element behind what parts it from the one before: nothing at first, and then a comma
  pub elements_text_by : {N : Type 0} → (N → List ℕ) → List ℕ → Documents N → List ℕ
  elements_text_by written parting no_documents = []
  elements_text_by written parting (item d ds) =
      parting ++ (document_text_by written d ++ elements_text_by written comma ds)

  -- each property, with its name in front, behind what parts it from the one before: nothing at first, and then a comma
  pub properties_text_by : {N : Type 0} → (N → List ℕ) → List ℕ → Properties N → List ℕ
  properties_text_by written parting no_properties = []
  properties_text_by written parting (property name d ps) =
      parting ++ (name_text name ++ (document_text_by written d ++ properties_text_by written comma ps))

-- each number as its whole number in decimal
abbrev pub document_text : Document Number → List ℕ
document_text d = document_text_by number_text d

abbrev pub elements_text : List ℕ → Documents Number → List ℕ
elements_text parting ds = elements_text_by number_text parting ds

abbrev pub properties_text : List ℕ → Properties Number → List ℕ
properties_text parting ps = properties_text_by number_text parting ps
