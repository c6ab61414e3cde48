-- The text of a document depends on the whole numbers of its numbers alone.
use Rattle.std.proofs.Common.{◌≡◌, ◌++◌, List, ℕ, ◌∷◌, [], refl, ap}
use Rattle.std.specs.Fmt.{signed_decimal}
use Rattle.smithy_types.specs.Document.{Document, null, boolean, number, text, array, object, Documents, no_documents, item, Properties, no_properties, property, map_elements, map_properties, whole_document}
use Rattle.smithy_types.specs.Number.{whole_number}
use Rattle.smithy_types.specs.declared.number.Number.{Number}
use Rattle.smithy_types.specs.declared.number.Number.TheVariants.{PosInt, NegInt}
use Rattle.smithy_json_grammar.specs.Ascii.{begin_array, end_array, begin_object, end_object}
use Rattle.smithy_json.specs.DocumentText.{comma, elements_text_by, properties_text_by}
use Rattle.smithy_json.specs.DocumentText as json
use Rattle.smithy_json.specs.ValueTexts.{number_text}
use Rattle.smithy_json_codec.specs.Canonical.{document_text}

whole_number_text : (n : Number) → number_text n ≡ signed_decimal (whole_number n)
whole_number_text (PosInt n) = refl
whole_number_text (NegInt z) = refl

mutual
  pub whole_text : (d : Document Number) → json.document_text d ≡ document_text (whole_document d)
  whole_text null = refl
  whole_text (boolean b) = refl
  whole_text (number n) = whole_number_text n
  whole_text (text s) = refl
  whole_text (array ds) = ap (λ inside. begin_array ∷ (inside ++ end_array ∷ [])) (elements_whole [] ds)
  whole_text (object ps) = ap (λ inside. begin_object ∷ (inside ++ end_object ∷ [])) (properties_whole [] ps)

  elements_whole : (parting : List ℕ) (ds : Documents Number)
      → elements_text_by number_text parting ds ≡ elements_text_by signed_decimal parting (map_elements whole_number ds)
  elements_whole parting no_documents = refl
  elements_whole parting (item d ds) = rw (whole_text d, elements_whole comma ds) refl

  properties_whole : (parting : List ℕ) (ps : Properties Number)
      → properties_text_by number_text parting ps ≡ properties_text_by signed_decimal parting (map_properties whole_number ps)
  properties_whole parting no_properties = refl
  properties_whole parting (property name d ps) = rw (whole_text d, properties_whole comma ps) refl
