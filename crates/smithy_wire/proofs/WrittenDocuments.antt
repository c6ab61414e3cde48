-- The node as which a document is written means the document, where the depth leaves room for it, and can be written.
use Rattle.std.specs.Prelude.{◌≡◌, ◌≤◌, ◌+◌, ℕ, ℤ, suc, List, true, Option, Some, None, option_map, refl, if◌then◌else◌}
use Rattle.std.proofs.Common.{sym, ap, ◌∙◌, arith, subst}
use Rattle.std.proofs.lemmas.Bool.Decides.{nat_tests}
use Rattle.smithy_types.specs.Document.{Document, null, boolean, number, text, array, object, Documents, no_documents, item, Properties, no_properties, property, map_elements, map_properties, whole_document, properties_by}
use Rattle.smithy_types.specs.Number.{whole_number}
use Rattle.smithy_types.specs.declared.number.Number.{Number}
use Rattle.smithy_declarations.specs.declared.place.Place.{Place}
use Rattle.smithy_shapes.specs.Limits.{Limits, kept, lifted, is_within}
use Rattle.smithy_declarations.specs.Table.{Table, document, kind_of}
use Rattle.smithy_declarations.specs.Documents.{document_nesting, documents_nesting, properties_nesting, NamesAscend, DocumentFits, DocumentsFit, PropertiesFit}
use Rattle.smithy_declarations.specs.Value.{document_value}
use Rattle.smithy_shapes.proofs.DocumentLemmas.{pairs_from, properties_back, names_were}
use Rattle.smithy_wire.specs.Node.{as_array, as_object, missing}
use Rattle.smithy_wire.specs.Rules.{settled, Rules, at_depth}
use Rattle.smithy_wire.specs.Documents.{document_of, elements_of, pairs_of, document_by}
use Rattle.smithy_wire.specs.Meaning.{meaning}
use Rattle.smithy_wire.specs.Written.{Leaves, document_node, document_nodes, property_nodes, written_document, ReadsLeaves, ReadsDocuments}
use Rattle.smithy_wire.specs.Writes.{Writes, IsWritable, AreWritable, WritesLeaves, WritesDocuments}
use Rattle.smithy_wire.specs.Lemmas.Places.{means_document}

pub shallow_within : (limits : Limits) (greatest d : ℕ) → d ≤ greatest → is_within limits greatest d ≡ true
shallow_within kept greatest d h = grind (arith, nat_tests)
shallow_within lifted greatest d h = refl

-- a wire that writes documents writes the node
pub written_node_is : {L : Type 0} (l : Leaves L) (v : Document ℤ) → l.holds.documents ≡ true → written_document l v ≡ document_node l v
written_node_is l v held = ap (λ b. if b then document_node l v else missing) held

module _ {L : Type 0} (l : Leaves L) (r : Rules L) (reads : ReadsLeaves l r) (docs : ReadsDocuments l r) where
  within_depth : {A : Type 0} (d : ℕ) (o : Option A) → suc d ≤ r.max_depth → at_depth r (suc d) o ≡ o
  within_depth d o deep = ap (λ b. if b then o else None) (shallow_within r.limits r.max_depth (suc d) deep)

  mutual
    -- the node of a document means it, each number in some variant
    pub document_means : (v : Document ℤ) (d : ℕ) → DocumentFits v → d + document_nesting v ≤ r.max_depth
        → (x : Document Number) × (document_of r docs.says d (document_node l v) ≡ Some x) × (whole_document x ≡ v)
    document_means null d fits deep = (null, within_depth d (Some null) (omega (arith, deep)), refl)
    document_means (boolean b) d fits deep =
        (boolean b, within_depth d _ (omega (arith, deep)) ∙ ap (settled r.limits null) (docs.boolean_means b), refl)
    document_means (number n) d fits deep =
        let x = docs.number_means n fits in (x.0, within_depth d _ (omega (arith, deep)) ∙ ap (settled r.limits null) x.1, x.2)
    document_means (text s) d fits deep =
        (text s, within_depth d _ (omega (arith, deep)) ∙ ap (settled r.limits null) (docs.text_means s fits), refl)
    document_means (array ds) d fits deep =
        let xs = elements_mean ds (suc d) fits (omega (arith, deep)) in
        (array xs.0, within_depth d _ (omega (arith, deep)) ∙ ap (option_map array) xs.1, ap array xs.2)
    document_means (object ps) d fits deep =
        let qs = properties_mean ps (suc d) fits.0 (omega (arith, deep)) in
        let back = properties_back qs.0 (names_were whole_number qs.0 (subst NamesAscend (sym qs.2) fits.1)) in (
          object qs.0,
          within_depth d _ (omega (arith, deep))
              ∙ (ap (option_map (λ (pairs : List (List ℕ × Document Number)). object (properties_by pairs))) qs.1 ∙ ap (λ xs. Some (object xs)) back),
          ap object qs.2,
        )

    elements_mean : (ds : Documents ℤ) (d : ℕ) → DocumentsFit ds → d + documents_nesting ds ≤ r.max_depth
        → (xs : Documents Number) × (elements_of r docs.says d (document_nodes l ds) ≡ Some xs) × (map_elements whole_number xs ≡ ds)
    elements_mean no_documents d fits deep = (no_documents, refl, refl)
    elements_mean (item v ds) d fits deep =
        let one = document_means v d fits.0 (omega (arith, deep)) in
        let rest = elements_mean ds d fits.1 (omega (arith, deep)) in
        (item one.0 rest.0, rw (one.1, rest.1) refl, rw (one.2, rest.2) refl)

    properties_mean : (ps : Properties ℤ) (d : ℕ) → PropertiesFit ps → d + properties_nesting ps ≤ r.max_depth
        → (qs : Properties Number) × (pairs_of r docs.says d (property_nodes l ps) ≡ Some (pairs_from qs)) × (map_properties whole_number qs ≡ ps)
    properties_mean no_properties d fits deep = (no_properties, refl, refl)
    properties_mean (property name v ps) d fits deep =
        let one = document_means v d fits.1 (omega (arith, deep)) in
        let rest = properties_mean ps d fits.2 (omega (arith, deep)) in
        (property name one.0 rest.0, rw (reads.key_means name fits.0, one.1, rest.1) refl, rw (one.2, rest.2) refl)

  -- so it means the value at a place of documents
  pub document_value_means : (t : Table) (p : Place) (v : Document ℤ) (d : ℕ) → kind_of t p ≡ document → DocumentFits v → d + document_nesting v ≤ r.max_depth
      → meaning r t p d (document_node l v) ≡ Some (document_value v)
  document_value_means t p v d kind fits deep =
      let x = document_means v d fits deep in
      let node = document_node l v in
      means_document r t p d node kind
      ∙ (ap (λ o. document_by r o d node) docs.carried
      ∙ (ap (option_map (λ u. document_value (whole_document u))) x.1 ∙ ap (λ u. Some (document_value u)) x.2))

module _ {L : Type 0} (w : Writes L) (l : Leaves L) (leaves : WritesLeaves w l) (docs : WritesDocuments w l) where
  mutual
    pub document_writable : (v : Document ℤ) → DocumentFits v → IsWritable w (document_node l v)
    document_writable null fits = tt
    document_writable (boolean b) fits = docs.boolean_is b
    document_writable (number n) fits = docs.number_is n fits
    document_writable (text s) fits = docs.text_is s fits
    document_writable (array ds) fits = elements_writable ds fits
    document_writable (object ps) fits = properties_writable ps fits.0

    elements_writable : (ds : Documents ℤ) → DocumentsFit ds → AreWritable w as_array (document_nodes l ds)
    elements_writable no_documents fits = tt
    elements_writable (item v ds) fits = (tt, document_writable v fits.0, elements_writable ds fits.1)

    properties_writable : (ps : Properties ℤ) → PropertiesFit ps → AreWritable w as_object (property_nodes l ps)
    properties_writable no_properties fits = tt
    properties_writable (property name v ps) fits = (leaves.key_is name fits.0, document_writable v fits.1, properties_writable ps fits.2)
