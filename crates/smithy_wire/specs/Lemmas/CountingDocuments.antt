-- How many parts documents have: one that is put under a name adds its own at most.
use Rattle.std.proofs.Common.{◌≡◌, ◌≤◌, ◌+◌, ℕ, suc, List, [], ◌∷◌, refl, ap, arith}
use Rattle.std.specs.Prelude.{fold}
use Rattle.std.specs.declared.cmp.Ordering.{Ordering}
use Rattle.std.specs.declared.cmp.Ordering.TheVariants.{Less, Equal, Greater}
use Rattle.std.specs.Cmp.Lexicographic.{slice_cmp}
use Rattle.std.specs.Ordering.{nat_cmp, match_ordering}
use Rattle.smithy_types.specs.Document.{Document, null, boolean, number, text, array, object, Documents, no_documents, item, Properties, no_properties, property, put_property, map_numbers, map_elements, map_properties, put_pair, properties_by}
use Rattle.smithy_declarations.specs.Documents.{document_nesting, documents_nesting, properties_nesting}
use Rattle.smithy_schema.specs.Nodes.{document_nodes, documents_nodes, properties_nodes}

module _ {N : Type 0} where
  -- ---- without parts

  nests_some : (d : Document N) → 1 ≤ document_nesting d
  nests_some null = omega arith
  nests_some (boolean b) = omega arith
  nests_some (number n) = omega arith
  nests_some (text s) = omega arith
  nests_some (array ds) = omega arith
  nests_some (object ps) = omega arith

  no_elements : (ds : Documents N) → documents_nesting ds ≤ 0 → documents_nodes ds ≤ 0
  no_elements no_documents h = omega arith
  no_elements (item d ds) h = omega (arith, nests_some d)

  none_named : (ps : Properties N) → properties_nesting ps ≤ 0 → properties_nodes ps ≤ 0
  none_named no_properties h = omega arith
  none_named (property name d ps) h = omega (arith, nests_some d)

  -- what nests no deeper than a document without parts is one
  pub flat_is_one : (d : Document N) → document_nesting d ≡ 1 → document_nodes d ≤ 1
  flat_is_one null h = omega arith
  flat_is_one (boolean b) h = omega arith
  flat_is_one (number n) h = omega arith
  flat_is_one (text s) h = omega arith
  flat_is_one (array ds) h = omega (arith, no_elements ds (omega arith))
  flat_is_one (object ps) h = omega (arith, none_named ps (omega arith))

  -- ---- properties by pairs

  -- the parts of all pairs
  abbrev pub pairs_nodes : List (List ℕ × Document N) → ℕ
  pairs_nodes [] = 0
  pairs_nodes (pair ∷ pairs) = document_nodes pair.1 + pairs_nodes pairs

  placed_counts : (name at : List ℕ) (d e : Document N) (rest more : Properties N) (order : Ordering) → properties_nodes more ≤ document_nodes d + properties_nodes rest
      → properties_nodes (match_ordering order (property name d (property at e rest)) (property at d rest) (property at e more))
      ≤ document_nodes d + properties_nodes (property at e rest)
  placed_counts name at d e rest more Less next = omega arith
  placed_counts name at d e rest more Equal next = omega arith
  placed_counts name at d e rest more Greater next = omega arith

  put_counts : (name : List ℕ) (d : Document N) (ps : Properties N) → properties_nodes (put_property name d ps) ≤ document_nodes d + properties_nodes ps
  put_counts name d no_properties = omega arith
  put_counts name d (property at e rest) =
      placed_counts name at d e rest (put_property name d rest) (slice_cmp nat_cmp name at) (put_counts name d rest)

  folded_counts : (ps : Properties N) (pairs : List (List ℕ × Document N)) → properties_nodes (fold put_pair ps pairs) ≤ properties_nodes ps + pairs_nodes pairs
  folded_counts ps [] = omega arith
  folded_counts ps (pair ∷ pairs) =
      omega (arith, folded_counts (put_property pair.0 pair.1 ps) pairs, put_counts pair.0 pair.1 ps)

  -- properties have no more parts than all that were put
  pub properties_count : (pairs : List (List ℕ × Document N)) → properties_nodes (properties_by pairs) ≤ pairs_nodes pairs
  properties_count pairs = omega (arith, folded_counts no_properties pairs)

-- ---- with another thing in place of each number

module _ {N M : Type 0} (f : N → M) where
  mutual
    -- a document has as many parts
    pub mapped_nodes : (d : Document N) → document_nodes (map_numbers f d) ≡ document_nodes d
    mapped_nodes null = refl
    mapped_nodes (boolean b) = refl
    mapped_nodes (number n) = refl
    mapped_nodes (text s) = refl
    mapped_nodes (array ds) = ap suc (mapped_elements ds)
    mapped_nodes (object ps) = ap suc (mapped_properties ps)

    mapped_elements : (ds : Documents N) → documents_nodes (map_elements f ds) ≡ documents_nodes ds
    mapped_elements no_documents = refl
    mapped_elements (item d ds) = rw (mapped_nodes d, mapped_elements ds) refl

    mapped_properties : (ps : Properties N) → properties_nodes (map_properties f ps) ≡ properties_nodes ps
    mapped_properties no_properties = refl
    mapped_properties (property name d ps) = rw (mapped_nodes d, mapped_properties ps) refl
