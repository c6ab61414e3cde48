-- What stands in a body with the limits kept nests no deeper than they allow.
use Rattle.std.specs.Prelude.{◌≡◌, ◌≤◌, ◌-◌, ℕ, suc, List, [], Option, Some, None, option_map, true, refl, if◌then◌else◌}
use Rattle.std.specs.List.{AllByRecursion}
use Rattle.std.proofs.Common.{sym, arith, subst}
use Rattle.std.proofs.lemmas.Bool.Decides.{nat_tests}
use Rattle.smithy_types.specs.Document.{Document, null, array, object, Documents, no_documents, item, whole_document, properties_by}
use Rattle.smithy_types.specs.Number.{whole_number}
use Rattle.smithy_types.specs.declared.number.Number.{Number}
use Rattle.smithy_declarations.specs.declared.place.Place.{Place}
use Rattle.smithy_declarations.specs.declared.shape_type.Scalar.{Scalar}
use Rattle.smithy_shapes.specs.Limits.{Limits, kept, lifted, is_within}
use Rattle.smithy_schema.specs.Reading.{Mark}
use Rattle.smithy_declarations.specs.Table.{Table, Kind, scalar, structure_of, kind_of, place_in, IsDocument, IsList, IsMap, IsStructure, IsUnion}
use Rattle.smithy_declarations.specs.Documents.{document_nesting, documents_nesting}
use Rattle.smithy_declarations.specs.Value.{Value, scalar_value, list, map, structure, union, null_element, document_value, no_member_values, nesting}
use Rattle.smithy_shapes.specs.Container.{container_of}
use Rattle.smithy_shapes.specs.Fits.{Fits}
use Rattle.smithy_shapes.specs.Lemmas.Options.{same_some, step_apart, chosen, made}
use Rattle.smithy_shapes.proofs.NestingLemmas.{NestWithin, container_nests}
use Rattle.smithy_shapes.proofs.DocumentLemmas.{properties_nest, mapped_nesting}
use Rattle.smithy_wire.specs.Node.{Form, as_array, as_object, Node, null_node, leaf, container, missing, Nodes, no_nodes, node}
use Rattle.smithy_wire.specs.Rules.{Answer, settled, Rules, is_shallow, at_depth, key_text, position_in}
use Rattle.smithy_wire.specs.Documents.{document_of, elements_of, pairs_of, document_by, document_meaning}
use Rattle.smithy_wire.specs.Meaning.{leaf_meaning, is_in, missing_meaning, meaning, entries}
use Rattle.smithy_wire.specs.Frames.{Frames, Lies, NodesLie, relations}
use Rattle.smithy_wire.specs.Wire.{RulesFit}
use Rattle.smithy_wire.specs.Lemmas.Fitting.{settled_means, no_lifted_null}
use Rattle.smithy_wire.specs.Lemmas.Pairs.{pair_apart}
use Rattle.smithy_wire.specs.Lemmas.Places.{where_apart}

within_is : (limits : Limits) (greatest d : ℕ) → limits ≡ kept → is_within limits greatest d ≡ true → d ≤ greatest
within_is kept greatest d keeps h = grind (arith, nat_tests)
within_is lifted greatest d keeps h = cc

-- a value of a scalar's place is no container
scalar_is_flat : (t : Table) (p : Place) (s : Scalar) (v : Value) (most : ℕ) → kind_of t p ≡ scalar s → Fits t p v → nesting v ≤ most
scalar_is_flat t p s (scalar_value x) most kind fits = omega arith
scalar_is_flat t p s (list vs) most kind fits = absurd (subst IsList kind fits.0)
scalar_is_flat t p s (map es) most kind fits = absurd (subst IsMap kind fits.0)
scalar_is_flat t p s (structure ms) most kind fits = absurd (subst IsStructure kind fits.0)
scalar_is_flat t p s (union n v) most kind fits = absurd (subst IsUnion kind fits.0)
scalar_is_flat t p s null_element most kind fits = omega arith
scalar_is_flat t p s (document_value d) most kind fits = absurd (subst IsDocument kind fits.0)

missing_nests : (k : Kind) (v : Value) (most : ℕ) → missing_meaning k ≡ Some v → nesting v ≤ suc most
missing_nests (structure_of members) v most h = subst (λ u. nesting u ≤ suc most) (same_some (structure no_member_values) v h) (omega arith)
missing_nests _ v most h = cc

module _ {L : Type 0} (w : Frames L) (r : Rules L) (keeps : r.limits ≡ kept) (fits : RulesFit w r) (i : List ℕ) (t : Table) where
  -- how deep what stands inside so many containers may nest
  abbrev left : ℕ → ℕ
  left d = r.max_depth - d

  -- a container may stand there
  is_room : (d : ℕ) → is_shallow r d ≡ true → d ≤ r.max_depth
  is_room d h = within_is r.limits r.max_depth d keeps h

  leaf_nests : (p : Place) (k : Kind) (d : ℕ) (x : L) (a e : ℕ) (v : Value) → w.scalar i d x a e → kind_of t p ≡ k → leaf_meaning r k p.time x ≡ Some v
      → nesting v ≤ left d
  leaf_nests p (scalar s) d x a e v lies kind h = scalar_is_flat t p s v (left d) kind (fits.says_fits i d x a e lies t p s v kind keeps h)
  leaf_nests p _ d x a e v lies kind h = cc

  module _ (says : L → Answer (Document Number)) (carried : r.documents ≡ Some says) where
    mutual
      document_nests : (x : Node L) (d a e : ℕ) → Lies w i d x a e → (v : Document Number) → document_of r says d x ≡ Some v → document_nesting v ≤ left d
      document_nests null_node d a e lies v h =
          let at = chosen (is_shallow r (suc d)) (Some null) v h in
          subst (λ u. document_nesting u ≤ left d) (same_some null v at.1) (omega (arith, is_room (suc d) at.0))
      document_nests (leaf x) d a e lies v h =
          let at = chosen (is_shallow r (suc d)) (settled r.limits null (says x)) v h in
          omega (arith, is_room (suc d) at.0, (fits.document_fits i d x a e lies says v carried (settled_means r.limits null (says x) v keeps at.1)).1)
      document_nests (container as_array xs) d a e (b, m, opens, lie, follows) v h =
          let at = chosen (is_shallow r (suc d)) (option_map array (elements_of r says (suc d) xs)) v h in
          let ds = made array (elements_of r says (suc d) xs) v at.1 in
          subst (λ u. document_nesting u ≤ left d) ds.2 (omega (arith, is_room (suc d) at.0, elements_nest xs (suc d) b m e lie ds.0 ds.1))
      document_nests (container as_object xs) d a e (b, m, opens, lie, follows) v h =
          let by = λ (pairs : List (List ℕ × Document Number)). object (properties_by pairs) in
          let at = chosen (is_shallow r (suc d)) (option_map by (pairs_of r says (suc d) xs)) v h in
          let pairs = made by (pairs_of r says (suc d) xs) v at.1 in
          subst (λ u. document_nesting u ≤ left d) pairs.2
          (omega (arith, is_room (suc d) at.0, properties_nest (left (suc d)) pairs.0 (pairs_nest xs (suc d) b m e lie pairs.0 pairs.1)))
      document_nests missing d a e lies v h = cc

      elements_nest : (xs : Nodes L) (d b : ℕ) (m : Mark) (e : ℕ) → NodesLie w as_array i d xs b m e → (ds : Documents Number) → elements_of r says d xs ≡ Some ds
          → documents_nesting ds ≤ left d
      elements_nest no_nodes d b m e lie ds h = subst (λ us. documents_nesting us ≤ left d) (same_some no_documents ds h) (omega arith)
      elements_nest (node key x xs) d b m e (c, n, g, entry, lies, lie) ds h =
          let one = step_apart (document_of r says d x) (λ u. option_map (item u) (elements_of r says d xs)) ds h in
          let rest = made (item one.0) (elements_of r says d xs) ds one.2 in
          subst (λ us. documents_nesting us ≤ left d) rest.2
          (omega (arith, document_nests x d c g lies one.0 one.1, elements_nest xs d g n e lie rest.0 rest.1))

      pairs_nest : (xs : Nodes L) (d b : ℕ) (m : Mark) (e : ℕ) → NodesLie w as_object i d xs b m e → (pairs : List (List ℕ × Document Number))
          → pairs_of r says d xs ≡ Some pairs → AllByRecursion (λ (pair : List ℕ × Document Number). document_nesting pair.1 ≤ left d) pairs
      pairs_nest no_nodes d b m e lie pairs h =
          subst (λ ps. AllByRecursion (λ (pair : List ℕ × Document Number). document_nesting pair.1 ≤ left d) ps) (same_some [] pairs h) tt
      pairs_nest (node key x xs) d b m e (c, n, g, entry, lies, lie) pairs h =
          let p = pair_apart (key_text r as_object key) (document_of r says d x) (pairs_of r says d xs) pairs h in
          subst (λ ps. AllByRecursion (λ (pair : List ℕ × Document Number). document_nesting pair.1 ≤ left d) ps) p.whole
          (document_nests x d c g lies p.part p.means, pairs_nest xs d g n e lie p.rest p.behind)

  document_value_nests : (d : ℕ) (x : Node L) (a e : ℕ) → Lies w i d x a e → (v : Value) → document_meaning r d x ≡ Some v → nesting v ≤ left d
  document_value_nests d x a e lies v h = by r.documents refl h
    where
      by : (o : Option (L → Answer (Document Number))) → r.documents ≡ o → document_by r o d x ≡ Some v → nesting v ≤ left d
      by None none h = absurd (no_lifted_null r keeps x v h)
      by (Some says) carried h =
          let u = made (λ u. document_value (whole_document u)) (document_of r says d x) v h in
          subst (λ v. nesting v ≤ left d) u.2 (subst (λ n. n ≤ left d) (sym (mapped_nesting whole_number u.0)) (document_nests says carried x d a e lies u.0 u.1))

  mutual
    pub meaning_nests : (x : Node L) (d : ℕ) (p : Place) (v : Value) (a e : ℕ) → Lies w i d x a e → meaning r t p d x ≡ Some v → nesting v ≤ left d
    meaning_nests null_node d p v a e lies h =
        where_apart (kind_of t p) (document_meaning r d null_node) None v (nesting v ≤ left d) h (λ kind. document_value_nests d null_node a e lies v) (λ none. cc)
    meaning_nests (leaf x) d p v a e lies h =
        where_apart (kind_of t p) (document_meaning r d (leaf x)) (leaf_meaning r (kind_of t p) p.time x) v (nesting v ≤ left d) h
        (λ kind. document_value_nests d (leaf x) a e lies v) (leaf_nests p (kind_of t p) d x a e v lies refl)
    meaning_nests (container f xs) d p v a e (b, m, opens, lie, follows) h =
        let es = entries r t p f (suc d) xs in
        let inner = if is_in (kind_of t p) f then container_of (kind_of t p) es else None in
        where_apart (kind_of t p) (document_meaning r d (container f xs)) (at_depth r (suc d) inner) v (nesting v ≤ left d) h
        (λ kind. document_value_nests d (container f xs) a e (b, m, opens, lie, follows) v)
        (λ there.
        let at = chosen (is_shallow r (suc d)) inner v there in
        let means = chosen (is_in (kind_of t p) f) (container_of (kind_of t p) es) v at.1 in
        omega (arith, is_room (suc d) at.0, container_nests (kind_of t p) es (left (suc d)) v (entries_nest xs (suc d) p f b m e lie) means.1))
    meaning_nests missing d p v a e lies h =
        let at = chosen (is_shallow r (suc d)) (missing_meaning (kind_of t p)) v h in
        omega (arith, is_room (suc d) at.0, missing_nests (kind_of t p) v (left (suc d)) at.1)

    entries_nest : (xs : Nodes L) (d : ℕ) (p : Place) (f : Form) (b : ℕ) (m : Mark) (e : ℕ) → NodesLie w f i d xs b m e
        → NestWithin (left d) (entries r t p f d xs)
    entries_nest no_nodes d p f b m e lie = tt
    entries_nest (node key x xs) d p f b m e (c, n, g, entry, lies, lie) = (
      λ v h.
          let q = step_apart (place_in (kind_of t p) (position_in r (kind_of t p) (key_text r f key))) (λ q. meaning r t q d x) v h in
          meaning_nests x d q.0 v c g lies q.2,
      entries_nest xs d p f g n e lie,
    )

-- what stands nests no deeper than is left for it
pub stands_within_depth : {L : Type 0} (w : Frames L) (r : Rules L) → r.limits ≡ kept → RulesFit w r → (i : List ℕ) (t : Table) (p : Place) (d a : ℕ) (v : Value) (e : ℕ)
    → (relations w r).stands i t p d a v e → nesting v ≤ r.max_depth - d
stands_within_depth w r keeps fits i t p d a v e (x, lies, is, ends) = meaning_nests w r keeps fits i t x d p v a e lies is
