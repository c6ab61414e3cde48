-- What a node means has no more values than the node has nodes, so where a value stands are bytes for it and all values inside of it.
use Rattle.std.specs.Prelude.{◌≡◌, ◌≤◌, ◌+◌, ℕ, suc, List, [], Option, Some, None, option_map, refl, if◌then◌else◌}
use Rattle.std.proofs.Common.{sym, arith, subst, inl, inr}
use Rattle.smithy_types.specs.Document.{Document, null, array, object, Documents, no_documents, item, whole_document, properties_by}
use Rattle.smithy_types.specs.Number.{whole_number}
use Rattle.smithy_types.specs.declared.number.Number.{Number}
use Rattle.smithy_declarations.specs.declared.place.Place.{Place}
use Rattle.smithy_declarations.specs.declared.shape_type.Scalar.{Scalar}
use Rattle.smithy_shapes.specs.Limits.{kept}
use Rattle.smithy_schema.specs.Reading.{Mark, HaveBytes}
use Rattle.smithy_declarations.specs.Table.{Table, Kind, scalar, structure_of, kind_of, place_in, IsDocument, IsList, IsMap, IsStructure, IsUnion}
use Rattle.smithy_declarations.specs.Value.{Value, scalar_value, list, map, structure, union, null_element, document_value, no_member_values}
use Rattle.smithy_shapes.specs.Container.{container_of}
use Rattle.smithy_shapes.specs.Fits.{Fits}
use Rattle.smithy_shapes.specs.Lemmas.Options.{same_some, step_apart, chosen, made}
use Rattle.smithy_wire.specs.Node.{Form, as_array, as_object, Node, null_node, leaf, container, missing, Nodes, no_nodes, node}
use Rattle.smithy_wire.specs.Rules.{Answer, settled, Rules, is_shallow, at_depth, key_text, position_in}
use Rattle.smithy_wire.specs.Documents.{document_of, elements_of, pairs_of, document_by, document_meaning}
use Rattle.smithy_wire.specs.Meaning.{leaf_meaning, is_in, missing_meaning, meaning, entries}
use Rattle.smithy_wire.specs.Frames.{Frames, Lies, NodesLie, relations}
use Rattle.smithy_wire.specs.Wire.{IsWire, RulesFit}
use Rattle.smithy_wire.specs.Lemmas.Fitting.{settled_means, no_lifted_null}
use Rattle.smithy_wire.specs.Lemmas.Pairs.{pair_apart}
use Rattle.smithy_wire.specs.Lemmas.Places.{where_apart}
use Rattle.smithy_schema.specs.Nodes.{document_nodes, documents_nodes, nodes}
use Rattle.smithy_wire.specs.Lemmas.CountingNodes.{size, sizes, size_is_some, takes_bytes}
use Rattle.smithy_wire.specs.Lemmas.CountingDocuments.{flat_is_one, pairs_nodes, properties_count, mapped_nodes}
use Rattle.smithy_wire.specs.Lemmas.CountingContainers.{HaveRoom, container_counts}

-- a value of a scalar's place is one
scalar_is_one : (t : Table) (p : Place) (s : Scalar) (v : Value) → kind_of t p ≡ scalar s → Fits t p v → nodes v ≤ 1
scalar_is_one t p s (scalar_value x) kind fits = omega arith
scalar_is_one t p s (list vs) kind fits = absurd (subst IsList kind fits.0)
scalar_is_one t p s (map es) kind fits = absurd (subst IsMap kind fits.0)
scalar_is_one t p s (structure ms) kind fits = absurd (subst IsStructure kind fits.0)
scalar_is_one t p s (union n v) kind fits = absurd (subst IsUnion kind fits.0)
scalar_is_one t p s null_element kind fits = omega arith
scalar_is_one t p s (document_value d) kind fits = absurd (subst IsDocument kind fits.0)

missing_is_one : (k : Kind) (v : Value) → missing_meaning k ≡ Some v → nodes v ≤ 1
missing_is_one (structure_of members) v h = subst (λ u. nodes u ≤ 1) (same_some (structure no_member_values) v h) (omega arith)
missing_is_one _ v h = cc

module _ {L : Type 0} (w : Frames L) (r : Rules L) (keeps : r.limits ≡ kept) (fits : RulesFit w r) (i : List ℕ) (t : Table) where
  leaf_counts : (p : Place) (k : Kind) (d : ℕ) (x : L) (a e : ℕ) (v : Value) → w.scalar i d x a e → kind_of t p ≡ k → leaf_meaning r k p.time x ≡ Some v
      → nodes v ≤ 1
  leaf_counts p (scalar s) d x a e v lies kind h = scalar_is_one t p s v kind (fits.says_fits i d x a e lies t p s v kind keeps h)
  leaf_counts p _ d x a e v lies kind h = cc

  module _ (says : L → Answer (Document Number)) (carried : r.documents ≡ Some says) where
    mutual
      document_counts : (x : Node L) (d a e : ℕ) → Lies w i d x a e → (v : Document Number) → document_of r says d x ≡ Some v → document_nodes v ≤ size x
      document_counts null_node d a e lies v h =
          subst (λ u. document_nodes u ≤ 1) (same_some null v (chosen (is_shallow r (suc d)) (Some null) v h).1) (omega arith)
      document_counts (leaf x) d a e lies v h =
          let here = (chosen (is_shallow r (suc d)) (settled r.limits null (says x)) v h).1 in
          flat_is_one v (fits.document_fits i d x a e lies says v carried (settled_means r.limits null (says x) v keeps here)).1
      document_counts (container as_array xs) d a e (b, m, opens, lie, follows) v h =
          let ds = made array (elements_of r says (suc d) xs) v (chosen (is_shallow r (suc d)) (option_map array (elements_of r says (suc d) xs)) v h).1 in
          subst (λ u. document_nodes u ≤ suc (sizes xs)) ds.2 (omega (arith, elements_count xs (suc d) b m e lie ds.0 ds.1))
      document_counts (container as_object xs) d a e (b, m, opens, lie, follows) v h =
          let by = λ (pairs : List (List ℕ × Document Number)). object (properties_by pairs) in
          let pairs = made by (pairs_of r says (suc d) xs) v (chosen (is_shallow r (suc d)) (option_map by (pairs_of r says (suc d) xs)) v h).1 in
          subst (λ u. document_nodes u ≤ suc (sizes xs)) pairs.2
          (omega (arith, properties_count pairs.0, pairs_count xs (suc d) b m e lie pairs.0 pairs.1))
      document_counts missing d a e lies v h = cc

      elements_count : (xs : Nodes L) (d b : ℕ) (m : Mark) (e : ℕ) → NodesLie w as_array i d xs b m e → (ds : Documents Number) → elements_of r says d xs ≡ Some ds
          → documents_nodes ds ≤ sizes xs
      elements_count no_nodes d b m e lie ds h = subst (λ us. documents_nodes us ≤ 0) (same_some no_documents ds h) (omega arith)
      elements_count (node key x xs) d b m e (c, n, g, entry, lies, lie) ds h =
          let one = step_apart (document_of r says d x) (λ u. option_map (item u) (elements_of r says d xs)) ds h in
          let rest = made (item one.0) (elements_of r says d xs) ds one.2 in
          subst (λ us. documents_nodes us ≤ size x + sizes xs) rest.2
          (omega (arith, document_counts x d c g lies one.0 one.1, elements_count xs d g n e lie rest.0 rest.1))

      pairs_count : (xs : Nodes L) (d b : ℕ) (m : Mark) (e : ℕ) → NodesLie w as_object i d xs b m e → (pairs : List (List ℕ × Document Number))
          → pairs_of r says d xs ≡ Some pairs → pairs_nodes pairs ≤ sizes xs
      pairs_count no_nodes d b m e lie pairs h = subst (λ ps. pairs_nodes ps ≤ 0) (same_some [] pairs h) (omega arith)
      pairs_count (node key x xs) d b m e (c, n, g, entry, lies, lie) pairs h =
          let p = pair_apart (key_text r as_object key) (document_of r says d x) (pairs_of r says d xs) pairs h in
          subst (λ ps. pairs_nodes ps ≤ size x + sizes xs) p.whole
          (omega (arith, document_counts x d c g lies p.part p.means, pairs_count xs d g n e lie p.rest p.behind))

  document_value_counts : (d : ℕ) (x : Node L) (a e : ℕ) → Lies w i d x a e → (v : Value) → document_meaning r d x ≡ Some v → nodes v ≤ size x
  document_value_counts d x a e lies v h = by r.documents refl h
    where
      by : (o : Option (L → Answer (Document Number))) → r.documents ≡ o → document_by r o d x ≡ Some v → nodes v ≤ size x
      by None none h = absurd (no_lifted_null r keeps x v h)
      by (Some says) carried h =
          let u = made (λ u. document_value (whole_document u)) (document_of r says d x) v h in
          subst (λ v. nodes v ≤ size x) u.2
          (subst (λ n. n ≤ size x) (sym (mapped_nodes whole_number u.0)) (document_counts says carried x d a e lies u.0 u.1))

  mutual
    -- a value has no more values in it than the node that means it has nodes
    pub meaning_counts : (x : Node L) (d : ℕ) (p : Place) (v : Value) (a e : ℕ) → Lies w i d x a e → meaning r t p d x ≡ Some v → nodes v ≤ size x
    meaning_counts null_node d p v a e lies h =
        where_apart (kind_of t p) (document_meaning r d null_node) None v (nodes v ≤ 1) h (λ kind. document_value_counts d null_node a e lies v) (λ none. cc)
    meaning_counts (leaf x) d p v a e lies h =
        where_apart (kind_of t p) (document_meaning r d (leaf x)) (leaf_meaning r (kind_of t p) p.time x) v (nodes v ≤ 1) h
        (λ kind. document_value_counts d (leaf x) a e lies v) (leaf_counts p (kind_of t p) d x a e v lies refl)
    meaning_counts (container f xs) d p v a e (b, m, opens, lie, follows) h =
        let es = entries r t p f (suc d) xs in
        let inner = if is_in (kind_of t p) f then container_of (kind_of t p) es else None in
        where_apart (kind_of t p) (document_meaning r d (container f xs)) (at_depth r (suc d) inner) v (nodes v ≤ suc (sizes xs)) h
        (λ kind. document_value_counts d (container f xs) a e (b, m, opens, lie, follows) v)
        (λ there.
        let means = chosen (is_in (kind_of t p) f) (container_of (kind_of t p) es) v (chosen (is_shallow r (suc d)) inner v there).1 in
        container_counts (kind_of t p) es (sizes xs) v (have_room xs (suc d) p f b m e lie) means.1)
    meaning_counts missing d p v a e lies h = missing_is_one (kind_of t p) v (chosen (is_shallow r (suc d)) (missing_meaning (kind_of t p)) v h).1

    have_room : (xs : Nodes L) (d : ℕ) (p : Place) (f : Form) (b : ℕ) (m : Mark) (e : ℕ) → NodesLie w f i d xs b m e → HaveRoom (entries r t p f d xs) (sizes xs)
    have_room no_nodes d p f b m e lie = tt
    have_room (node key x xs) d p f b m e (c, n, g, entry, lies, lie) = (
      size x,
      sizes xs,
      omega arith,
      size_is_some x,
      λ v h.
          let q = step_apart (place_in (kind_of t p) (position_in r (kind_of t p) (key_text r f key))) (λ q. meaning r t q d x) v h in
          meaning_counts x d q.0 v c g lies q.2,
      have_room xs d p f g n e lie,
    )

fewer_take : (i : List ℕ) (a e few most : ℕ) → few ≤ most → HaveBytes i a e most → HaveBytes i a e few
fewer_take i a e few most less (inl all) = inl (omega (arith, less, all))
fewer_take i a e few most less (inr (all, end)) = inr (omega (arith, less, all), end)

-- where a value stands are bytes for it and all values inside of it
pub stands_has_bytes : {L : Type 0} (w : Frames L) (r : Rules L) → IsWire w → r.limits ≡ kept → RulesFit w r
    → (i : List ℕ) (t : Table) (p : Place) (d a : ℕ) (v : Value) (e : ℕ) → (relations w r).stands i t p d a v e → HaveBytes i a e (nodes v)
stands_has_bytes w r wire keeps fits i t p d a v e (x, lies, is, ends) =
    fewer_take i a e (nodes v) (size x) (meaning_counts w r keeps fits i t x d p v a e lies is) (takes_bytes w wire i d x a e lies)
