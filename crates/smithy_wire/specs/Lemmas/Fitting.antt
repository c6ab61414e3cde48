-- What a node means at a place is a value of the place, where what its scalars mean is.
use Rattle.std.specs.Prelude.{◌≡◌, ℕ, suc, List, [], ◌∷◌, ◌++◌, Option, Some, None, Bool, true, false, refl, option_and_then, option_map, cond, if◌then◌else◌, IsUtf8}
use Rattle.std.proofs.Common.{sym, ◌∙◌, ap, subst}
use Rattle.smithy_declarations.specs.declared.place.Place.{Place}
use Rattle.smithy_types.specs.Document.{Document, null, array, object, Documents, no_documents, item, map_elements, whole_document, properties_by}
use Rattle.smithy_types.specs.Number.{whole_number}
use Rattle.smithy_types.specs.declared.number.Number.{Number}
use Rattle.smithy_shapes.specs.Limits.{Limits, kept, lifted}
use Rattle.smithy_declarations.specs.Table.{Table, Member, ListShape, MapShape, Kind, scalar, document, structure_of, union_of, list_of, map_of, kind_of, place_in}
use Rattle.smithy_declarations.specs.Documents.{DocumentFits, DocumentsFit}
use Rattle.smithy_declarations.specs.Value.{Value, document_value, null_element, list, map, structure, union, values_of, MapEntries, put_entry, MemberValues, no_member_values}
use Rattle.smithy_shapes.specs.Container.{folded, is_type_mark, element_of, entry_step, member_step, members_from, container_of}
use Rattle.smithy_shapes.specs.Fits.{AscendFrom, KeysAscend, ElementsFit, EntriesFit, MembersFit, Fits}
use Rattle.smithy_schema.specs.Reading.{Mark}
use Rattle.smithy_shapes.specs.Lemmas.Options.{same_some, step_apart, chosen, made}
use Rattle.smithy_shapes.specs.Lemmas.Entries.{entry_with}
use Rattle.smithy_shapes.specs.Lemmas.Fitting.{one_more_fits, element_fits, map_value_fits, put_entry_fits, entry_fits}
use Rattle.smithy_shapes.specs.Lemmas.Ascending.{folded_ascend}
use Rattle.smithy_shapes.specs.Lemmas.AscendingKeys.{put_keys_ascend}
use Rattle.smithy_wire.specs.Node.{Form, as_array, as_object, Node, null_node, leaf, container, missing, Nodes, no_nodes, node, is_null}
use Rattle.smithy_wire.specs.Rules.{Answer, means, no_meaning, wide, uncarried, settled, where_lifted, Rules, is_shallow, at_depth, may_skip, key_text, position_in, is_absent}
use Rattle.smithy_wire.specs.Documents.{document_of, elements_of, pairs_of, lifted_null, document_by, document_meaning}
use Rattle.smithy_wire.specs.Meaning.{leaf_meaning, is_in, missing_meaning, entry_at, meaning, entries}
use Rattle.smithy_wire.specs.Frames.{Frames, Lies, NodesLie}
use Rattle.smithy_wire.specs.Wire.{RulesFit}
use Rattle.smithy_shapes.specs.Lemmas.Variants.{first_variant, variant_step}
use Rattle.smithy_wire.specs.Lemmas.Folds.{Fold, fold_of}
use Rattle.smithy_wire.specs.Lemmas.Pairs.{pair_apart}
use Rattle.smithy_wire.specs.Lemmas.Places.{where_apart}
use Rattle.smithy_shapes.proofs.DocumentLemmas.{PairsFit, properties_fit}

abbrev ChildFits : Table → Kind → Option ℕ → Value → Type 0
ChildFits t k pos v = (q : Place) × (place_in k pos ≡ Some q) × Fits t q v

-- ---- folds keep it

pub record Holding (t : Table) (p : Place) (k : Kind) (fold : Fold k) : Type 1 where
  pub Holds : fold.S → Type 0
  pub begins : Holds fold.first
  pub goes_on : (key : Option (List ℕ)) (pos : Option ℕ) (m : Option Value) (absent skips nil : Bool) (s after : fold.S)
      → ((text : List ℕ) → key ≡ Some text → IsUtf8 text) → ((v : Value) → m ≡ Some v → ChildFits t k pos v)
      → Holds s → fold.step (entry_with key pos m absent skips nil) s ≡ Some after → Holds after
  pub ends : (s : fold.S) (v : Value) → Holds s → fold.finish s ≡ Some v → Fits t p v

member_holds : (t : Table) (k : Kind) (key : Option (List ℕ)) (pos : Option ℕ) (m : Option Value) (absent skips nil : Bool) (s after : MemberValues)
    → ((v : Value) → m ≡ Some v → ChildFits t k pos v) → MembersFit t k s × AscendFrom 0 s → member_step (entry_with key pos m absent skips nil) s ≡ Some after
    → MembersFit t k after × AscendFrom 0 after
member_holds t k key pos m absent skips nil s after fits h step =
    let folds : members_from s (entry_with key pos m absent skips nil ∷ []) ≡ Some after = ap (option_and_then (λ more. members_from more [])) step in (
      entry_fits t k key pos m absent skips nil s after []
          (λ n v is means. let q = fits v means in (q.0, sym (ap (place_in k) is) ∙ q.1, q.2)) h.0
          (λ gs held same. subst (MembersFit t k) (same_some gs after same) held) folds,
      folded_ascend (entry_with key pos m absent skips nil ∷ []) s after h.1 folds,
    )

element_holds : (t : Table) (l : ListShape) (pos : Option ℕ) (m : Option Value) (nil : Bool) (s after : List Value)
    → ((v : Value) → m ≡ Some v → ChildFits t (list_of l) pos v) → ElementsFit t (list_of l) (values_of s)
    → option_map (λ v. s ++ v ∷ []) (element_of l.is_sparse nil m) ≡ Some after → ElementsFit t (list_of l) (values_of after)
element_holds t l pos m nil s after fits h step =
    let v = made (λ v. s ++ v ∷ []) (element_of l.is_sparse nil m) after step in
    subst (λ z. ElementsFit t (list_of l) (values_of z)) v.2
    (one_more_fits t (list_of l) s v.0 h
    (element_fits t (list_of l) l refl nil m v.0
    (λ w means. let q = fits w means in subst (λ z. Fits t z w) (sym (same_some l.place q.0 q.1)) q.2) v.1))

entry_holds : (t : Table) (c : MapShape) (key : Option (List ℕ)) (pos : Option ℕ) (m : Option Value) (absent skips nil : Bool) (s after : MapEntries)
    → ((text : List ℕ) → key ≡ Some text → IsUtf8 text) → ((v : Value) → m ≡ Some v → ChildFits t (map_of c) pos v) → EntriesFit t (map_of c) s × KeysAscend s
    → entry_step c.is_sparse (entry_with key pos m absent skips nil) s ≡ Some after → EntriesFit t (map_of c) after × KeysAscend after
entry_holds t c None pos m absent skips nil s after utf8 fits h step = cc
entry_holds t c (Some key) pos m absent skips nil s after utf8 fits h step =
    let v = made (λ v. put_entry key v s) (element_of c.is_sparse nil m) after step in
    subst (λ es. EntriesFit t (map_of c) es × KeysAscend es) v.2 (
      put_entry_fits t (map_of c) key v.0 s (utf8 key refl)
          (map_value_fits t (map_of c) c refl nil m v.0 (λ w means. let q = fits w means in subst (λ z. Fits t z w) (sym (same_some c.place q.0 q.1)) q.2) v.1) h.0,
      put_keys_ascend key v.0 s h.1,
    )

-- the one variant, if it has come
abbrev VariantFits : Table → Kind → Option Value → Type 0
VariantFits t k None = Unit {0}
VariantFits t k (Some v) = (n : ℕ) × (u : Value) × (v ≡ union n u) × ChildFits t k (Some n) u

mark_holds : {S : Type 0} (P : S → Type 0) (mark skips : Bool) (s after : S) (x : Option S) → P s → (x ≡ Some after → P after)
    → cond mark (cond skips (Some s) None) x ≡ Some after → P after
mark_holds P true true s after x h next step = subst P (same_some s after step) h
mark_holds P true false s after x h next step = cc
mark_holds P false skips s after x h next step = next step

first_holds : (t : Table) (k : Kind) (s : Option Value) (pos : Option ℕ) (m : Option Value) (after : Option Value) → ((v : Value) → m ≡ Some v → ChildFits t k pos v)
    → first_variant s pos m ≡ Some after → VariantFits t k after
first_holds t k (Some u) pos m after fits h = cc
first_holds t k None None m after fits h = cc
first_holds t k None (Some n) None after fits h = cc
first_holds t k None (Some n) (Some v) after fits h =
    subst (VariantFits t k) (same_some (Some (union n v)) after h) (n, v, refl, fits v refl)

variant_holds : (t : Table) (k : Kind) (key : Option (List ℕ)) (pos : Option ℕ) (m : Option Value) (absent skips nil : Bool) (s after : Option Value)
    → ((v : Value) → m ≡ Some v → ChildFits t k pos v) → VariantFits t k s → variant_step (entry_with key pos m absent skips nil) s ≡ Some after → VariantFits t k after
variant_holds t k None pos m absent skips nil s after fits h step = cc
variant_holds t k (Some key) pos m true skips nil s after fits h step = subst (VariantFits t k) (same_some s after step) h
variant_holds t k (Some key) pos m false skips nil s after fits h step =
    mark_holds (VariantFits t k) (is_type_mark pos key) skips s after (first_variant s pos m) h (first_holds t k s pos m after fits) step

variant_ends : (t : Table) (p : Place) (ss : List Member) → kind_of t p ≡ union_of ss → (s : Option Value) (v : Value) → VariantFits t (union_of ss) s → s ≡ Some v → Fits t p v
variant_ends t p ss kind None v h is = cc
variant_ends t p ss kind (Some u) v (n, x, what, (q, at, fits)) is =
    subst (Fits t p) (sym what ∙ same_some u v is) (rw kind tt, (q, rw kind at, fits))

holding : (t : Table) (p : Place) (k : Kind) (f : Form) (within : is_in k f ≡ true) → kind_of t p ≡ k → Holding t p k (fold_of k f within)
unfolding fold_of
holding t p (structure_of ss) f within kind = record {
  Holds = λ s. MembersFit t (structure_of ss) s × AscendFrom 0 s;
  begins = (tt, tt);
  goes_on = λ key pos m absent skips nil s after utf8 fits h step. member_holds t (structure_of ss) key pos m absent skips nil s after fits h step;
  ends = λ s v h is. subst (Fits t p) (same_some (structure s) v is) (rw kind tt, rw kind h.0, h.1);
}
holding t p (union_of ss) f within kind = record {
  Holds = VariantFits t (union_of ss);
  begins = tt;
  goes_on = λ key pos m absent skips nil s after utf8 fits h step. variant_holds t (union_of ss) key pos m absent skips nil s after fits h step;
  ends = λ s v h is. variant_ends t p ss kind s v h is;
}
holding t p (list_of l) f within kind = record {
  Holds = λ s. ElementsFit t (list_of l) (values_of s);
  begins = tt;
  goes_on = λ key pos m absent skips nil s after utf8 fits h step. element_holds t l pos m nil s after fits h step;
  ends = λ s v h is. subst (Fits t p) (same_some (list (values_of s)) v is) (rw kind tt, rw kind h);
}
holding t p (map_of c) f within kind = record {
  Holds = λ s. EntriesFit t (map_of c) s × KeysAscend s;
  begins = (tt, tt);
  goes_on = entry_holds t c;
  ends = λ s v h is. subst (Fits t p) (same_some (map s) v is) (rw kind tt, rw kind h.0, h.1);
}
holding t p _ f within kind = cc

-- ---- answers

-- within the limits only a meaning gives a value
pub settled_means : {A : Type 0} (limits : Limits) (z : A) (answer : Answer A) (v : A) → limits ≡ kept → settled limits z answer ≡ Some v → answer ≡ means v
settled_means kept z (means u) v keeps h = let same : u ≡ v = cc in rw same refl
settled_means kept z no_meaning v keeps h = cc
settled_means kept z wide v keeps h = cc
settled_means kept z uncarried v keeps h = cc
settled_means lifted z answer v keeps h = cc

-- with the limits kept nothing is taken for a null
no_null : {A : Type 0} (limits : Limits) (z v : A) → limits ≡ kept → where_lifted limits z ≡ Some v → ⊥
no_null kept z v keeps h = cc
no_null lifted z v keeps h = cc

pub no_lifted_null : {L : Type 0} (r : Rules L) → r.limits ≡ kept → (x : Node L) (v : Value) → lifted_null r x ≡ Some v → ⊥
no_lifted_null r keeps null_node v h = no_null r.limits null_element v keeps h
no_lifted_null r keeps (leaf x) v h = no_null r.limits null_element v keeps h
no_lifted_null r keeps (container f xs) v h = no_null r.limits null_element v keeps h
no_lifted_null r keeps missing v h = cc

-- ---- a node

module _ {L : Type 0} (w : Frames L) (r : Rules L) (keeps : r.limits ≡ kept) (fits : RulesFit w r) (i : List ℕ) (t : Table) where
  leaf_fits : (p : Place) (k : Kind) (d : ℕ) (x : L) (a e : ℕ) (v : Value) → w.scalar i d x a e → kind_of t p ≡ k → leaf_meaning r k p.time x ≡ Some v → Fits t p v
  leaf_fits p (scalar s) d x a e v lies kind h = fits.says_fits i d x a e lies t p s v kind keeps h
  leaf_fits p _ d x a e v lies kind h = cc

  -- the text of a key is in UTF-8
  text_fits : (f : Form) (b : ℕ) (m : Mark) (key : Option L) (c : ℕ) (n : Mark) (text : List ℕ) → w.entry f i b m key c n → key_text r f key ≡ Some text → IsUtf8 text
  text_fits as_array b m key c n text entry h = cc
  text_fits as_object b m None c n text entry h = cc
  text_fits as_object b m (Some key) c n text entry h = fits.key_fits i b m key c n text entry h

  module _ (says : L → Answer (Document Number)) (carried : r.documents ≡ Some says) where
    mutual
      document_fits : (d : ℕ) (x : Node L) (a e : ℕ) → Lies w i d x a e → (v : Document Number) → document_of r says d x ≡ Some v → DocumentFits (whole_document v)
      document_fits d null_node a e lies v h =
          subst (λ u. DocumentFits (whole_document u)) (same_some null v (chosen (is_shallow r (suc d)) (Some null) v h).1) tt
      document_fits d (leaf x) a e lies v h =
          let here = (chosen (is_shallow r (suc d)) (settled r.limits null (says x)) v h).1 in
          (fits.document_fits i d x a e lies says v carried (settled_means r.limits null (says x) v keeps here)).0
      document_fits d (container as_array xs) a e (b, m, opens, lie, follows) v h =
          let ds = made array (elements_of r says (suc d) xs) v (chosen (is_shallow r (suc d)) (option_map array (elements_of r says (suc d) xs)) v h).1 in
          subst (λ u. DocumentFits (whole_document u)) ds.2 (elements_fit (suc d) xs b m e lie ds.0 ds.1)
      document_fits d (container as_object xs) a e (b, m, opens, lie, follows) v h =
          let by = λ (pairs : List (List ℕ × Document Number)). object (properties_by pairs) in
          let pairs = made by (pairs_of r says (suc d) xs) v (chosen (is_shallow r (suc d)) (option_map by (pairs_of r says (suc d) xs)) v h).1 in
          subst (λ u. DocumentFits (whole_document u)) pairs.2 (properties_fit whole_number pairs.0 (pairs_fit (suc d) xs b m e lie pairs.0 pairs.1))
      document_fits d missing a e lies v h = cc

      elements_fit : (d : ℕ) (xs : Nodes L) (b : ℕ) (m : Mark) (e : ℕ) → NodesLie w as_array i d xs b m e → (ds : Documents Number) → elements_of r says d xs ≡ Some ds
          → DocumentsFit (map_elements whole_number ds)
      elements_fit d no_nodes b m e lie ds h = subst (λ z. DocumentsFit (map_elements whole_number z)) (same_some no_documents ds h) tt
      elements_fit d (node key x xs) b m e (c, n, g, entry, lies, lie) ds h =
          let one = step_apart (document_of r says d x) (λ u. option_map (item u) (elements_of r says d xs)) ds h in
          let rest = made (item one.0) (elements_of r says d xs) ds one.2 in
          subst (λ z. DocumentsFit (map_elements whole_number z)) rest.2 (document_fits d x c g lies one.0 one.1, elements_fit d xs g n e lie rest.0 rest.1)

      pairs_fit : (d : ℕ) (xs : Nodes L) (b : ℕ) (m : Mark) (e : ℕ) → NodesLie w as_object i d xs b m e → (pairs : List (List ℕ × Document Number))
          → pairs_of r says d xs ≡ Some pairs → PairsFit whole_number pairs
      pairs_fit d no_nodes b m e lie pairs h = subst (PairsFit whole_number) (same_some [] pairs h) tt
      pairs_fit d (node key x xs) b m e (c, n, g, entry, lies, lie) pairs h =
          let p = pair_apart (key_text r as_object key) (document_of r says d x) (pairs_of r says d xs) pairs h in
          subst (PairsFit whole_number) p.whole
          ((text_fits as_object b m key c n p.text entry p.named, document_fits d x c g lies p.part p.means), pairs_fit d xs g n e lie p.rest p.behind)

  document_value_fits : (p : Place) (d : ℕ) (x : Node L) (a e : ℕ) → Lies w i d x a e → (v : Value) → kind_of t p ≡ document → document_meaning r d x ≡ Some v
      → Fits t p v
  document_value_fits p d x a e lies v kind h = by r.documents refl h
    where
      by : (o : Option (L → Answer (Document Number))) → r.documents ≡ o → document_by r o d x ≡ Some v → Fits t p v
      by None none h = absurd (no_lifted_null r keeps x v h)
      by (Some says) carried h =
          let u = made (λ u. document_value (whole_document u)) (document_of r says d x) v h in
          subst (Fits t p) u.2 (rw kind tt, document_fits says carried d x a e lies u.0 u.1)

  missing_fits : (p : Place) (k : Kind) (v : Value) → kind_of t p ≡ k → missing_meaning k ≡ Some v → Fits t p v
  missing_fits p (structure_of members) v kind h = subst (Fits t p) (same_some (structure no_member_values) v h) (rw kind tt, tt, tt)
  missing_fits p _ v kind h = cc

  container_fits : (p : Place) (f : Form) (d : ℕ) (xs : Nodes L) (v : Value)
      → ((within : is_in (kind_of t p) f ≡ true) (s after : (fold_of (kind_of t p) f within).S) → (holding t p (kind_of t p) f within refl).Holds s
      → folded (fold_of (kind_of t p) f within).step s (entries r t p f d xs) ≡ Some after → (holding t p (kind_of t p) f within refl).Holds after)
      → (if is_in (kind_of t p) f then container_of (kind_of t p) (entries r t p f d xs) else None) ≡ Some v → Fits t p v
  container_fits p f d xs v holds h =
      let k = kind_of t p in
      let in_form = chosen (is_in k f) (container_of k (entries r t p f d xs)) v h in
      let fold = fold_of k f in_form.0 in
      let held = holding t p k f in_form.0 refl in
      let last = step_apart (folded fold.step fold.first (entries r t p f d xs)) fold.finish v (sym (fold.whole (entries r t p f d xs)) ∙ in_form.1) in
      held.ends last.0 v (holds in_form.0 fold.first last.0 held.begins last.1) last.2

  mutual
    pub meaning_fits : (d : ℕ) (x : Node L) (p : Place) (v : Value) (a e : ℕ) → Lies w i d x a e → meaning r t p d x ≡ Some v → Fits t p v
    meaning_fits d null_node p v a e lies h =
        where_apart (kind_of t p) (document_meaning r d null_node) None v (Fits t p v) h (document_value_fits p d null_node a e lies v) (λ none. cc)
    meaning_fits d (leaf x) p v a e lies h =
        where_apart (kind_of t p) (document_meaning r d (leaf x)) (leaf_meaning r (kind_of t p) p.time x) v (Fits t p v) h
        (document_value_fits p d (leaf x) a e lies v) (leaf_fits p (kind_of t p) d x a e v lies refl)
    meaning_fits d (container f xs) p v a e (b, m, opens, lie, follows) h =
        let inner = if is_in (kind_of t p) f then container_of (kind_of t p) (entries r t p f (suc d) xs) else None in
        where_apart (kind_of t p) (document_meaning r d (container f xs)) (at_depth r (suc d) inner) v (Fits t p v) h
        (document_value_fits p d (container f xs) a e (b, m, opens, lie, follows) v)
        (λ there.
        container_fits p f (suc d) xs v (λ within s after held folds. nodes_fit (suc d) xs p f b m e lie within s after held folds)
        (chosen (is_shallow r (suc d)) inner v there).1)
    meaning_fits d missing p v a e lies h = missing_fits p (kind_of t p) v refl (chosen (is_shallow r (suc d)) (missing_meaning (kind_of t p)) v h).1

    nodes_fit : (d : ℕ) (xs : Nodes L) (p : Place) (f : Form) (b : ℕ) (m : Mark) (e : ℕ) → NodesLie w f i d xs b m e
        → (within : is_in (kind_of t p) f ≡ true) (s after : (fold_of (kind_of t p) f within).S)
        → (holding t p (kind_of t p) f within refl).Holds s
        → folded (fold_of (kind_of t p) f within).step s (entries r t p f d xs) ≡ Some after → (holding t p (kind_of t p) f within refl).Holds after
    nodes_fit d no_nodes p f b m e lie within s after held h = subst (holding t p (kind_of t p) f within refl).Holds (same_some s after h) held
    nodes_fit d (node key x xs) p f b m e (c, n, g, entry, lies, lie) within s after held h =
        let k = kind_of t p in
        let fold = fold_of k f within in
        let text = key_text r f key in
        let place = place_in k (position_in r k text) in
        let apart = step_apart (fold.step (entry_at r k f d key x (λ q. meaning r t q d x)) s) (λ next. folded fold.step next (entries r t p f d xs)) after h in
        nodes_fit d xs p f g n e lie within apart.0 after
        ((holding t p k f within refl).goes_on text (position_in r k text) (option_and_then (λ q. meaning r t q d x) place) (is_absent r k text x) (may_skip r d x) (is_null x) s apart.0
        (λ text named. text_fits f b m key c n text entry named)
        (λ v is. let q = step_apart place (λ q. meaning r t q d x) v is in (q.0, q.1, meaning_fits d x q.0 v c g lies q.2)) held apart.1) apart.2
