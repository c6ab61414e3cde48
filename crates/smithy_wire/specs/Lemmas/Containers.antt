-- A container stands for what its entries mean together: one proof for all kinds.
use Rattle.std.specs.Prelude.{◌≡◌, ℕ, zero, suc, map, List, [], ◌∷◌, Option, Some, None, Bool, true, false, refl, option_and_then, if◌then◌else◌}
use Rattle.std.proofs.Common.{sym, ◌∙◌, ap, arith, subst, inl, inr}
use Rattle.smithy_types.specs.Document.{Document}
use Rattle.smithy_types.specs.declared.number.Number.{Number}
use Rattle.smithy_declarations.specs.declared.place.Place.{Place}
use Rattle.smithy_declarations.specs.Table.{Table, Kind, document, structure_of, kind_of, place_in, IsStructure, IsContainer}
use Rattle.smithy_declarations.specs.Value.{Value, structure, no_member_values}
use Rattle.smithy_shapes.specs.Container.{Entry, folded, container_of}
use Rattle.smithy_schema.specs.Reading.{Mark, Child, child_value, child_null, child_unknown, entry_of, IsChild, Chain, Contains}
use Rattle.smithy_shapes.specs.Lemmas.Options.{same_some, step_apart, chosen}
use Rattle.smithy_wire.specs.Node.{Form, as_object, Node, null_node, leaf, container, missing, Nodes, no_nodes, node, is_null}
use Rattle.smithy_wire.specs.Rules.{Answer, Rules, is_shallow, at_depth, key_text, position_in, is_absent, is_mark}
use Rattle.smithy_wire.specs.Documents.{document_by, document_meaning}
use Rattle.smithy_wire.specs.Meaning.{is_in, missing_meaning, entry_at, meaning, entries}
use Rattle.smithy_wire.specs.Frames.{Frames, Lies, NodesLie, IsTold, Drops, DropsAll, StepsIn, EndsIn, EndsAs, relations}
use Rattle.smithy_wire.specs.Wire.{IsWire}
use Rattle.smithy_wire.specs.Lemmas.Nodes.{one_node, lies_begins, lies_follows}
use Rattle.smithy_wire.specs.Lemmas.Determined.{is_droppable, one_form, drops_one_more, step_hands_on, no_step_over, no_end_over}
use Rattle.smithy_wire.specs.Lemmas.EntrySteps.{IsOneOf, FoldsBy, or_neither}
use Rattle.smithy_wire.specs.Lemmas.Places.{structure_is_object, form_is_container, structure_is_container, elsewhere, container_ends, means_document, null_is_no_container, sparse_is, is_sparse_kind, leaf_means_nothing}
use Rattle.smithy_wire.specs.Lemmas.Folds.{Fold, fold_of, folds_by}

-- one case or the other
either : {A : Type 0} (b : Bool) → (b ≡ true → A) → (b ≡ false → A) → A
either true yes' no' = yes' refl
either false yes' no' = no' refl

-- what is missing is no document
missing_is_no_document : {L : Type 0} (r : Rules L) (d : ℕ) (v : Value) → document_meaning r d missing ≡ Some v → ⊥
missing_is_no_document {L} r d v h = by r.documents h
  where
    by : (o : Option (L → Answer (Document Number))) → document_by r o d missing ≡ Some v → ⊥
    by None h = cc
    by (Some says) h = cc

and_then_same : {A B : Type 0} (o u : Option A) (f g : A → Option B) → o ≡ u → ((a : A) → f a ≡ g a) → option_and_then f o ≡ option_and_then g u
and_then_same None None f g h same = refl
and_then_same None (Some b) f g h same = cc
and_then_same (Some a) None f g h same = cc
and_then_same (Some a) (Some b) f g h same = same a ∙ ap g (same_some a b h)

module _ {L : Type 0} (w : Frames L) (r : Rules L) (wire : IsWire w) (i : List ℕ) (t : Table) (p : Place) (f : Form) (within : is_in (kind_of t p) f ≡ true) (d : ℕ) where
  abbrev k : Kind
  k = kind_of t p

  abbrev fold : Fold k
  fold = fold_of k f within

  abbrev S : Type 0
  S = fold.S

  abbrev by : FoldsBy r k f (suc d) fold.step
  by = folds_by r (suc d) k f within

  abbrev means_at : Node L → Place → Option Value
  means_at x q = meaning r t q (suc d) x

  abbrev entry : Option L → Node L → Entry
  entry key x = entry_at r k f (suc d) key x (means_at x)

  abbrev all : Nodes L → List Entry
  all xs = entries r t p f (suc d) xs

  document_ends : (x : Node L) (v : Value) (c e : ℕ) → Lies w i (suc d) x c e → document_meaning r (suc d) x ≡ Some v → w.follows i (suc (suc d)) e
  document_ends null_node v c e lies means = lies_follows w wire i d null_node c e lies λ h. cc
  document_ends (leaf y) v c e lies means = lies_follows w wire i d (leaf y) c e lies λ h. cc
  document_ends (container g ys) v c e lies means = lies_follows w wire i d (container g ys) c e lies λ h. cc
  document_ends missing v c e lies means = absurd (missing_is_no_document r (suc d) v means)

  -- a node that stands as a document ends as one
  ends_as : (q : Place) (x : Node L) (v : Value) (c e : ℕ) → Lies w i (suc d) x c e → meaning r t q (suc d) x ≡ Some v → EndsAs w (kind_of t q) i (suc d) e
  ends_as q x v c e lies means = by (kind_of t q) refl
    where
      by : (k : Kind) → kind_of t q ≡ k → EndsAs w k i (suc d) e
      by document is = document_ends x v c e lies (sym (means_document r t q (suc d) x is) ∙ means)
      by _ is = tt

  -- a null begins as one
  null_begins_so : (y : Node L) (c e : ℕ) → is_null y ≡ true → Lies w i (suc d) y c e → w.begins_null i c ≡ true
  null_begins_so null_node c e nil lies = wire.null_begins i (suc d) c e lies
  null_begins_so (leaf y) c e nil lies = cc
  null_begins_so (container g ys) c e nil lies = cc
  null_begins_so missing c e nil lies = cc

  nodes_back : (b at : ℕ) (m j : Mark) (xs : Nodes L) (e : ℕ) → (b ≡ at) × (m ≡ j) → NodesLie w f i (suc d) xs at j e → NodesLie w f i (suc d) xs b m e
  nodes_back b at m j xs e h lie = rw (h.0, h.1) lie

  -- ---- from a reader's children to nodes

  -- dropped entries before nodes are nodes that change nothing
  drop_nodes : (count b : ℕ) (m : Mark) (c : ℕ) (n : Mark) (xs : Nodes L) (e : ℕ) → DropsAll w r k f count i (suc d) b m c n → NodesLie w f i (suc d) xs c n e
      → (ys : Nodes L) × NodesLie w f i (suc d) ys b m e × ((s : S) → folded fold.step s (all ys) ≡ folded fold.step s (all xs))
  drop_nodes zero b m c n xs e h lie = (xs, nodes_back b c m n xs e h lie, λ s. refl)
  drop_nodes (suc count) b m c n xs e (at, j, one, more) lie =
      let rest = drop_nodes count at j c n xs e more lie in (
        node one.key one.child rest.0,
        (one.at, j, at, one.entry, one.lies, rest.1),
        λ s. ap (option_and_then (λ after. folded fold.step after (all rest.0))) (by.dropped one.key one.child (means_at one.child) s one.told one.dropped) ∙ rest.2 s,
      )

  told_key : (key : Option L) (text : Option (List ℕ)) → key_text r f key ≡ text → IsTold f text → IsTold f (key_text r f key)
  told_key key text same told = subst (IsTold f) (sym same) told

  -- the node that a child is
  child_node : (b : ℕ) (m : Mark) (text : Option (List ℕ)) (c : ℕ) (n : Mark) (x : Child) (e : ℕ) (step : StepsIn w r k f i (suc d) b m text c n)
      → IsChild (relations w r) i t p (suc d) text x c e
      → (y : Node L) × Lies w i (suc d) y c e × ((s : S) → fold.step (entry_of x) s ≡ fold.step (entry step.key y) s)
  child_node b m text c n (child_value key pos v) e step (is, at, (q, there, (y, lies, means, ends)), real) = (
    y,
    lies,
    λ s.
        let place : place_in k (position_in r k (key_text r f step.key)) ≡ Some q = ap (λ z. place_in k (position_in r k z)) step.names ∙ (ap (place_in k) (sym at) ∙ there) in
        rw (is, at, ← step.names) (sym (by.values step.key y (means_at y) s q v (told_key step.key text step.names step.told) (step_hands_on w r i k (suc d) f b m text c n step y e lies)
        (λ takes nil. let clash = sym (real (is_sparse_kind k takes)) ∙ null_begins_so y c e nil lies in cc) place means)),
  )
  child_node b m text c n (child_null key) e step (is, takes, lies) = (
    null_node,
    lies,
    λ s. rw (is, ← step.names) (sym (by.nulls step.key null_node (means_at null_node) s (sparse_is k takes) refl)),
  )
  child_node b m text c n (child_unknown key) e step (is, structure', none, (y, lies, may)) = (
    y,
    lies,
    λ s. rw (is, ← step.names) (sym (by.unknowns step.key y (means_at y) s structure' (step_hands_on w r i k (suc d) f b m text c n step y e lies) (ap (position_in r k) step.names ∙ none) may)),
  )

  abbrev NodesOf : ℕ → Mark → List Child → ℕ → Type 0
  NodesOf b m xs e =
      (ys : Nodes L) × NodesLie w f i (suc d) ys b m e × w.follows i (suc d) e
      × ((s : S) → folded fold.step s (map entry_of xs) ≡ folded fold.step s (all ys))

  closed : (b : ℕ) (m : Mark) (e : ℕ) → (m ≡ w.over_mark → ⊥) → (relations w r).closes i t p (suc d) b m e → NodesOf b m [] e
  closed b m e inside (inl (g, is, ends, follows)) =
      let same = one_form k g f is within in
      let here : EndsIn w r k f i (suc d) b m e = subst (λ z. EndsIn w r k z i (suc d) b m e) same ends in
      let nodes = drop_nodes here.0 b m here.1 here.2 no_nodes e here.3 here.4 in
      (nodes.0, nodes.1, follows, λ s. sym (nodes.2 s))
  closed b m e inside (inr h) = absurd (inside h.2)

  stepped : (b : ℕ) (m : Mark) (text : Option (List ℕ)) (c : ℕ) (n : Mark) → (relations w r).steps i t p (suc d) b m text c n → StepsIn w r k f i (suc d) b m text c n
  stepped b m text c n (g, is, steps) = subst (λ z. StepsIn w r k z i (suc d) b m text c n) (one_form k g f is within) steps

  -- the nodes that a chain's children are
  chain_nodes : (b : ℕ) (m : Mark) (xs : List Child) (e : ℕ) → (m ≡ w.over_mark → ⊥) → Chain (relations w r) i t p (suc d) b m xs e → NodesOf b m xs e
  chain_nodes b m [] e inside chain = closed b m e inside chain
  chain_nodes b m (x ∷ xs) e inside (text, c, n, g, steps, child, chain) =
      let step = stepped b m text c n steps in
      let rest = chain_nodes g n xs e (wire.entry_inside f i step.at step.mark step.key c n step.entry) chain in
      let one = child_node b m text c n x g step child in
      let whole = drop_nodes step.count b m step.at step.mark (node step.key one.0 rest.0) e step.drops (c, n, g, step.entry, one.1, rest.1) in (
        whole.0,
        whole.1,
        rest.2,
        λ s. and_then_same (fold.step (entry_of x) s) (fold.step (entry step.key one.0) s) (λ after. folded fold.step after (map entry_of xs))
            (λ after. folded fold.step after (all rest.0)) (one.2 s) rest.3 ∙ sym (whole.2 s),
      )

  -- ---- from nodes to a reader's children

  abbrev Children : ℕ → Mark → ℕ → S → S → Type 0
  Children b m e s after = (xs : List Child) × Chain (relations w r) i t p (suc d) b m xs e × (folded fold.step s (map entry_of xs) ≡ Some after)

  -- a node that isn't dropped is a child
  node_child : (key : Option L) (x : Node L) (c e : ℕ) (s : S) → IsTold f (key_text r f key) → is_droppable r k (key_text r f key) x ≡ false → Lies w i (suc d) x c e
      → IsOneOf r k (suc d) (key_text r f key) x (means_at x)
      → (y : Child) × IsChild (relations w r) i t p (suc d) (key_text r f key) y c e × (fold.step (entry key x) s ≡ fold.step (entry_of y) s)
  node_child key x c e s told kept lies (inl (q, v, there, means, real)) = (
    child_value (key_text r f key) (position_in r k (key_text r f key)) v,
    (refl, refl, (q, there, (x, lies, means, ends_as q x v c e lies means)), λ takes. lies_begins w wire i (suc d) x c e lies (real (sparse_is k takes))),
    by.values key x (means_at x) s q v told kept (λ takes nil. let clash = sym (real takes) ∙ nil in cc) there means,
  )
  node_child key x c e s told kept lies (inr (inl (takes, nil))) = (
    child_null (key_text r f key),
    (refl, is_sparse_kind k takes, null_lies x nil lies),
    by.nulls key x (means_at x) s takes nil,
  )
    where
      null_lies : (z : Node L) → is_null z ≡ true → Lies w i (suc d) z c e → w.null i (suc d) c e
      null_lies null_node nil lies = lies
      null_lies (leaf y) nil lies = cc
      null_lies (container g ys) nil lies = cc
      null_lies missing nil lies = cc
  node_child key x c e s told kept lies (inr (inr (structure', none, may))) = (
    child_unknown (key_text r f key),
    (refl, structure', none, (x, lies, may)),
    by.unknowns key x (means_at x) s structure' kept none may,
  )

  node_children : (count b : ℕ) (m : Mark) (at : ℕ) (j : Mark) (xs : Nodes L) (e : ℕ) (s after : S) → w.follows i (suc d) e
      → DropsAll w r k f count i (suc d) b m at j → NodesLie w f i (suc d) xs at j e → folded fold.step s (all xs) ≡ Some after → Children b m e s after
  node_children count b m at j no_nodes e s after follows drops lie folds =
      ([], inl (f, within, (count, at, j, drops, lie), follows), folds)
  node_children count b m at j (node key x xs) e s after follows drops (c, n, g, there, lies, lie) folds =
      let apart = step_apart (fold.step (entry key x) s) (λ next. folded fold.step next (all xs)) after folds in
      let told = by.told key x (means_at x) s apart.0 apart.1 in
      either (is_droppable r k (key_text r f key) x)
      (λ may.
      let is = by.drops key x (means_at x) s apart.0 apart.1 may in
      let same : apart.0 ≡ s = same_some apart.0 s (sym apart.1 ∙ by.dropped key x (means_at x) s told is) in
      let one : Drops w r k f i (suc d) at j g n = record { key = key; at = c; child = x; entry = there; told = told; lies = lies; dropped = is } in
      node_children (suc count) b m g n xs e s after follows (drops_one_more w r i k (suc d) f count b m at j g n drops one) lie
      (subst (λ next. folded fold.step next (all xs) ≡ Some after) same apart.2))
      (λ kept.
      let real = or_neither (is_absent r k (key_text r f key) x) (is_mark r k (key_text r f key)) kept in
      let child = node_child key x c g s told kept lies (by.children key x (means_at x) s apart.0 apart.1 kept) in
      let rest = node_children 0 g n g n xs e apart.0 after follows (refl, refl) lie apart.2 in
      let step : StepsIn w r k f i (suc d) b m (key_text r f key) c n = record {
        count = count;
        at = at;
        mark = j;
        drops = drops;
        key = key;
        entry = there;
        told = told;
        names = refl;
        unmarked = real.1;
        stays = λ h nil. subst (λ y. is_absent r k (key_text r f key) y ≡ false) (one_node w wire i (suc d) x null_node c g h lies nil).0 real.0;
      } in (
        child.0 ∷ rest.0,
        (key_text r f key, c, n, g, (f, within, step), child.1, rest.1),
        ap (option_and_then (λ next. folded fold.step next (map entry_of rest.0))) (sym child.2 ∙ apart.1) ∙ rest.2,
      ))

  -- ---- a container

  container_means : (xs : Nodes L) (v : Value) → is_shallow r (suc d) ≡ true → container_of k (all xs) ≡ Some v → meaning r t p d (container f xs) ≡ Some v
  container_means xs v deep means =
      let there : at_depth r (suc d) (if is_in k f then container_of k (all xs) else None) ≡ Some v = rw (deep, within) means in
      elsewhere k (document_meaning r d (container f xs)) (at_depth r (suc d) (if is_in k f then container_of k (all xs) else None)) (form_is_container k f within) ∙ there

  pub opened_stands : (a b : ℕ) (m : Mark) (xs : List Child) (v : Value) (e : ℕ) → is_shallow r (suc d) ≡ true → w.opens f i a b m
      → Chain (relations w r) i t p (suc d) b m xs e → container_of k (map entry_of xs) ≡ Some v → (relations w r).stands i t p d a v e
  opened_stands a b m xs v e deep opens chain means =
      let nodes = chain_nodes b m xs e (wire.opens_inside f i a b m opens) chain in
      let same : container_of k (map entry_of xs) ≡ container_of k (all nodes.0) =
      fold.whole (map entry_of xs) ∙ (ap (option_and_then fold.finish) (nodes.3 fold.first) ∙ sym (fold.whole (all nodes.0))) in
      (container f nodes.0, (b, m, opens, nodes.1, nodes.2), container_means nodes.0 v deep (sym same ∙ means), container_ends w k i d e (form_is_container k f within))

  container_meant : (xs : Nodes L) (v : Value) → meaning r t p d (container f xs) ≡ Some v → (is_shallow r (suc d) ≡ true) × (container_of k (all xs) ≡ Some v)
  container_meant xs v means =
      let inner = if is_in k f then container_of k (all xs) else None in
      let there = sym (elsewhere k (document_meaning r d (container f xs)) (at_depth r (suc d) inner) (form_is_container k f within)) ∙ means in
      let deep = chosen (is_shallow r (suc d)) inner v there in
      (deep.0, (chosen (is_in k f) (container_of k (all xs)) v deep.1).1)

  pub container_unfolded : (a : ℕ) (v : Value) (e : ℕ) (xs : Nodes L) → Lies w i d (container f xs) a e → meaning r t p d (container f xs) ≡ Some v
      → Contains (relations w r) i t p d a v e
  container_unfolded a v e xs (b, m, opens, lie, follows) means =
      let both = container_meant xs v means in
      let last = step_apart (folded fold.step fold.first (all xs)) fold.finish v (sym (fold.whole (all xs)) ∙ both.1) in
      let ys = node_children 0 b m b m xs e fold.first last.0 follows (refl, refl) lie last.1 in
      record {
        inside = b;
        mark = m;
        children = ys.0;
        allowed = both.0;
        opens = inl (f, within, opens);
        chain = ys.1;
        means = fold.whole (map entry_of ys.0) ∙ (ap (option_and_then fold.finish) ys.2 ∙ last.2);
      }

module _ {L : Type 0} (w : Frames L) (r : Rules L) (wire : IsWire w) (i : List ℕ) (t : Table) (p : Place) (d : ℕ) where
  -- what is opened where the input ends has no entries
  pub object_form : (f : Form) → IsStructure (kind_of t p) → is_in (kind_of t p) f ≡ true → f ≡ as_object
  object_form f structure' within = one_form (kind_of t p) f as_object within (structure_is_object (kind_of t p) structure')

  over_closed : (a b : ℕ) (m : Mark) (e : ℕ) → IsStructure (kind_of t p) → w.is_over i a b → m ≡ w.over_mark → (relations w r).closes i t p (suc d) b m e → e ≡ b
  over_closed a b m e structure' over is (inl (f, within, ends, follows)) =
      absurd (no_end_over w r wire i (kind_of t p) f (suc d) (object_form f structure' within) b b m (wire.over_stays i a b over) is e ends)
  over_closed a b m e structure' over is (inr h) = (wire.over_is_end i b e h.1).1 ∙ sym (wire.over_is_end i a b over).1

  over_chain : (a b : ℕ) (m : Mark) (xs : List Child) (e : ℕ) → IsStructure (kind_of t p) → w.is_over i a b → m ≡ w.over_mark → Chain (relations w r) i t p (suc d) b m xs e
      → (xs ≡ []) × (e ≡ b)
  over_chain a b m [] e structure' over is chain = (refl, over_closed a b m e structure' over is chain)
  over_chain a b m (x ∷ xs) e structure' over is (text, c, n, g, (f, within, steps), child, chain) =
      absurd (no_step_over w r wire i (kind_of t p) f (suc d) (object_form f structure' within) b b m (wire.over_stays i a b over) is text c n steps)

  missing_is : (k : Kind) → IsStructure k → (missing_meaning k ≡ Some (structure no_member_values)) × (container_of k [] ≡ Some (structure no_member_values))
  missing_is (structure_of members) h = (refl, refl)
  missing_is _ h = absurd h

  pub is_missing : (k : Kind) (v : Value) → missing_meaning k ≡ Some v → IsStructure k
  is_missing (structure_of members) v h = tt
  is_missing _ v h = cc

  pub folded_stands : (a : ℕ) (v : Value) (e : ℕ) → Contains (relations w r) i t p d a v e → (relations w r).stands i t p d a v e
  folded_stands a v e box = by box.opens
    where
      by : (relations w r).opens i t p d a box.inside box.mark → (relations w r).stands i t p d a v e
      by (inl (f, within, opens)) = opened_stands w r wire i t p f within d a box.inside box.mark box.children v e box.allowed opens box.chain box.means
      by (inr (structure', over, is)) =
          let none = over_chain a box.inside box.mark box.children e structure' over is box.chain in
          let means : container_of (kind_of t p) [] ≡ Some v = subst (λ xs. container_of (kind_of t p) (map entry_of xs) ≡ Some v) none.0 box.means in
          let both = missing_is (kind_of t p) structure' in
          (missing, subst (w.is_over i a) (sym none.1) over, rw box.allowed (both.0 ∙ (sym both.1 ∙ means)), container_ends w (kind_of t p) i d e (structure_is_container (kind_of t p) structure'))

  pub stands_unfolded : (a : ℕ) (v : Value) (e : ℕ) → IsContainer (kind_of t p) → (relations w r).stands i t p d a v e → Contains (relations w r) i t p d a v e
  stands_unfolded a v e c (x, lies, means, ends) = of x lies means
    where
      of : (x : Node L) → Lies w i d x a e → meaning r t p d x ≡ Some v → Contains (relations w r) i t p d a v e
      of null_node lies means = absurd (null_is_no_container r t p d v c means)
      of (leaf y) lies means = absurd (leaf_means_nothing r t p d y v c means)
      of (container f xs) lies means = by_form (is_in (kind_of t p) f) refl
        where
          by_form : (b : Bool) → is_in (kind_of t p) f ≡ b → Contains (relations w r) i t p d a v e
          by_form true within = container_unfolded w r wire i t p f within d a v e xs lies means
          by_form false out =
              let inner = if is_in (kind_of t p) f then container_of (kind_of t p) (entries r t p f (suc d) xs) else None in
              let there = sym (elsewhere (kind_of t p) (document_meaning r d (container f xs)) (at_depth r (suc d) inner) c) ∙ means in
              let deep = chosen (is_shallow r (suc d)) inner v there in
              let within = chosen (is_in (kind_of t p) f) (container_of (kind_of t p) (entries r t p f (suc d) xs)) v deep.1 in
              let clash = sym out ∙ within.0 in cc
      of missing lies means =
          let deep = chosen (is_shallow r (suc d)) (missing_meaning (kind_of t p)) v means in
          let structure' = is_missing (kind_of t p) v deep.1 in
          let both = missing_is (kind_of t p) structure' in
          record {
            inside = e;
            mark = w.over_mark;
            children = [];
            allowed = deep.0;
            opens = inr (structure', lies, refl);
            chain = inr (structure', wire.over_stays i a e lies, refl, omega arith);
            means = both.1 ∙ (sym both.0 ∙ deep.1);
          }
