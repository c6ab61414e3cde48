-- What a reader finds, as the relations of reading, and what it doesn't find: once for all wires.
use Rattle.std.specs.Prelude.{◌≡◌, ◌<◌, ◌≤◌, ℕ, zero, suc, List, Option, Some, None, option_map, option_and_then, true, false, refl, if◌then◌else◌}
use Rattle.std.proofs.Common.{sym, ◌∙◌, ap, subst, inl, inr}
use Rattle.smithy_declarations.specs.declared.place.Place.{Place}
use Rattle.smithy_declarations.specs.declared.shape_type.Scalar.{Scalar}
use Rattle.smithy_declarations.specs.declared.shape_type.TimestampFormat.{TimestampFormat}
use Rattle.smithy_shapes.specs.Limits.{Limits, kept}
use Rattle.smithy_types.specs.Document.{Document, whole_document}
use Rattle.smithy_types.specs.declared.number.Number.{Number}
use Rattle.smithy_declarations.specs.Table.{Table, scalar, document, kind_of, where_document, IsStructure}
use Rattle.smithy_declarations.specs.Value.{Value, document_value, null_element}
use Rattle.smithy_shapes.specs.Container.{container_of}
use Rattle.smithy_schema.specs.Reading.{Mark}
use Rattle.smithy_shapes.specs.Lemmas.Options.{chosen}
use Rattle.smithy_wire.specs.Node.{Form, Node, null_node, leaf, container, missing}
use Rattle.smithy_wire.specs.Rules.{Answer, settled, answer_of, wide, uncarried, Rules, is_shallow, at_depth, key_text, position_in, drops_null, is_mark}
use Rattle.smithy_wire.specs.Documents.{document_of, held_document, document_by, document_meaning}
use Rattle.smithy_wire.specs.Meaning.{leaf_meaning, IsTooWide, is_in, missing_meaning, meaning, entries}
use Rattle.smithy_wire.specs.Frames.{Frames, Lies, IsTold, Drops, DropsAll, StepsIn, EndsIn, EndsAs, LiesUncarried, UncarriedAt, relations}
use Rattle.smithy_wire.specs.Wire.{IsWire}
use Rattle.smithy_wire.specs.Lemmas.Nodes.{one_node}
use Rattle.smithy_wire.specs.Lemmas.Determined.{is_droppable, one_form, droppable, handed_on}
use Rattle.smithy_wire.specs.Lemmas.Places.{means_document}
use Rattle.smithy_wire.specs.Lemmas.Fitting.{no_lifted_null}

-- from a to e is a scalar that says v as a kind
abbrev pub Says : {L : Type 0} → Frames L → Rules L → Scalar → Option TimestampFormat → List ℕ → ℕ → ℕ → Value → ℕ → Type 0
Says {L = L} w r s time i d a v e = (x : L) × w.scalar i d x a e × (settled r.limits null_element (r.says s time x) ≡ Some v)

-- what means something or nothing isn't asked of the limits
pub settled_answer : {A : Type 0} (limits : Limits) (null : A) (o : Option A) → settled limits null (answer_of o) ≡ o
settled_answer limits null None = refl
settled_answer limits null (Some v) = refl

module _ {L : Type 0} (w : Frames L) (r : Rules L) (i : List ℕ) (t : Table) (p : Place) where
  -- ---- scalars

  module _ (s : Scalar) (kind : kind_of t p ≡ scalar s) (d : ℕ) where
    -- where a scalar of the body means a value as the kind, this value stands there
    pub scalar_stands : (a : ℕ) (v : Value) (e : ℕ) → Says w r s p.time i d a v e → (relations w r).stands i t p d a v e
    scalar_stands a v e (x, lies, says) = (
      leaf x,
      lies,
      ap (λ k. where_document k (document_meaning r d (leaf x)) (leaf_meaning r k p.time x)) kind ∙ says,
      subst (λ k. EndsAs w k i d e) (sym kind) tt,
    )

    no_container : (f : Form) (v : Value) (o : Option Value) → at_depth r (suc d) (if is_in (scalar s) f then o else None) ≡ Some v → ⊥
    no_container f v o h = let none = (chosen (is_shallow r (suc d)) None v h).1 in cc

    -- at a place of a scalar nothing stands but what a scalar of the body means as the kind
    pub stands_scalar : (a : ℕ) (v : Value) (e : ℕ) → (relations w r).stands i t p d a v e → Says w r s p.time i d a v e
    stands_scalar a v e (x, lies, means, ends) = of x lies means
      where
        of : (x : Node L) → Lies w i d x a e → meaning r t p d x ≡ Some v → Says w r s p.time i d a v e
        of null_node lies means =
            absurd (let none : None ≡ Some v = ap (λ k. where_document k (document_meaning r d null_node) None) (sym kind) ∙ means in cc)
        of (leaf x) lies means =
            (x, lies, ap (λ k. where_document k (document_meaning r d (leaf x)) (leaf_meaning r k p.time x)) (sym kind) ∙ means)
        of (container f xs) lies means =
            let es = entries r t p f (suc d) xs in
            absurd (no_container f v (container_of (kind_of t p) es)
            (ap (λ k. where_document k (document_meaning r d (container f xs)) (at_depth r (suc d) (if is_in k f then container_of (kind_of t p) es else None))) (sym kind) ∙ means))
        of missing lies means =
            let none : at_depth r (suc d) (missing_meaning (scalar s)) ≡ Some v = ap (λ k. at_depth r (suc d) (missing_meaning k)) (sym kind) ∙ means in
            absurd (let no' = (chosen (is_shallow r (suc d)) None v none).1 in cc)

    -- a scalar that is too wide as the kind exceeds the limits of the kind at its place
    pub scalar_exceeds : (a : ℕ) (x : L) (e : ℕ) → w.scalar i d x a e → r.says s p.time x ≡ wide → (relations w r).exceeds i t p d a e
    scalar_exceeds a x e lies says = (x, lies, subst (λ k. IsTooWide r k p.time x) (sym kind) says)

    -- at a place of a scalar nothing exceeds the limits of the kind but what is too wide as the kind
    pub exceeds_scalar : (a e : ℕ) → (relations w r).exceeds i t p d a e → (x : L) × w.scalar i d x a e × (r.says s p.time x ≡ wide)
    exceeds_scalar a e (x, lies, says) = (x, lies, subst (λ k. IsTooWide r k p.time x) kind says)

    -- a scalar that the kind can't carry is uncarried at its place
    pub scalar_uncarried : (a : ℕ) (x : L) (e : ℕ) → w.scalar i d x a e → r.says s p.time x ≡ uncarried → (relations w r).uncarried i t p d a e
    scalar_uncarried a x e lies says = subst (λ k. UncarriedAt w r k p.time i d a e) (sym kind) (x, lies, says)

    pub uncarried_scalar : (a e : ℕ) → (relations w r).uncarried i t p d a e → (x : L) × w.scalar i d x a e × (r.says s p.time x ≡ uncarried)
    uncarried_scalar a e there = subst (λ k. UncarriedAt w r k p.time i d a e) kind there

  -- ---- documents

  module _ (kind : kind_of t p ≡ document) (d : ℕ) where
    -- at a place of documents stands what a node means as a document
    pub node_stands : (a : ℕ) (x : Node L) (v : Value) (e : ℕ) → Lies w i d x a e → document_meaning r d x ≡ Some v → w.follows i (suc d) e
        → (relations w r).stands i t p d a v e
    node_stands a x v e lies means follows = (x, lies, means_document r t p d x kind ∙ means, subst (λ k. EndsAs w k i d e) (sym kind) follows)

    -- at a place of documents nothing stands but what a node means as a document
    pub stands_node : (a : ℕ) (v : Value) (e : ℕ) → (relations w r).stands i t p d a v e
        → (x : Node L) × Lies w i d x a e × (document_meaning r d x ≡ Some v) × w.follows i (suc d) e
    stands_node a v e (x, lies, means, ends) =
        (x, lies, sym (means_document r t p d x kind) ∙ means, subst (λ k. EndsAs w k i d e) kind ends)

    -- for a wire that carries documents
    module _ (says : L → Answer (Document Number)) (carried : r.documents ≡ Some says) where
      pub document_stands : (a : ℕ) (x : Node L) (v : Document Number) (e : ℕ) → Lies w i d x a e → document_of r says d x ≡ Some v → w.follows i (suc d) e
          → (relations w r).stands i t p d a (document_value (whole_document v)) e × (relations w r).documents i d a v e
      document_stands a x v e lies means follows =
          let value : document_meaning r d x ≡ Some (document_value (whole_document v)) =
          ap (λ o. document_by r o d x) carried ∙ ap (option_map (λ u. document_value (whole_document u))) means in
          let held : held_document r d x ≡ Some v = ap (option_and_then (λ says. document_of r says d x)) carried ∙ means in
          (node_stands a x (document_value (whole_document v)) e lies value follows, (x, lies, held, follows))

      -- where a node means no document none stands
      pub document_stands_not : (a : ℕ) (x : Node L) (e : ℕ) → IsWire w → Lies w i d x a e → document_of r says d x ≡ None
          → (v : Value) (f : ℕ) → (relations w r).stands i t p d a v f → ⊥
      document_stands_not a x e wire lies none v f stands =
          let y = stands_node a v f stands in
          let same : y.0 ≡ x = (one_node w wire i d y.0 x a f e y.1 lies).0 in
          let nothing : document_meaning r d x ≡ None = ap (λ o. document_by r o d x) carried ∙ ap (option_map (λ u. document_value (whole_document u))) none in
          let clash : None ≡ Some v = sym nothing ∙ (ap (document_meaning r d) (sym same) ∙ y.2) in
          cc

      -- a scalar that no document carries
      pub part_uncarried : (a n c : ℕ) (x : L) (e : ℕ) → a ≤ c → w.scalar i n x c e → says x ≡ uncarried → (relations w r).uncarried i t p d a e
      part_uncarried a n c x e up lies is =
          subst (λ k. UncarriedAt w r k p.time i d a e) (sym kind) (subst (λ o. LiesUncarried w o i a e) (sym carried) (n, c, x, up, lies, is))

    -- where a wire carries no documents, whatever is at a place of documents is uncarried
    pub none_carried : r.documents ≡ None → (a e : ℕ) → (relations w r).uncarried i t p d a e
    none_carried none a e =
        subst (λ k. UncarriedAt w r k p.time i d a e) (sym kind) (subst (λ o. LiesUncarried w o i a e) (sym none) tt)

    pub none_stands : r.documents ≡ None → r.limits ≡ kept → (a : ℕ) (v : Value) (e : ℕ) → (relations w r).stands i t p d a v e → ⊥
    none_stands none keeps a v e stands =
        let y = stands_node a v e stands in
        no_lifted_null r keeps y.0 v (sym (ap (λ o. document_by r o d y.0) none) ∙ y.2)

  -- ---- containers

  module _ (wire : IsWire w) (f : Form) (within : is_in (kind_of t p) f ≡ true) (d : ℕ) where
    -- nothing opens where the wire opens nothing of this form, and no structure is missing
    pub opens_not : (a : ℕ) → ((b : ℕ) (m : Mark) → w.opens f i a b m → ⊥) → (IsStructure (kind_of t p) → (e : ℕ) → w.is_over i a e → ⊥)
        → (b : ℕ) (m : Mark) → (relations w r).opens i t p d a b m → ⊥
    opens_not a none over b m (inl (g, is, opens)) = none b m (subst (λ z. w.opens z i a b m) (one_form (kind_of t p) g f is within) opens)
    opens_not a none over b m (inr h) = over h.0 b h.1

    entry_back : (b at : ℕ) (m j : Mark) (key : Option L) (c : ℕ) (n : Mark) → (b ≡ at) × (m ≡ j) → w.entry f i b m key c n → w.entry f i at j key c n
    entry_back b at m j key c n h entry = subst (λ z. w.entry f i z j key c n) h.0 (subst (λ z. w.entry f i b z key c n) h.1 entry)

    end_back : (b at : ℕ) (m j : Mark) (e : ℕ) → (b ≡ at) × (m ≡ j) → w.ends f i b m e → w.ends f i at j e
    end_back b at m j e h ends = subst (λ z. w.ends f i z j e) h.0 (subst (λ z. w.ends f i b z e) h.1 ends)

    -- behind a key comes no null that is dropped
    abbrev pub NullStays : Option (List ℕ) → ℕ → Type 0
    NullStays text c = (e : ℕ) → w.null i d c e → drops_null r (kind_of t p) (position_in r (kind_of t p) text) ≡ false

    -- no entry that is told and handed on comes there
    abbrev pub NoEntry : ℕ → Mark → Type 0
    NoEntry at j = (key : Option L) (c : ℕ) (n : Mark) → w.entry f i at j key c n → IsTold f (key_text r f key)
        → is_mark r (kind_of t p) (key_text r f key) ≡ false → NullStays (key_text r f key) c → ⊥

    -- no entry is dropped there
    abbrev pub NoDrop : ℕ → Mark → Type 0
    NoDrop at j = (c : ℕ) (n : Mark) → Drops w r (kind_of t p) f i d at j c n → ⊥

    same_drop : (b : ℕ) (m : Mark) (c e : ℕ) (n o : Mark) → Drops w r (kind_of t p) f i d b m c n → Drops w r (kind_of t p) f i d b m e o → (c ≡ e) × (n ≡ o)
    same_drop b m c e n o h j =
        let entry = wire.same_entry f i b m h.key j.key h.at j.at n o h.entry j.entry in
        ((one_node w wire i d h.child j.child h.at c e h.lies (rw entry.1 j.lies)).1, entry.2)

    drops_back : (b at : ℕ) (m j : Mark) (c : ℕ) (n : Mark) → (b ≡ at) × (m ≡ j) → Drops w r (kind_of t p) f i d b m c n → Drops w r (kind_of t p) f i d at j c n
    drops_back b at m j c n h one =
        subst (λ z. Drops w r (kind_of t p) f i d z j c n) h.0 (subst (λ z. Drops w r (kind_of t p) f i d b z c n) h.1 one)

    no_drop_here : (b : ℕ) (m : Mark) (text : Option (List ℕ)) (c : ℕ) (n : Mark) (e : ℕ) (o : Mark) (key : Option L) → w.entry f i b m key c n
        → key_text r f key ≡ text → is_mark r (kind_of t p) text ≡ false → NullStays text c
        → Drops w r (kind_of t p) f i d b m e o → ⊥
    no_drop_here b m text c n e o key entry names unmarked stays h =
        let same = wire.same_entry f i b m key h.key c h.at n o entry h.entry in
        let kept = handed_on w r i (kind_of t p) d text c e h.child unmarked stays (rw same.1 h.lies) in
        let drop = droppable r (kind_of t p) d (key_text r f h.key) h.child h.dropped in
        let other : is_droppable r (kind_of t p) text h.child ≡ true = rw (← names, same.0) drop in
        let clash = sym kept ∙ other in cc

    -- behind entries that are dropped, where no entry comes there is no step
    pub no_step : (x y b : ℕ) (m : Mark) (at to : ℕ) (j o : Mark) (text : Option (List ℕ)) (c : ℕ) (n : Mark) → DropsAll w r (kind_of t p) f x i d b m at j → NoEntry at j → NoDrop at j
        → DropsAll w r (kind_of t p) f y i d b m to o → (key : Option L) → w.entry f i to o key c n → IsTold f text → key_text r f key ≡ text
        → is_mark r (kind_of t p) text ≡ false → NullStays text c → ⊥
    no_step zero zero b m at to j o text c n p none fixed q key entry told names unmarked stays =
        let here : (to ≡ at) × (o ≡ j) = (sym q.0 ∙ p.0, sym q.1 ∙ p.1) in
        none key c n (entry_back to at o j key c n here entry) (subst (IsTold f) (sym names) told) (rw names unmarked) (rw names stays)
    no_step zero (suc y) b m at to j o text c n p none fixed q key entry told names unmarked stays = fixed q.0 q.1 (drops_back b at m j q.0 q.1 p q.2)
    no_step (suc x) zero b m at to j o text c n p none fixed q key entry told names unmarked stays =
        no_drop_here b m text c n p.0 p.1 key (entry_back to b o m key c n (sym q.0, sym q.1) entry) names unmarked stays p.2
    no_step (suc x) (suc y) b m at to j o text c n p none fixed q key entry told names unmarked stays =
        let one = same_drop b m q.0 p.0 q.1 p.1 q.2 p.2 in
        no_step x y p.0 p.1 at to j o text c n p.3 none fixed (rw (← one.0, ← one.1) q.3) key entry told names unmarked stays

    -- behind entries that are dropped, where no end comes, the container doesn't end
    pub no_close : (x y b : ℕ) (m : Mark) (at to : ℕ) (j o : Mark) (e : ℕ) → DropsAll w r (kind_of t p) f x i d b m at j → NoDrop at j
        → ((e : ℕ) → w.ends f i at j e → w.follows i d e → ⊥) → DropsAll w r (kind_of t p) f y i d b m to o → w.ends f i to o e → w.follows i d e → ⊥
    no_close zero zero b m at to j o e p fixed shut q ends follows = shut e (end_back to at o j e (sym q.0 ∙ p.0, sym q.1 ∙ p.1) ends) follows
    no_close zero (suc y) b m at to j o e p fixed shut q ends follows = fixed q.0 q.1 (drops_back b at m j q.0 q.1 p q.2)
    no_close (suc x) zero b m at to j o e p fixed shut q ends follows =
        wire.entry_or_end f i b m p.2.key p.2.at e p.1 p.2.entry (end_back to b o m e (sym q.0, sym q.1) ends)
    no_close (suc x) (suc y) b m at to j o e p fixed shut q ends follows =
        let one = same_drop b m q.0 p.0 q.1 p.1 q.2 p.2 in
        no_close x y p.0 p.1 at to j o e p.3 fixed shut (rw (← one.0, ← one.1) q.3) ends follows

    -- a reader that passed all that is dropped, and met neither an entry nor the end, can't go on
    pub cannot_go_on : (count b : ℕ) (m : Mark) (at : ℕ) (j : Mark) → DropsAll w r (kind_of t p) f count i d b m at j → NoEntry at j → NoDrop at j
        → ((e : ℕ) → w.ends f i at j e → w.follows i d e → ⊥) → (IsStructure (kind_of t p) → m ≡ w.over_mark → (e : ℕ) → w.is_over i b e → 0 < d → ⊥)
        → ((key : Option (List ℕ)) (c : ℕ) (n : Mark) → (relations w r).steps i t p d b m key c n → ⊥)
        × ((e : ℕ) → (relations w r).closes i t p d b m e → ⊥)
    cannot_go_on count b m at j drops none fixed shut over = (steps, closes)
      where
        steps : (key : Option (List ℕ)) (c : ℕ) (n : Mark) → (relations w r).steps i t p d b m key c n → ⊥
        steps key c n (g, is, step) = here (subst (λ z. StepsIn w r (kind_of t p) z i d b m key c n) (one_form (kind_of t p) g f is within) step)
          where
            here : StepsIn w r (kind_of t p) f i d b m key c n → ⊥
            here s = no_step count s.count b m at s.at j s.mark key c n drops none fixed s.drops s.key s.entry s.told s.names s.unmarked s.stays

        closes : (e : ℕ) → (relations w r).closes i t p d b m e → ⊥
        closes e (inl (g, is, ends, follows)) = here (subst (λ z. EndsIn w r (kind_of t p) z i d b m e) (one_form (kind_of t p) g f is within) ends)
          where
            here : EndsIn w r (kind_of t p) f i d b m e → ⊥
            here h = no_close count h.0 b m at h.1 j h.2 e drops fixed shut h.3 h.4 follows
        closes e (inr h) = over h.0 h.2 e h.1 h.3
