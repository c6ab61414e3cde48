-- A container that is half read, of any kind and on any wire.
use Rattle.std.proofs.Common.{◌≡◌, ℕ, suc, ◌<◌, List, [], ◌∷◌, map, Option, Some, None, true, false, refl, sym, ◌∙◌, ap, subst}
use Rattle.smithy_declarations.specs.declared.place.Place.{Place}
use Rattle.smithy_declarations.specs.Table.{Table, Kind, structure_of, union_of, kind_of, place_in, IsStructure, HasMembers, IsSparse, IsContainer}
use Rattle.smithy_declarations.specs.Value.{Value}
use Rattle.smithy_shapes.specs.Container.{container_of}
use Rattle.smithy_shapes.specs.Lemmas.Options.{same_some}
use Rattle.smithy_schema.specs.Reading.{Cursor, ContainerKind, depth, Relations, Mark, Child, child_value, child_unknown, child_null, entry_of, named, IsChild, Chain, Contains, IsLawful, IsBelow, Passes, Reads, Enters, Steps, Leaves, CannotGoOn}

-- From s0, where a container of the place was due, the reader came to s inside it. The container is
-- worth `worth xs` where these children follow.
pub record InContainer (w u : Relations) (max : ℕ) (s0 s : Cursor) (t : Table) (p : Place) (k : ContainerKind) (worth : List Child → Option Value) : Type 0 where
  pub input : s.input ≡ s0.input
  pub within : s.inner.within ≡ k
  pub outer : s.outer ≡ s0.inner ∷ s0.outer
  pub due : s.due ≡ false
  pub failed : s.failed ≡ false
  pub shallow : depth s0 < max
  -- what follows completes a child_value
  pub rest : (xs : List Child) (e : ℕ) (v : Value) → Chain w s0.input t p (suc (depth s0)) s.at s.inner.mark xs e → worth xs ≡ Some v → w.stands s0.input t p (depth s0) s0.at v e
  -- each child_value of the other wire goes on here
  pub only : (e : ℕ) (v : Value) → u.stands s0.input t p (depth s0) s0.at v e → (xs : List Child) × Chain u s0.input t p (suc (depth s0)) s.at s.inner.mark xs e × (worth xs ≡ Some v)

-- a child_value's worth by another function that agrees
pub worth_as : (w u : Relations) (max : ℕ) (s0 s : Cursor) (t : Table) (p : Place) (k : ContainerKind) (f g : List Child → Option Value) → ((xs : List Child) → f xs ≡ g xs) → InContainer w u max s0 s t p k f → InContainer w u max s0 s t p k g
worth_as w u max s0 s t p k f g same inside = record {
  input = inside.input;
  within = inside.within;
  outer = inside.outer;
  due = inside.due;
  failed = inside.failed;
  shallow = inside.shallow;
  rest = λ xs e v chain folds. inside.rest xs e v chain (same xs ∙ folds);
  only = λ e v stands. let found = inside.only e v stands in (found.0, found.1, sym (same found.0) ∙ found.2);
}

pub itself : (w : Relations) → IsBelow w w
itself w = record {
  position = λ t p key. refl;
  begins_null = λ i a. refl;
  allows = λ d h. h;
  stands = λ i t p d a v e h. h;
  nulls = λ i d a e h. h;
  skips = λ i d a e h. h;
  opens = λ i t p d a b m h. h;
  steps = λ i t p d b m key c n h. h;
  closes = λ i t p d b m e h. h;
}

-- the children follow, from another place where they follow
moved : (w : Relations) (i : List ℕ) (t : Table) (p : Place) (d b c : ℕ) (m n : Mark) (xs : List Child) (e : ℕ) → b ≡ c → m ≡ n → Chain w i t p d b m xs e → Chain w i t p d c n xs e
moved w i t p d b c m n xs e here mark chain = subst (λ x. Chain w i t p d c x xs e) mark (subst (λ x. Chain w i t p d x m xs e) here chain)

pub begin : (w u : Relations) (max : ℕ) → IsLawful w → IsLawful u → IsBelow w u → (s0 s : Cursor) (t : Table) (p : Place) (k : ContainerKind) → IsContainer (kind_of t p) → Enters w max s0 s t p k
    → InContainer w u max s0 s t p k (λ xs. container_of (kind_of t p) (map entry_of xs))
begin w u max laws over below s0 s t p k kind enters = record {
  input = enters.input;
  within = enters.within;
  outer = enters.outer;
  due = enters.due;
  failed = enters.failed;
  shallow = enters.shallow;
  rest = λ xs e v chain folds. laws.folded s0.input t p (depth s0) s0.at v e kind (record {
    inside = s.at;
    mark = s.inner.mark;
    children = xs;
    allowed = enters.allowed;
    opens = enters.opens;
    chain = chain;
    means = folds;
  });
  only = λ e v stands.
      let found : Contains u s0.input t p (depth s0) s0.at v e = over.unfolded s0.input t p (depth s0) s0.at v e kind stands in
      let same = over.same_opening s0.input t p (depth s0) s0.at found.inside s.at found.mark s.inner.mark found.opens (below.opens s0.input t p (depth s0) s0.at s.at s.inner.mark enters.opens) in
      (found.children, moved u s0.input t p (suc (depth s0)) found.inside s.at found.mark s.inner.mark found.children e same.0 same.1 found.chain, found.means);
}

pub structure_has_members : (k : Kind) → IsStructure k → HasMembers k
structure_has_members (structure_of members) h = tt
structure_has_members _ h = absurd h

-- where there are members, a child without a position has no place, and no null stands
pub no_place : (k : Kind) → HasMembers k → (q : Place) → place_in k None ≡ Some q → ⊥
no_place (structure_of members) h q e = cc
no_place (union_of members) h q e = cc
no_place _ h q e = h

pub not_both : (k : Kind) → HasMembers k → IsSparse k → ⊥
not_both (structure_of members) h l = l
not_both (union_of members) h l = l
not_both _ h l = h

-- no null stands where none begins
pub no_null_begins : (w : Relations) → IsLawful w → (i : List ℕ) (d a f : ℕ) → w.begins_null i a ≡ false → w.nulls i d a f → ⊥
no_null_begins w laws i d a f none nulls = let both : true ≡ false = sym (laws.null_begins i d a f nulls) ∙ none in cc

-- a child and its end are determined by the step
pub same_child : (w : Relations) → IsLawful w → (i : List ℕ) (t : Table) (p : Place) (d : ℕ) (key : Option (List ℕ)) (x y : Child) (c f g : ℕ)
    → IsChild w i t p d key x c f → IsChild w i t p d key y c g → (x ≡ y) × (f ≡ g)
same_child w laws i t p d key (child_value a m v) (child_value b n u) c f g h k =
    let positions : m ≡ n = h.1 ∙ sym k.1 in
    let places : h.2.0 ≡ k.2.0 = same_some _ _ (sym h.2.1 ∙ ap (place_in (kind_of t p)) positions ∙ k.2.1) in
    let moved : w.stands i t k.2.0 d c v f = subst (λ q. w.stands i t q d c v f) places h.2.2 in
    let values : v ≡ u = laws.same_value i t k.2.0 d c v u f g moved k.2.2 in
    (ap (λ z. child_value z m v) (h.0 ∙ sym k.0) ∙ ap (λ z. child_value b z v) positions ∙ ap (child_value b n) values, laws.same_end i t k.2.0 d c v u f g moved k.2.2)
same_child w laws i t p d key (child_value a m v) (child_null b) c f g h k = absurd (no_null_begins w laws i d c g (h.3 k.1) k.2)
same_child w laws i t p d key (child_value a m v) (child_unknown b) c f g h k = absurd (no_place _ (structure_has_members _ k.1) h.2.0 (ap (place_in (kind_of t p)) (sym (h.1 ∙ k.2)) ∙ h.2.1))
same_child w laws i t p d key (child_null a) (child_value b n u) c f g h k = absurd (no_null_begins w laws i d c f (k.3 h.1) h.2)
same_child w laws i t p d key (child_null a) (child_null b) c f g h k = (ap child_null (h.0 ∙ sym k.0), laws.same_null i d c f g h.2 k.2)
same_child w laws i t p d key (child_null a) (child_unknown b) c f g h k = absurd (not_both _ (structure_has_members _ k.1) h.1)
same_child w laws i t p d key (child_unknown a) (child_value b n u) c f g h k = absurd (no_place _ (structure_has_members _ h.1) k.2.0 (ap (place_in (kind_of t p)) (sym (k.1 ∙ h.2)) ∙ k.2.1))
same_child w laws i t p d key (child_unknown a) (child_null b) c f g h k = absurd (not_both _ (structure_has_members _ h.1) k.1)
same_child w laws i t p d key (child_unknown a) (child_unknown b) c f g h k = (ap child_unknown (h.0 ∙ sym k.0), laws.same_skip i d c f g h.3 k.3)

-- after the step, children that complete the container begin with one that is behind this step
pub first_of : (w : Relations) → IsLawful w → (i : List ℕ) (t : Table) (p : Place) (d b : ℕ) (m : Mark) (key : Option (List ℕ)) (c : ℕ) (n : Mark) (xs : List Child) (e : ℕ)
    → w.steps i t p d b m key c n → Chain w i t p d b m xs e
    → (y : Child) × (ys : List Child) × (f : ℕ) × (xs ≡ y ∷ ys) × IsChild w i t p d key y c f × Chain w i t p d f n ys e
first_of w laws i t p d b m key c n [] e steps chain = absurd (laws.step_or_close i t p d b m key c n e steps chain)
first_of w laws i t p d b m key c n (y ∷ ys) e steps chain =
    let same = laws.same_step i t p d b m chain.0 key chain.1 c chain.2 n chain.4 steps in (
      y,
      ys,
      chain.3,
      refl,
      subst (λ k. IsChild w i t p d k y c chain.3) same.0 (subst (λ x. IsChild w i t p d chain.0 y x chain.3) same.1 chain.5),
      subst (λ m. Chain w i t p d chain.3 m ys e) same.2 chain.6,
    )

pub named_above : (w u : Relations) → IsBelow w u → (t : Table) (p : Place) (key : Option (List ℕ)) → named w t p key ≡ named u t p key
named_above w u below t p None = refl
named_above w u below t p (Some key) = below.position t p key

-- a child on one wire is a child on the other
child_above : (w u : Relations) → IsBelow w u → (i : List ℕ) (t : Table) (p : Place) (d : ℕ) (key : Option (List ℕ)) (x : Child) (c f : ℕ) → IsChild w i t p d key x c f → IsChild u i t p d key x c f
child_above w u below i t p d key (child_value k n v) c f h =
    (h.0, h.1 ∙ named_above w u below t p key, (h.2.0, h.2.1, below.stands i t h.2.0 d c v f h.2.2), λ sparse. sym (below.begins_null i c) ∙ h.3 sparse)
child_above w u below i t p d key (child_null k) c f h = (h.0, h.1, below.nulls i d c f h.2)
child_above w u below i t p d key (child_unknown k) c f h = (h.0, h.1, sym (named_above w u below t p key) ∙ h.2, below.skips i d c f h.3)

-- the step and the child, as they stand in the container that began at s0
abbrev stepped : (w u : Relations) (max : ℕ) (s0 s s1 : Cursor) (t : Table) (p : Place) (k : ContainerKind) (worth : List Child → Option Value) (key : Option (List ℕ)) → InContainer w u max s0 s t p k worth → Steps w s s1 t p key
    → w.steps s0.input t p (suc (depth s0)) s.at s.inner.mark key s1.at s1.inner.mark
stepped w u max s0 s s1 t p k worth key inside steps = rw (inside.input, inside.outer) at steps.steps

pub child_read : (w u : Relations) (max : ℕ) → IsLawful u → IsBelow w u → (s0 s s1 s2 : Cursor) (t : Table) (p : Place) (k : ContainerKind) (worth : List Child → Option Value) (key : Option (List ℕ)) (x : Child)
    → InContainer w u max s0 s t p k worth → Steps w s s1 t p key → IsChild w s1.input t p (depth s1) key x s1.at s2.at → Passes s1 s2
    → InContainer w u max s0 s2 t p k (λ xs. worth (x ∷ xs))
child_read w u max over below s0 s s1 s2 t p k worth key x inside steps child passes =
    let here : IsChild w s0.input t p (suc (depth s0)) key x s1.at s2.at = rw (steps.input, inside.input, steps.outer, inside.outer) at child in
    let step = stepped w u max s0 s s1 t p k worth key inside steps in
    record {
      input = passes.input ∙ steps.input ∙ inside.input;
      within = ap (λ f. f.within) passes.inner ∙ steps.within ∙ inside.within;
      outer = passes.outer ∙ steps.outer ∙ inside.outer;
      due = passes.due;
      failed = passes.failed;
      shallow = inside.shallow;
      rest = λ xs e u chain folds. inside.rest (x ∷ xs) e u (key, s1.at, s1.inner.mark, s2.at, step, here, rw passes.inner at chain) folds;
      only = λ e v stands.
          let found = inside.only e v stands in
          let first = first_of u over s0.input t p (suc (depth s0)) s.at s.inner.mark key s1.at s1.inner.mark found.0 e (below.steps s0.input t p (suc (depth s0)) s.at s.inner.mark key s1.at s1.inner.mark step) found.1 in
          let same = same_child u over s0.input t p (suc (depth s0)) key first.0 x s1.at first.2 s2.at first.4 (child_above w u below s0.input t p (suc (depth s0)) key x s1.at s2.at here) in (
            first.1,
            moved u s0.input t p (suc (depth s0)) first.2 s2.at s1.inner.mark s2.inner.mark first.1 e same.1 (sym (ap (λ f. f.mark) passes.inner)) first.5,
            sym (ap worth (first.3 ∙ ap (λ y. y ∷ first.1) same.0)) ∙ found.2,
          );
    }

-- the container ends
pub end : (w u : Relations) (max : ℕ) (s0 s s1 : Cursor) (t : Table) (p : Place) (k : ContainerKind) (worth : List Child → Option Value) (v : Value) → InContainer w u max s0 s t p k worth → Leaves w s s1 t p → worth [] ≡ Some v → Reads w s0 s1 t p v
end w u max s0 s s1 t p k worth v inside leaves folds = record {
  stands = inside.rest [] s1.at v (rw (inside.input, inside.outer) at leaves.closes) folds;
  passes = record {
    input = leaves.input ∙ inside.input;
    inner = let e : s0.inner ∷ s0.outer ≡ s1.inner ∷ s1.outer = sym inside.outer ∙ leaves.outer in cc;
    outer = let e : s0.inner ∷ s0.outer ≡ s1.inner ∷ s1.outer = sym inside.outer ∙ leaves.outer in cc;
    due = leaves.due;
    failed = leaves.failed;
  };
}

stuck_at : (w : Relations) (i : List ℕ) (t : Table) (p : Place) (d b : ℕ) (m : Mark) (xs : List Child) (e : ℕ) → Chain w i t p d b m xs e
    → ((key : Option (List ℕ)) (c : ℕ) (n : Mark) → w.steps i t p d b m key c n → ⊥) × ((e : ℕ) → w.closes i t p d b m e → ⊥) → ⊥
stuck_at w i t p d b m [] e chain none = none.1 e chain
stuck_at w i t p d b m (x ∷ xs) e chain none = none.0 chain.0 chain.1 chain.2 chain.4

-- nothing stands where the reader can't go on
pub stuck : (w u : Relations) (max : ℕ) (s0 s : Cursor) (t : Table) (p : Place) (k : ContainerKind) (worth : List Child → Option Value) → InContainer w u max s0 s t p k worth → CannotGoOn u s t p
    → (v : Value) (e : ℕ) → u.stands s0.input t p (depth s0) s0.at v e → ⊥
stuck w u max s0 s t p k worth inside cannot v e stands =
    let found = inside.only e v stands in
    stuck_at u s0.input t p (suc (depth s0)) s.at s.inner.mark found.0 e found.1
    (rw (inside.input, inside.outer) at cannot)

-- nothing stands where the child behind a step can't be read
pub no_child : (w u : Relations) (max : ℕ) → IsLawful u → IsBelow w u → (s0 s s1 : Cursor) (t : Table) (p : Place) (k : ContainerKind) (worth : List Child → Option Value) (key : Option (List ℕ))
    → InContainer w u max s0 s t p k worth → Steps w s s1 t p key → ((x : Child) (f : ℕ) → IsChild u s1.input t p (depth s1) key x s1.at f → ⊥)
    → (v : Value) (e : ℕ) → u.stands s0.input t p (depth s0) s0.at v e → ⊥
no_child w u max over below s0 s s1 t p k worth key inside steps none v e stands =
    let none_here : (x : Child) (f : ℕ) → IsChild u s0.input t p (suc (depth s0)) key x s1.at f → ⊥ = rw (steps.input, inside.input, steps.outer, inside.outer) at none in
    let found = inside.only e v stands in
    let first = first_of u over s0.input t p (suc (depth s0)) s.at s.inner.mark key s1.at s1.inner.mark found.0 e (below.steps s0.input t p (suc (depth s0)) s.at s.inner.mark key s1.at s1.inner.mark (stepped w u max s0 s s1 t p k worth key inside steps)) found.1 in
    none_here first.0 first.2 first.4

none_is_some : {A : Type 0} (o : Option A) (v : A) → o ≡ None → o ≡ Some v → ⊥
none_is_some o v none some = cc

-- nothing stands where no child behind a step makes a container
pub no_worth : (w u : Relations) (max : ℕ) → IsLawful u → IsBelow w u → (s0 s s1 : Cursor) (t : Table) (p : Place) (k : ContainerKind) (worth : List Child → Option Value) (key : Option (List ℕ))
    → InContainer w u max s0 s t p k worth → Steps w s s1 t p key
    → ((x : Child) (f : ℕ) → IsChild u s1.input t p (depth s1) key x s1.at f → (xs : List Child) → worth (x ∷ xs) ≡ None)
    → (v : Value) (e : ℕ) → u.stands s0.input t p (depth s0) s0.at v e → ⊥
no_worth w u max over below s0 s s1 t p k worth key inside steps none v e stands =
    let none_here : (x : Child) (f : ℕ) → IsChild u s0.input t p (suc (depth s0)) key x s1.at f → (xs : List Child) → worth (x ∷ xs) ≡ None = rw (steps.input, inside.input, steps.outer, inside.outer) at none in
    let found = inside.only e v stands in
    let first = first_of u over s0.input t p (suc (depth s0)) s.at s.inner.mark key s1.at s1.inner.mark found.0 e (below.steps s0.input t p (suc (depth s0)) s.at s.inner.mark key s1.at s1.inner.mark (stepped w u max s0 s s1 t p k worth key inside steps)) found.1 in
    none_is_some (worth found.0) v (ap worth first.3 ∙ none_here first.0 first.2 first.4 first.1) found.2

no_children : (w : Relations) → IsLawful w → (i : List ℕ) (t : Table) (p : Place) (d b : ℕ) (m : Mark) (xs : List Child) (e f : ℕ) → w.closes i t p d b m f → Chain w i t p d b m xs e → xs ≡ []
no_children w laws i t p d b m [] e f closes chain = refl
no_children w laws i t p d b m (x ∷ xs) e f closes chain = absurd (laws.step_or_close i t p d b m chain.0 chain.1 chain.2 f chain.4 closes)

-- nothing stands where the container ends too early
pub ends_early : (w u : Relations) (max : ℕ) → IsLawful u → IsBelow w u → (s0 s s1 : Cursor) (t : Table) (p : Place) (k : ContainerKind) (worth : List Child → Option Value)
    → InContainer w u max s0 s t p k worth → Leaves w s s1 t p → worth [] ≡ None
    → (v : Value) (e : ℕ) → u.stands s0.input t p (depth s0) s0.at v e → ⊥
ends_early w u max over below s0 s s1 t p k worth inside leaves none v e stands =
    let found = inside.only e v stands in
    let closes : w.closes s0.input t p (suc (depth s0)) s.at s.inner.mark s1.at = rw (inside.input, inside.outer) at leaves.closes in
    let empty = no_children u over s0.input t p (suc (depth s0)) s.at s.inner.mark found.0 e s1.at (below.closes s0.input t p (suc (depth s0)) s.at s.inner.mark s1.at closes) found.1 in
    none_is_some (worth found.0) v (ap worth empty ∙ none) found.2

-- the loop over children ends
pub left_falls : (w u : Relations) (max : ℕ) → IsLawful w → (s0 s s1 s2 : Cursor) (t : Table) (p : Place) (k : ContainerKind) (worth : List Child → Option Value) (key : Option (List ℕ)) (x : Child)
    → InContainer w u max s0 s t p k worth → Steps w s s1 t p key → IsChild w s1.input t p (depth s1) key x s1.at s2.at → Passes s1 s2
    → w.left s2.input s2.at s2.inner.mark < w.left s.input s.at s.inner.mark
left_falls w u max laws s0 s s1 s2 t p k worth key x inside steps child passes =
    let here : IsChild w s.input t p (depth s) key x s1.at s2.at = rw (steps.input, steps.outer) at child in
    rw (passes.input, steps.input, passes.inner) (laws.nearer s.input t p (depth s) s.at s.inner.mark key s1.at s1.inner.mark x s2.at steps.steps here)
