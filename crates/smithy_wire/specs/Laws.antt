-- The laws of reading, once for all wires and kinds.
use Rattle.std.specs.Prelude.{◌≡◌, ◌⊎◌, ◌<◌, ◌≤◌, ℕ, zero, suc, nat_lt, length, drop, List, Bool, not, Option, Some, None, true, false, refl}
use Rattle.std.specs.Option.{option_map_or}
use Rattle.std.proofs.Common.{sym, ◌∙◌, ap, arith, subst, inl, inr}
use Rattle.std.proofs.lemmas.Bool.Decides.{nat_tests}
use Rattle.smithy_declarations.specs.declared.place.Place.{Place}
use Rattle.smithy_declarations.specs.declared.place.Target.{Target}
use Rattle.smithy_declarations.specs.declared.place.Target.TheVariants.{Simple, Document, Declared}
use Rattle.smithy_shapes.specs.Limits.{kept}
use Rattle.smithy_declarations.specs.Table.{Table, Kind, structure_of, union_of, kind_of_target, kind_of, place_in, member_place, is_document_target, is_document_place, HasMembers, IsStructure, IsDocument}
use Rattle.smithy_declarations.specs.Value.{Value}
use Rattle.smithy_schema.specs.Reading.{Mark, Child, child_value, child_null, child_unknown, IsChild, IsLawful, StandsFit, CountsOpeners, IsBelow, IsBehind as IsPassed}
use Rattle.smithy_shapes.specs.Lemmas.Options.{same_some, chosen}
use Rattle.smithy_wire.specs.Node.{Form, Node, null_node, leaf, container, missing}
use Rattle.smithy_schema.specs.Nulls.{DropsNulls}
use Rattle.smithy_wire.specs.Rules.{Rules, lift, is_shallow, may_skip, position_in, drops_null}
use Rattle.smithy_wire.specs.Meaning.{missing_meaning, meaning}
use Rattle.smithy_wire.specs.Frames.{Frames, Lies, DropsAll, StepsIn, EndsIn, relations}
use Rattle.smithy_wire.specs.Wire.{no_value, IsBehind, IsWire, BoundsOpeners, RulesFit}
use Rattle.smithy_wire.specs.Lemmas.Nodes.{sort_of, lies_begins, one_node, lies_behind, lies_ahead, takes_none, not_back}
use Rattle.smithy_wire.specs.Lemmas.Determined.{one_form, same_step, same_close, step_or_close, no_step_over, no_end_over}
use Rattle.smithy_wire.specs.Documents.{document_meaning}
use Rattle.smithy_wire.specs.Lemmas.Places.{where_apart}
use Rattle.smithy_wire.specs.Lemmas.Fitting.{meaning_fits}
use Rattle.smithy_wire.specs.Lemmas.CountingValues.{stands_has_bytes}
use Rattle.smithy_wire.specs.Lemmas.Lifting.{lifting_is_below}
use Rattle.smithy_wire.specs.Lemmas.Containers.{folded_stands, stands_unfolded, is_missing, object_form}

below_or_same : (a e : ℕ) → a ≤ e → (a < e) ⊎ (a ≡ e)
below_or_same a e h = by (nat_lt a e) refl
  where
    by : (less : Bool) → nat_lt a e ≡ less → (a < e) ⊎ (a ≡ e)
    by true is = inl (grind (arith, nat_tests))
    by false is = inr (grind (arith, nat_tests))

-- from a place up to the end of the input
ahead_or_there : (i : List ℕ) (a e : ℕ) (P : Type 0) → (a ≤ e) × (e ≡ length i) → P → (a < e) ⊎ ((a ≡ e) × (e ≡ length i) × P)
ahead_or_there i a e P h p = elim (below_or_same a e h.0) [
  | inl less ↦ inl less
  | inr same ↦ inr (same, h.1, p)
]

document_due : (t : Table) (target : Target) → is_document_target target ≡ true → IsDocument (kind_of_target t target)
document_due t Document h = tt
document_due t (Simple s) h = cc
document_due t (Declared id) h = cc

not_false : (b : Bool) → not b ≡ false → b ≡ true
not_false true h = refl
not_false false h = cc

module _ {L : Type 0} (w : Frames L) (r : Rules L) (wire : IsWire w) where
  ahead : (i : List ℕ) (t : Table) (p : Place) (d a : ℕ) (v : Value) (e : ℕ) (x : Node L) → Lies w i d x a e → meaning r t p d x ≡ Some v
      → (a < e) ⊎ ((a ≡ e) × (e ≡ length i) × IsStructure (kind_of t p))
  ahead i t p d a v e null_node lies means = inl (wire.null_ahead i d a e lies).0
  ahead i t p d a v e (leaf x) lies means = inl (wire.scalar_ahead i d x a e lies).0
  ahead i t p d a v e (container f xs) lies means = inl (lies_ahead w wire i d (container f xs) a e lies λ h. cc).0
  ahead i t p d a v e missing lies means =
      let end = wire.over_is_end i a e lies in
      let there = chosen (is_shallow r (suc d)) (missing_meaning (kind_of t p)) v means in
      ahead_or_there i a e (IsStructure (kind_of t p)) end (is_missing w r wire i t p d (kind_of t p) v there.1)

  skipped_is_there : (d : ℕ) (x : Node L) → may_skip r d x ≡ true → sort_of x ≡ no_value → ⊥
  skipped_is_there d null_node h k = cc
  skipped_is_there d (leaf x) h k = cc
  skipped_is_there d (container f xs) h k = cc
  skipped_is_there d missing h k = cc

  begins : (i : List ℕ) (t : Table) (p : Place) (d a : ℕ) (v : Value) (e : ℕ) (x : Node L) → Lies w i d x a e → meaning r t p d x ≡ Some v
      → IsDocument (kind_of t p) ⊎ (w.begins_null i a ≡ false)
  begins i t p d a v e null_node lies means =
      where_apart (kind_of t p) (document_meaning r d null_node) None v (IsDocument (kind_of t p) ⊎ (w.begins_null i a ≡ false)) means
      (λ is there. inl (subst IsDocument (sym is) tt)) (λ none. cc)
  begins i t p d a v e (leaf x) lies means = inr (lies_begins w wire i d (leaf x) a e lies refl)
  begins i t p d a v e (container f xs) lies means = inr (lies_begins w wire i d (container f xs) a e lies refl)
  begins i t p d a v e missing lies means = inr (lies_begins w wire i d missing a e lies refl)

  behind : (i : List ℕ) (t : Table) (p : Place) (d : ℕ) (key : Option (List ℕ)) (x : Child) (c e : ℕ) → IsChild (relations w r) i t p d key x c e → IsBehind w i c e
  behind i t p d key (child_value k n v) c e (is, at, (q, there, (y, lies, means, ends)), real) = lies_behind w wire i d y c e lies
  behind i t p d key (child_null k) c e (is, takes, lies) = let l = wire.null_ahead i d c e lies in (inl l.0, l.1)
  behind i t p d key (child_unknown k) c e (is, structure', none, (y, lies, may)) = lies_behind w wire i d y c e lies

  passed : (i : List ℕ) (c e : ℕ) → IsBehind w i c e → IsPassed i c e
  passed i c e (inl less, within) = (inl less, within)
  passed i c e (inr over, within) =
      let end = wire.over_is_end i c e over in
      elim (below_or_same c e end.0) [
        | inl less ↦ (inl less, within)
        | inr same ↦ (inr (same, end.1), within)
      ]

  drops_fall : (i : List ℕ) (k : Kind) (f : Form) (count d b : ℕ) (m : Mark) (c : ℕ) (n : Mark) → DropsAll w r k f count i d b m c n → w.left i c n ≤ w.left i b m
  drops_fall i k f zero d b m c n h = rw (h.0, h.1) (omega arith)
  drops_fall i k f (suc count) d b m c n (g, j, one, more) =
      omega (arith, wire.nearer f i b m one.key one.at g j one.entry (passed i one.at g (lies_behind w wire i d one.child one.at g one.lies)), drops_fall i k f count d g j c n more)

  nearer : (i : List ℕ) (k : Kind) (f : Form) (d b : ℕ) (m : Mark) (key : Option (List ℕ)) (c : ℕ) (n : Mark) (e : ℕ) → StepsIn w r k f i d b m key c n → IsPassed i c e
      → w.left i e n < w.left i b m
  nearer i k f d b m key c n e step at =
      omega (arith, drops_fall i k f step.count d b m step.at step.mark step.drops, wire.nearer f i step.at step.mark step.key c e n step.entry at)

  step_left : (i : List ℕ) (k : Kind) (f : Form) (d b : ℕ) (m : Mark) (key : Option (List ℕ)) (c : ℕ) (n : Mark) → StepsIn w r k f i d b m key c n → w.left i c n ≤ w.left i b m
  step_left i k f d b m key c n step =
      omega (arith, drops_fall i k f step.count d b m step.at step.mark step.drops, wire.entry_falls f i step.at step.mark step.key c n step.entry)

  drops_ahead : (i : List ℕ) (k : Kind) (f : Form) (count d b : ℕ) (m : Mark) (c : ℕ) (n : Mark) → DropsAll w r k f count i d b m c n → b ≤ c
  drops_ahead i k f zero d b m c n h = omega (arith, h.0)
  drops_ahead i k f (suc count) d b m c n (g, j, one, more) =
      omega (
        arith,
        wire.entry_ahead f i b m one.key one.at j one.entry,
        not_back w wire i one.at g (lies_behind w wire i d one.child one.at g one.lies).0,
        drops_ahead i k f count d g j c n more,
      )

  step_ahead : (i : List ℕ) (k : Kind) (f : Form) (d b : ℕ) (m : Mark) (key : Option (List ℕ)) (c : ℕ) (n : Mark) → StepsIn w r k f i d b m key c n → b ≤ c
  step_ahead i k f d b m key c n step =
      omega (arith, drops_ahead i k f step.count d b m step.at step.mark step.drops, wire.entry_ahead f i step.at step.mark step.key c n step.entry)

  -- a step after an entry begins with another entry, which takes a byte
  behind_entry : (i : List ℕ) (k : Kind) (f : Form) (d b e : ℕ) (m : Mark) (key : Option L) (c : ℕ) (n : Mark) (text : Option (List ℕ)) (g : ℕ) (o : Mark) → w.entry f i b m key c n
      → StepsIn w r k f i d e n text g o → e < length i
  behind_entry i k f d b e m key c n text g o entry step = by step.count step.drops
    where
      by : (count : ℕ) → DropsAll w r k f count i d e n step.at step.mark → e < length i
      by zero (at, mark) =
          wire.next_entry f i b m key c n e step.key g o entry (subst (λ x. w.entry f i x n step.key g o) (sym at) (subst (λ x. w.entry f i step.at x step.key g o) (sym mark) step.entry))
      by (suc count) (h, j, one, more) = wire.next_entry f i b m key c n e one.key one.at j entry one.entry

  next_takes : (i : List ℕ) (t : Table) (p : Place) (d j b f : ℕ) (m : Mark) (key key' : Option (List ℕ)) (c g : ℕ) (n o : Mark)
      → (relations w r).steps i t p d b m key c n → (relations w r).steps i t p j f n key' g o → f < length i
  next_takes i t p d j b f m key key' c g n o (s, is, step) (u, is', next) =
      behind_entry i (kind_of t p) s j step.at f step.mark step.key c n key' g o step.entry
      (subst (λ z. StepsIn w r (kind_of t p) z i j f n key' g o) (one_form (kind_of t p) u s is' is) next)

  first_takes : (i : List ℕ) (t : Table) (p : Place) (d j a b : ℕ) (m : Mark) (key : Option (List ℕ)) (c : ℕ) (n : Mark)
      → (relations w r).opens i t p d a b m → (relations w r).steps i t p j b m key c n → (a < b) × (b ≤ length i)
  first_takes i t p d j a b m key c n (inl (f, is, opens)) steps = wire.opens_ahead f i a b m opens
  first_takes i t p d j a b m key c n (inr h) (f, is, steps) =
      absurd (no_step_over w r wire i (kind_of t p) f j (object_form w r wire i t p j f h.0 is) b b m (wire.over_stays i a b h.1) h.2 key c n steps)

  inside : (i : List ℕ) (t : Table) (p : Place) (d a b : ℕ) (m : Mark) → (relations w r).opens i t p d a b m
      → (a < b) ⊎ ((a ≡ b) × (b ≡ length i) × IsStructure (kind_of t p))
  inside i t p d a b m (inl (f, is, opens)) = inl (wire.opens_ahead f i a b m opens).0
  inside i t p d a b m (inr h) = ahead_or_there i a b (IsStructure (kind_of t p)) (wire.over_is_end i a b h.1) h.0

  opening : (i : List ℕ) (t : Table) (p : Place) (d a b c : ℕ) (m n : Mark) → (relations w r).opens i t p d a b m → (relations w r).opens i t p d a c n → (b ≡ c) × (m ≡ n)
  opening i t p d a b c m n (inl (f, is, opens)) (inl (g, is', opens')) =
      wire.same_opens f i a b c m n opens (subst (λ z. w.opens z i a c n) (one_form (kind_of t p) g f is' is) opens')
  opening i t p d a b c m n (inl (f, is, opens)) (inr h) = absurd (let clash = sym (wire.opens_sort f i a b m opens) ∙ wire.over_sort i a c h.1 in cc)
  opening i t p d a b c m n (inr h) (inl (g, is, opens)) = absurd (let clash = sym (wire.opens_sort g i a c n opens) ∙ wire.over_sort i a b h.1 in cc)
  opening i t p d a b c m n (inr h) (inr j) = ((wire.over_is_end i a b h.1).1 ∙ sym (wire.over_is_end i a c j.1).1, h.2 ∙ sym j.2)

  stepping : (i : List ℕ) (t : Table) (p : Place) (d b : ℕ) (m : Mark) (key key' : Option (List ℕ)) (c c' : ℕ) (n n' : Mark)
      → (relations w r).steps i t p d b m key c n → (relations w r).steps i t p d b m key' c' n' → (key ≡ key') × (c ≡ c') × (n ≡ n')
  stepping i t p d b m key key' c c' n n' (f, is, steps) (g, is', steps') =
      same_step w r wire i (kind_of t p) f d b m key key' c c' n n' steps
      (subst (λ z. StepsIn w r (kind_of t p) z i d b m key' c' n') (one_form (kind_of t p) g f is' is) steps')

  closing : (i : List ℕ) (t : Table) (p : Place) (d b : ℕ) (m : Mark) (e e' : ℕ) → (relations w r).closes i t p d b m e → (relations w r).closes i t p d b m e' → e ≡ e'
  closing i t p d b m e e' (inl (f, is, ends, follows)) (inl (g, is', ends', follows')) =
      same_close w r wire i (kind_of t p) f d b m e e' ends (subst (λ z. EndsIn w r (kind_of t p) z i d b m e') (one_form (kind_of t p) g f is' is) ends')
  closing i t p d b m e e' (inl (f, is, ends, follows)) (inr h) = absurd (no_end_over w r wire i (kind_of t p) f d (object_form w r wire i t p d f h.0 is) b e' m h.1 h.2 e ends)
  closing i t p d b m e e' (inr h) (inl (f, is, ends, follows)) = absurd (no_end_over w r wire i (kind_of t p) f d (object_form w r wire i t p d f h.0 is) b e m h.1 h.2 e' ends)
  closing i t p d b m e e' (inr h) (inr j) = (wire.over_is_end i b e h.1).1 ∙ sym (wire.over_is_end i b e' j.1).1

  never_both : (i : List ℕ) (t : Table) (p : Place) (d b : ℕ) (m : Mark) (key : Option (List ℕ)) (c : ℕ) (n : Mark) (e : ℕ)
      → (relations w r).steps i t p d b m key c n → (relations w r).closes i t p d b m e → ⊥
  never_both i t p d b m key c n e (f, is, steps) (inl (g, is', ends, follows)) =
      step_or_close w r wire i (kind_of t p) f d b m key c n e steps (subst (λ z. EndsIn w r (kind_of t p) z i d b m e) (one_form (kind_of t p) g f is' is) ends)
  never_both i t p d b m key c n e (f, is, steps) (inr h) = no_step_over w r wire i (kind_of t p) f d (object_form w r wire i t p d f h.0 is) b e m h.1 h.2 key c n steps

  within : (i : List ℕ) (d a e : ℕ) (x : Node L) → Lies w i d x a e → (a ≤ e) × (e ≤ length i)
  within i d a e x lies = let l = lies_behind w wire i d x a e lies in (not_back w wire i a e l.0, l.1)

  -- under all settings, with the limits kept and lifted
  pub lawful : IsLawful (relations w r)
  lawful = record {
    folded = λ i t p d a v e c box. folded_stands w r wire i t p d a v e box;
    unfolded = λ i t p d a v e c h. stands_unfolded w r wire i t p d a v e c h;
    same_value = λ i t p d a v u e f h k.
        same_some v u (sym h.2 ∙ (ap (meaning r t p d) (one_node w wire i d h.0 k.0 a e f h.1 k.1).0 ∙ k.2));
    same_end = λ i t p d a v u e f h k. (one_node w wire i d h.0 k.0 a e f h.1 k.1).1;
    stands_ahead = λ i t p d a v e h. ahead i t p d a v e h.0 h.1 h.2;
    stands_within = λ i t p d a v e h. within i d a e h.0 h.1;
    opens_ahead = inside;
    nulls_within = λ i d a e h. wire.null_ahead i d a e h;
    skips_within = λ i d a e h. lies_ahead w wire i d h.0 a e h.1 (skipped_is_there d h.0 h.2);
    nearer = λ i t p d b m key c n x e steps child.
        nearer i (kind_of t p) steps.0 d b m key c n e steps.2 (passed i c e (behind i t p d key x c e child));
    falls = λ i t p d b m key c n f steps at. nearer i (kind_of t p) steps.0 d b m key c n f steps.2 at;
    step_falls = λ i t p d b m key c n steps. step_left i (kind_of t p) steps.0 d b m key c n steps.2;
    first_takes = first_takes;
    next_takes = next_takes;
    step_ahead = λ i t p d b m key c n steps. step_ahead i (kind_of t p) steps.0 d b m key c n steps.2;
    skip_falls = λ i d a e m h. let l = lies_ahead w wire i d h.0 a e h.1 (skipped_is_there d h.0 h.2) in wire.left_falls i a e m l.0 l.1;
    same_opening = opening;
    same_step = stepping;
    same_close = closing;
    step_or_close = never_both;
    same_null = λ i d a e f h k. wire.same_null i d a e f h k;
    same_skip = λ i d a e f h k. (one_node w wire i d h.0 k.0 a e f h.1 k.1).1;
    null_begins = wire.null_begins;
    value_begins = λ i t p d a v e h. begins i t p d a v e h.0 h.1 h.2;
    empty_structure = λ t p d structure'.
        (w.over_mark, inr (structure', wire.empty_is_over, refl), inr (structure', wire.empty_is_over, refl, omega arith));
  }

-- where what scalars mean is a value of their kind, what stands within the limits is a value of its place, with bytes for all values
-- inside of it
pub stands_fit : {L : Type 0} (w : Frames L) (r : Rules L) → IsWire w → r.limits ≡ kept → RulesFit w r → StandsFit (relations w r)
stands_fit w r wire keeps fits = record {
  fits = λ i t p d a v e h. meaning_fits w r keeps fits i t d h.0 p v a e h.1 h.2;
  counted = stands_has_bytes w r wire keeps fits;
}

-- where no null is kept but those of documents, a step goes to no other null
pub drops_nulls : {L : Type 0} (w : Frames L) (r : Rules L) → ((place : Option Place) → r.keeps_null place ≡ true → option_map_or is_document_place place false ≡ true) → DropsNulls (relations w r)
drops_nulls w r keeps i t p d b m key c n e has (f, is, step) null = by (kind_of t p) has (step.stays e null)
  where
    document_at : (place : Option Place) → option_map_or is_document_place place false ≡ true → (q : Place) × (place ≡ Some q) × IsDocument (kind_of t q)
    document_at None h = cc
    document_at (Some q) h = (q, refl, document_due t q.target h)

    by : (k : Kind) → HasMembers k → drops_null r k (position_in r k (Some key)) ≡ false → (q : Place) × (place_in k (position_in r k (Some key)) ≡ Some q) × IsDocument (kind_of t q)
    by (structure_of members) has stays = let place = member_place members (position_in r (structure_of members) (Some key)) in document_at place (keeps place (not_false (r.keeps_null place) stays))
    by (union_of members) has stays = let place = member_place members (position_in r (union_of members) (Some key)) in document_at place (keeps place (not_false (r.keeps_null place) stays))
    by _ has stays = absurd has

-- what holds with the limits kept holds with them lifted
pub lifted_is_above : {L : Type 0} (w : Frames L) (r : Rules L) → IsBelow (relations w r) (relations w (lift r))
lifted_is_above = lifting_is_below

module _ {L : Type 0} (w : Frames L) (r : Rules L) (bounds : BoundsOpeners w) where
  opens_one : (i : List ℕ) (t : Table) (p : Place) (d a b : ℕ) (m : Mark) → 0 < length i → (relations w r).opens i t p d a b m
      → suc (w.openers (drop b i)) ≤ w.openers (drop a i)
  opens_one i t p d a b m some (inl (f, is, opens)) = bounds.opening_adds f i a b m opens
  opens_one i t p d a b m some (inr h) = absurd (bounds.over_is_empty i a b h.1 some)

  drops_take_none : (i : List ℕ) (k : Kind) (f : Form) (count d b : ℕ) (m : Mark) (c : ℕ) (n : Mark) → DropsAll w r k f count i d b m c n
      → w.openers (drop c i) ≤ w.openers (drop b i)
  drops_take_none i k f zero d b m c n h = rw h.0 (omega arith)
  drops_take_none i k f (suc count) d b m c n (g, j, one, more) =
      omega (arith, bounds.entry_takes_none f i b m one.key one.at j one.entry, takes_none w bounds i d one.child one.at g one.lies, drops_take_none i k f count d g j c n more)

  closes_one : (i : List ℕ) (t : Table) (p : Place) (d b : ℕ) (m : Mark) (e : ℕ) → (relations w r).closes i t p d b m e
      → w.openers (drop e i) ≤ suc (w.openers (drop b i))
  closes_one i t p d b m e (inl (f, is, ends, follows)) =
      omega (arith, drops_take_none i (kind_of t p) f ends.0 d b m ends.1 ends.2 ends.3, bounds.end_takes_one f i ends.1 ends.2 e ends.4)
  closes_one i t p d b m e (inr h) = omega (arith, bounds.over_takes_none i b e h.1)

  step_takes : (i : List ℕ) (k : Kind) (f : Form) (d b : ℕ) (m : Mark) (key : Option (List ℕ)) (c : ℕ) (n : Mark) → StepsIn w r k f i d b m key c n
      → w.openers (drop c i) ≤ w.openers (drop b i)
  step_takes i k f d b m key c n step =
      omega (arith, drops_take_none i k f step.count d b m step.at step.mark step.drops, bounds.entry_takes_none f i step.at step.mark step.key c n step.entry)

  -- under the settings of bodies that are read whole
  pub counts_openers : CountsOpeners (relations w r)
  counts_openers = record {
    opening_adds = opens_one;
    close_takes_one = closes_one;
    step_takes_none = λ i t p d b m key c n h. step_takes i (kind_of t p) h.0 d b m key c n h.2;
    value_takes_none = λ i t p d a v e h. takes_none w bounds i d h.0 a e h.1;
    null_takes_none = bounds.null_takes_none;
    skip_takes_none = λ i d a e h. takes_none w bounds i d h.0 a e h.1;
  }
