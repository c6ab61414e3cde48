-- What a first path names: what stands there in one value doesn't stand there in the other.
use Rattle.std.proofs.Common.{◌≡◌, ◌≢◌, ◌⊎◌, inl, inr, ⊎_elim, List, [], ◌∷◌, Bool, true, false, cond, Option, Some, None, option_and_then, refl, sym, ◌∙◌, ap, subst}
use Rattle.std.specs.Option.{option_or}
use Rattle.std.specs.Ordering.{match_ordering, ordering_reverse}
use Rattle.std.specs.declared.cmp.Ordering.{Ordering}
use Rattle.std.specs.declared.cmp.Ordering.TheVariants.{Less, Equal, Greater}
use Rattle.smithy_declarations.specs.declared.place.Place.{Place}
use Rattle.smithy_shapes.specs.Fits.{Fits}
use Rattle.smithy_declarations.specs.Table.{Table}
use Rattle.smithy_declarations.specs.Value.{Value}
use Rattle.smithy_compare.specs.Tree.{Step, Tree, tree, Parts, no_parts, part, tree_of}
use Rattle.smithy_compare.specs.FirstPath.{step_cmp, same_top, behind, first_in, first_among, first_path, part_behind, tree_at}
use Rattle.smithy_compare.specs.Compares.{DifferAt}
use Rattle.smithy_compare.proofs.Alike.{step_one, step_turned, step_passed}
use Rattle.smithy_compare.proofs.Laws.{one_is_none, step_itself}
use Rattle.smithy_compare.proofs.Ordered.{IsBefore, IsOrdered, AreOrdered, ordered}

-- what stands at a path among parts
abbrev At : Step → List Step → Parts → Option Tree
At s path ps = option_and_then (tree_at path) (part_behind s ps)

-- ---- a part that is found, or isn't

found : (s : Step) (x : Tree) (ps : Parts) → part_behind s (part s x ps) ≡ Some x
found s x ps = rw (step_itself s) refl

-- the same of a step that is another one's
found_as : (s t : Step) (x : Tree) (ps : Parts) → t ≡ s → part_behind s (part t x ps) ≡ Some x
found_as s t x ps e = subst (λ k. part_behind k (part t x ps) ≡ Some x) e (found t x ps)

lacks_as : (s t : Step) (qs : Parts) → t ≡ s → part_behind t qs ≡ None → part_behind s qs ≡ None
lacks_as s t qs e none = subst (λ k. part_behind k qs ≡ None) e none

passed : (s t : Step) (x : Tree) (ps : Parts) → step_cmp s t ≡ Less → part_behind s (part t x ps) ≡ part_behind s ps
passed s t x ps h = rw h refl

-- a step behind the first one
behind_first : (s t : Step) (x : Tree) (ps : Parts) → step_cmp t s ≡ Less → part_behind s (part t x ps) ≡ part_behind s ps
behind_first s t x ps h = rw (step_turned s t, h) refl

missing : (s : Step) (ps : Parts) → IsBefore s ps → part_behind s ps ≡ None
missing s no_parts h = refl
missing s (part t x ps) h = passed s t x ps h.0 ∙ missing s ps h.1

missing_too : (s t : Step) (ps : Parts) → step_cmp s t ≡ Less → IsBefore t ps → IsBefore s ps
missing_too s t no_parts low h = tt
missing_too s t (part u x ps) low h = (step_passed s t u low h.0, missing_too s t ps low h.1)

-- ---- cases of a first difference

-- a path of one step, by which one alone has a part
one_alone : (s t : Step) (x : Tree) (path : List Step) (has lacks : Option Tree) → Some (t ∷ []) ≡ Some (s ∷ path) → (t ≡ s → has ≡ Some x) → (t ≡ s → lacks ≡ None)
    → option_and_then (tree_at path) has ≢ option_and_then (tree_at path) lacks
one_alone s t x path has lacks named here there same =
    let step : t ≡ s = cc in
    let rest : path ≡ [] = cc in
    let both : Some x ≡ None = rw (here step, there step, rest) at same in
    cc

-- by what two parts of one step have, and by what is left of both
split : (t : Step) (inner rest : Option (List Step)) (s : Step) (path : List Step) → option_or (behind t inner) rest ≡ Some (s ∷ path)
    → ((inner ≡ Some path) × (t ≡ s)) ⊎ ((inner ≡ None) × (rest ≡ Some (s ∷ path)))
split t None rest s path h = inr (refl, h)
split t (Some p) rest s path h = inl (cc, cc)

-- the first difference among parts that all come behind a step does so too
comes_behind_these : (t u r : Step) (x y : Tree) (ps qs : Parts) (s : Step) (path : List Step) (o : Ordering) → step_cmp t u ≡ Less → step_cmp t r ≡ Less
    → (first_among ps qs ≡ Some (s ∷ path) → step_cmp t s ≡ Less)
    → match_ordering o (Some (u ∷ [])) (option_or (behind u (first_in x y)) (first_among ps qs)) (Some (r ∷ [])) ≡ Some (s ∷ path) → step_cmp t s ≡ Less
comes_behind_these t u r x y ps qs s path Less left right more h = let same : u ≡ s = cc in rw (← same) left
comes_behind_these t u r x y ps qs s path Equal left right more h =
    ⊎_elim (λ k. rw (← k.1) left) (λ k. more k.1) (split u (first_in x y) (first_among ps qs) s path h)
comes_behind_these t u r x y ps qs s path Greater left right more h = let same : r ≡ s = cc in rw (← same) right

comes_behind : (t : Step) (ps qs : Parts) (s : Step) (path : List Step) → IsBefore t ps → IsBefore t qs → first_among ps qs ≡ Some (s ∷ path) → step_cmp t s ≡ Less
comes_behind t no_parts no_parts s path left right h = cc
comes_behind t (part u x ps) no_parts s path left right h = let same : u ≡ s = cc in rw (← same) left.0
comes_behind t no_parts (part u y qs) s path left right h = let same : u ≡ s = cc in rw (← same) right.0
comes_behind t (part u x ps) (part r y qs) s path left right h =
    comes_behind_these t u r x y ps qs s path (step_cmp u r) left.0 right.0 (comes_behind t ps qs s path left.1 right.1) h

-- a part of the step that is named
seen : (s t : Step) (x : Tree) (ps : Parts) (path : List Step) → t ≡ s → At s path (part t x ps) ≡ tree_at path x
seen s t x ps path e = ap (option_and_then (tree_at path)) (found_as s t x ps e)

-- a part before the step that is named
unseen : (s t : Step) (x : Tree) (ps : Parts) (path : List Step) → step_cmp t s ≡ Less → At s path (part t x ps) ≡ At s path ps
unseen s t x ps path low = ap (option_and_then (tree_at path)) (behind_first s t x ps low)

-- parts differ at the path to their first difference, where those inside of the first two and those left of both do
parts_differ : (t u : Step) (x y : Tree) (ps qs : Parts) (s : Step) (path : List Step) (o : Ordering) → step_cmp t u ≡ o → IsBefore t ps → IsBefore u qs
    → (first_in x y ≡ Some path → tree_at path x ≢ tree_at path y) → (first_among ps qs ≡ Some (s ∷ path) → At s path ps ≢ At s path qs)
    → match_ordering o (Some (t ∷ [])) (option_or (behind t (first_in x y)) (first_among ps qs)) (Some (u ∷ [])) ≡ Some (s ∷ path)
    → At s path (part t x ps) ≢ At s path (part u y qs)
parts_differ t u x y ps qs s path Less is left right inner rest h =
    one_alone s t x path (part_behind s (part t x ps)) (part_behind s (part u y qs)) h (λ e. found_as s t x ps e)
    (λ e. lacks_as s t (part u y qs) e (passed t u y qs is ∙ missing t qs (missing_too t u qs is right)))
parts_differ t u x y ps qs s path Greater is left right inner rest h =
    let low : step_cmp u t ≡ Less = step_turned u t ∙ ap ordering_reverse is in
    λ same. one_alone s u y path (part_behind s (part u y qs)) (part_behind s (part t x ps)) h (λ e. found_as s u y qs e)
    (λ e. lacks_as s u (part t x ps) e (passed u t x ps low ∙ missing u ps (missing_too u t ps low left))) (sym same)
parts_differ t u x y ps qs s path Equal is left right inner rest h =
    let one = step_one t u is in
    ⊎_elim
    (λ k same. inner k.0 (sym (seen s t x ps path k.1) ∙ same ∙ seen s u y qs path (sym one ∙ k.1)))
    (λ k same.
    let low = comes_behind t ps qs s path left (subst (λ u. IsBefore u qs) (sym one) right) k.1 in
    rest k.1 (sym (unseen s t x ps path low) ∙ same ∙ unseen s u y qs path (subst (λ u. step_cmp u s ≡ Less) one low)))
    (split t (first_in x y) (first_among ps qs) s path h)

inside : (c : Bool) (found : Option (List Step)) (s : Step) (path : List Step) → cond c found (Some []) ≡ Some (s ∷ path) → found ≡ Some (s ∷ path)
inside true found s path h = h
inside false found s path h = cc

mutual
  trees_differ : (x y : Tree) (path : List Step) → IsOrdered x → IsOrdered y → first_in x y ≡ Some path → tree_at path x ≢ tree_at path y
  trees_differ (tree a ps) (tree b qs) [] left right h = λ same.
      let one : tree a ps ≡ tree b qs = cc in
      let none : first_in (tree a ps) (tree b qs) ≡ None = subst (λ z. first_in (tree a ps) z ≡ None) one (one_is_none (tree a ps)) in
      let e : None ≡ Some [] = sym none ∙ h in
      cc
  trees_differ (tree a ps) (tree b qs) (s ∷ path) left right h =
      all_differ ps qs s path left right (inside (same_top a b) (first_among ps qs) s path h)

  all_differ : (ps qs : Parts) (s : Step) (path : List Step) → AreOrdered ps → AreOrdered qs → first_among ps qs ≡ Some (s ∷ path) → At s path ps ≢ At s path qs
  all_differ no_parts no_parts s path left right h = absurd (let e : None ≡ Some (s ∷ path) = h in cc)
  all_differ (part t x ps) no_parts s path left right h =
      one_alone s t x path (part_behind s (part t x ps)) None h (λ e. found_as s t x ps e) (λ e. refl)
  all_differ no_parts (part u y qs) s path left right h = λ same.
      one_alone s u y path (part_behind s (part u y qs)) None h (λ e. found_as s u y qs e) (λ e. refl) (sym same)
  all_differ (part t x ps) (part u y qs) s path left right h =
      parts_differ t u x y ps qs s path (step_cmp t u) refl left.1 right.1 (trees_differ x y path left.0 right.0) (all_differ ps qs s path left.2 right.2) h

-- values of a place differ at their first path
pub differ_at : (t : Table) (p : Place) (v w : Value) (path : List Step) → Fits t p v → Fits t p w → first_path v w ≡ Some path → DifferAt path v w
differ_at t p v w path left right h = trees_differ (tree_of v) (tree_of w) path (ordered t p v left) (ordered t p w right) h
