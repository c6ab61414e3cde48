-- The laws of the first path: there is none exactly where the values are equal, and it is the same from either side.
use Rattle.std.proofs.Common.{◌≡◌, ◌↔◌, List, [], ◌∷◌, Bool, true, false, cond, Option, Some, None, refl}
use Rattle.std.specs.Option.{option_or}
use Rattle.std.specs.Ordering.{match_ordering, ordering_reverse}
use Rattle.std.specs.Cmp.{both_ways}
use Rattle.std.specs.declared.cmp.Ordering.{Ordering}
use Rattle.std.specs.declared.cmp.Ordering.TheVariants.{Less, Equal, Greater}
use Rattle.smithy_declarations.specs.Value.{Value}
use Rattle.smithy_compare.specs.Tree.{Step, Tree, tree, Parts, no_parts, part, tree_of}
use Rattle.smithy_compare.specs.FirstPath.{step_cmp, same_top, behind, first_in, first_among, first_path}
use Rattle.smithy_compare.proofs.Alike.{step_one, step_turned, top_one, top_itself, top_turned}
use Rattle.smithy_compare.proofs.Back.{one_value_of}

abbrev Path : Type 0
Path = Option (List Step)

-- ---- none where equal

if_none : (c : Bool) (found : Path) → cond c found (Some []) ≡ None → (c ≡ true) × (found ≡ None)
if_none true found h = (refl, h)
if_none false found h = cc

in_step_none : (o : Ordering) (a b : List Step) (found : Path) → match_ordering o (Some a) found (Some b) ≡ None → (o ≡ Equal) × (found ≡ None)
in_step_none Less a b found h = cc
in_step_none Equal a b found h = (refl, h)
in_step_none Greater a b found h = cc

or_none : (s : Step) (found more : Path) → option_or (behind s found) more ≡ None → (found ≡ None) × (more ≡ None)
or_none s None more h = (refl, h)
or_none s (Some path) more h = cc

mutual
  none_is_one : (x y : Tree) → first_in x y ≡ None → x ≡ y
  none_is_one (tree a ps) (tree b qs) h =
      let split = if_none (same_top a b) (first_among ps qs) h in
      let top = top_one a b split.0 in
      let parts = none_are_one ps qs split.1 in
      λ k. tree (top k) (parts k)

  none_are_one : (ps qs : Parts) → first_among ps qs ≡ None → ps ≡ qs
  none_are_one no_parts no_parts h = refl
  none_are_one (part s x ps) no_parts h = cc
  none_are_one no_parts (part t y qs) h = cc
  none_are_one (part s x ps) (part t y qs) h =
      let split = in_step_none (step_cmp s t) (s ∷ []) (t ∷ []) (option_or (behind s (first_in x y)) (first_among ps qs)) h in
      let inner = or_none s (first_in x y) (first_among ps qs) split.1 in
      let step = step_one s t split.0 in
      let first = none_is_one x y inner.0 in
      let rest = none_are_one ps qs inner.1 in
      λ k. part (step k) (first k) (rest k)

equal_itself : (o : Ordering) → o ≡ ordering_reverse o → o ≡ Equal
equal_itself Less h = cc
equal_itself Equal h = refl
equal_itself Greater h = cc

pub step_itself : (s : Step) → step_cmp s s ≡ Equal
step_itself s = equal_itself (step_cmp s s) (step_turned s s)

mutual
  pub one_is_none : (x : Tree) → first_in x x ≡ None
  one_is_none (tree a ps) = rw (top_itself a) (ones_are_none ps)

  ones_are_none : (ps : Parts) → first_among ps ps ≡ None
  ones_are_none no_parts = refl
  ones_are_none (part s x ps) = rw (step_itself s, one_is_none x) (ones_are_none ps)

-- there is no first path exactly where the values are equal
pub none_where_equal : (v w : Value) → (first_path v w ≡ None) ↔ (v ≡ w)
none_where_equal v w = (
  λ none. one_value_of v w (none_is_one (tree_of v) (tree_of w) none),
  λ same. rw (← same) (one_is_none (tree_of v)),
)

-- ---- the same from either side

turned : (o p : Ordering) (a b found other : Path) → o ≡ ordering_reverse p → (o ≡ Equal → found ≡ other) → match_ordering o a found b ≡ match_ordering p b other a
turned Less Less a b found other h inner = cc
turned Less Equal a b found other h inner = cc
turned Less Greater a b found other h inner = refl
turned Equal Less a b found other h inner = cc
turned Equal Equal a b found other h inner = inner refl
turned Equal Greater a b found other h inner = cc
turned Greater Less a b found other h inner = refl
turned Greater Equal a b found other h inner = cc
turned Greater Greater a b found other h inner = cc

mutual
  same_in : (x y : Tree) → first_in x y ≡ first_in y x
  same_in (tree a ps) (tree b qs) =
      let test = both_ways (same_top a b) (same_top b a) (top_turned a b) (top_turned b a) in
      let parts = same_among ps qs in
      λ k. cond (test k) (parts k) (Some [])

  same_among : (ps qs : Parts) → first_among ps qs ≡ first_among qs ps
  same_among no_parts no_parts = refl
  same_among (part s x ps) no_parts = refl
  same_among no_parts (part t y qs) = refl
  same_among (part s x ps) (part t y qs) =
      let first = same_in x y in
      let rest = same_among ps qs in
      turned (step_cmp s t) (step_cmp t s) (Some (s ∷ [])) (Some (t ∷ [])) (option_or (behind s (first_in x y)) (first_among ps qs)) (option_or (behind t (first_in y x)) (first_among qs ps))
      (step_turned s t) (λ equal. let step = step_one s t equal in λ k. option_or (behind (step k) (first k)) (rest k))

-- the first path is the same from either side
pub same_from_both : (v w : Value) → first_path v w ≡ first_path w v
same_from_both v w = same_in (tree_of v) (tree_of w)
