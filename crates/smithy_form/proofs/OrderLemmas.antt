-- Leaves that ascend by their paths: what a search for a segment needs of them, and what holds of those that it finds.
use Rattle.std.proofs.Common.{◌≡◌, ◌≢◌, ◌≤◌, ◌<◌, ◌+◌, ◌^◌, ℕ, suc, List, [], ◌∷◌, ◌++◌, length, drop, map as mapped, Bool, true, false, nat_lt, refl, sym, ◌∙◌, ap, subst, slice_index_or, ◌⊎◌, inl, inr, arith}
use Rattle.std.specs.Prelude.{bytes_eq}
use Rattle.std.specs.declared.cmp.Ordering.{Ordering}
use Rattle.std.specs.declared.cmp.Ordering.TheVariants.{Less, Equal, Greater}
use Rattle.std.specs.Cmp.{IsTotalOrder}
use Rattle.std.specs.List.{AllByRecursion, slice_split}
use Rattle.std.specs.List.Sorted.{IsPartitionedBy}
use Rattle.std.specs.Ordering.{ordering_then, is_lt, is_le}
use Rattle.std.proofs.lemmas.Bool.{cases_order}
use Rattle.std.proofs.lemmas.Bool.Decides.{nat_tests}
use Rattle.std.proofs.lemmas.Cmp.{on_total, then_total, nat_cmp_total, nat_list_cmp_total, lists_total, tied_itself, alike_right}
use Rattle.std.proofs.lemmas.List.{length-drop, length-append}
use Rattle.std.proofs.lemmas.Slice.Eq.{bytes_eq-Decides}
use Rattle.smithy_query_codec.specs.Leaves.{Path, Leaf, leaf}
use Rattle.smithy_query_codec.proofs.DistinctLemmas.{Differ}
use Rattle.smithy_query_codec.proofs.PairLemmas.{Pairwise, each_weaker, pairwise_all}
use Rattle.smithy_query_codec.proofs.PathTexts.{is_point}
use Rattle.smithy_form.specs.declared.pairs.Pair.{Pair}
use Rattle.smithy_form.specs.Lookup.{inside, AreSame}
use Rattle.smithy_form.specs.Pairs.{NamedText}
use Rattle.smithy_form.specs.Private.Names.{segment_cmp, rest_path, first_cmp}
use Rattle.smithy_form.specs.Private.Kept.{named_text, kept_leaves, is_before, is_not_behind, AreSortedAt}
use Rattle.smithy_form.specs.Private.Order.{path_cmp, IsBefore, LeavesAscend}
use Rattle.smithy_form.proofs.FindLemmas.{equal_segments}
use Rattle.smithy_form.proofs.OnlyLeaves.{only_one}
use Rattle.smithy_form.proofs.Segments.{first_cut}

-- ---- the order

pub segment_total : IsTotalOrder segment_cmp
segment_total = then_total (on_total length nat_cmp_total) nat_list_cmp_total

pub path_total : IsTotalOrder path_cmp
path_total = lists_total segment_total

-- ---- sorted pairs, by one segment

module _ {X : Type 0} where
  each_of_map : {Y : Type 0} (P : Y → Type 0) (f : X → Y) (xs : List X) → AllByRecursion P (mapped f xs) → AllByRecursion (λ x. P (f x)) xs
  each_of_map P f [] h = tt
  each_of_map P f (x ∷ xs) h = (h.0, each_of_map P f xs h.1)

  pub pairwise_of_map : {Y : Type 0} (R : Y → Y → Type 0) (f : X → Y) (xs : List X) → Pairwise R (mapped f xs) → Pairwise (λ x y. R (f x) (f y)) xs
  pairwise_of_map R f [] h = tt
  pairwise_of_map R f (x ∷ xs) h = (each_of_map (R (f x)) f xs h.0, pairwise_of_map R f xs h.1)

  -- a test that goes back along a relation
  partitioned : (R : X → X → Type 0) (p : X → Bool) → ((x y : X) → R x y → p y ≡ true → p x ≡ true) → (xs : List X) → Pairwise R xs → IsPartitionedBy p xs
  partitioned R p back xs ascend i j d upto within passes = by (cases_order i j)
    where
      by : (i ≡ j) ⊎ ((i < j) ⊎ (j < i)) → p (slice_index_or xs i d) ≡ true
      by (inl same) = ap (λ k. p (slice_index_or xs k d)) same ∙ passes
      by (inr (inl less)) = back (slice_index_or xs i d) (slice_index_or xs j d) (pairwise_all R xs ascend i j d less within) passes
      by (inr (inr more)) = absurd (omega (arith, upto, more))

-- the first segments of two paths in turn
first_upto : (t u : List ℕ) (o : Ordering) → ordering_then (segment_cmp t u) o ≡ Less → (segment_cmp t u ≡ Less) ⊎ (segment_cmp t u ≡ Equal)
first_upto t u o h = by (segment_cmp t u) refl
  where
    by : (r : Ordering) → segment_cmp t u ≡ r → (segment_cmp t u ≡ Less) ⊎ (segment_cmp t u ≡ Equal)
    by Less is = inl is
    by Equal is = inr is
    by Greater is = absurd (let no : Greater ≡ Less = sym (ap (λ r. ordering_then r o) is) ∙ h in cc)

less_by : (o : Ordering) → is_lt o ≡ true → o ≡ Less
less_by Less h = refl
less_by Equal h = cc
less_by Greater h = cc

before_goes_back : (s : List ℕ) (p q : Path) → path_cmp p q ≡ Less → is_lt (first_cmp q s) ≡ true → is_lt (first_cmp p s) ≡ true
before_goes_back s [] q less h = refl
before_goes_back s (t ∷ p) [] less h = absurd (let no : Greater ≡ Less = less in cc)
before_goes_back s (t ∷ p) (u ∷ q) less h = by (first_upto t u (path_cmp p q) less)
  where
    by : (segment_cmp t u ≡ Less) ⊎ (segment_cmp t u ≡ Equal) → is_lt (segment_cmp t s) ≡ true
    by (inl below) = ap is_lt (segment_total.trans t u s below (less_by (segment_cmp u s) h))
    by (inr tie) = ap is_lt (segment_total.congr t u s tie) ∙ h

not_behind_goes_back : (s : List ℕ) (p q : Path) → path_cmp p q ≡ Less → is_le (first_cmp q s) ≡ true → is_le (first_cmp p s) ≡ true
not_behind_goes_back s [] q less h = refl
not_behind_goes_back s (t ∷ p) [] less h = absurd (let no : Greater ≡ Less = less in cc)
not_behind_goes_back s (t ∷ p) (u ∷ q) less h = by (first_upto t u (path_cmp p q) less)
  where
    below_by : segment_cmp t u ≡ Less → (o : Ordering) → segment_cmp u s ≡ o → is_le o ≡ true → is_le (segment_cmp t s) ≡ true
    below_by below Less is h = ap is_le (segment_total.trans t u s below is)
    below_by below Equal is h = ap is_le (sym (alike_right segment_total u s t is) ∙ below)
    below_by below Greater is h = absurd (let no : false ≡ true = h in cc)

    by : (segment_cmp t u ≡ Less) ⊎ (segment_cmp t u ≡ Equal) → is_le (segment_cmp t s) ≡ true
    by (inl below) = below_by below (segment_cmp u s) refl h
    by (inr tie) = ap is_le (segment_total.congr t u s tie) ∙ h

-- what ascends is sorted for a search for any segment
pub sorted_at : (at : ℕ) (s : List ℕ) (pairs : List Pair) → LeavesAscend (kept_leaves at pairs) → AreSortedAt at s pairs
sorted_at at s pairs ascend = record {
  before = partitioned Before (is_before at s) (λ p q less h. before_goes_back s (path_of p) (path_of q) less h) pairs rows;
  not_behind = partitioned Before (is_not_behind at s) (λ p q less h. not_behind_goes_back s (path_of p) (path_of q) less h) pairs rows;
}
  where
    path_of : Pair → Path
    path_of p = rest_path at (named_text p).0

    Before : Pair → Pair → Type 0
    Before p q = path_cmp (path_of p) (path_of q) ≡ Less

    rows : Pairwise Before pairs
    rows =
        pairwise_of_map {X = Pair} (λ (p q : NamedText). path_cmp (rest_path at p.0) (rest_path at q.0) ≡ Less) named_text pairs
        (pairwise_of_map {X = NamedText} IsBefore (λ (p : NamedText). record { path = rest_path at p.0; text = p.1 }) (mapped named_text pairs) ascend)

-- ---- the leaves inside of a segment

inside_before : (s : List ℕ) (p : Path) (xs : List Leaf) → AllByRecursion (λ (m : Leaf). path_cmp (s ∷ p) m.path ≡ Less) xs → AllByRecursion (λ (m : Leaf). path_cmp p m.path ≡ Less) (inside s xs)
inside_before s p [] h = tt
inside_before s p (x ∷ xs) h = by x.path refl (inside_before s p xs h.1)
  where
    by : (q : Path) → x.path ≡ q → AllByRecursion (λ (m : Leaf). path_cmp p m.path ≡ Less) (inside s xs) → AllByRecursion (λ (m : Leaf). path_cmp p m.path ≡ Less) (inside s (record { path = q; text = x.text } ∷ xs))
    by [] is again = again
    by (u ∷ q) is again = either (bytes_eq s u) refl
      where
        either : (b : Bool) → bytes_eq s u ≡ b → AllByRecursion (λ (m : Leaf). path_cmp p m.path ≡ Less) (inside s (record { path = u ∷ q; text = x.text } ∷ xs))
        either true same =
            let at = (bytes_eq-Decides s u).0 same in
            let whole : path_cmp (s ∷ p) (u ∷ q) ≡ Less = ap (path_cmp (s ∷ p)) (sym is) ∙ h.0 in
            let first : segment_cmp s u ≡ Equal = ap (segment_cmp s) (sym at) ∙ equal_segments s in
            rw same (sym (ap (λ o. ordering_then o (path_cmp p q)) first) ∙ whole, again)
        either false same = rw same again

pub inside_ascends : (s : List ℕ) (ls : List Leaf) → LeavesAscend ls → LeavesAscend (inside s ls)
inside_ascends s [] h = tt
inside_ascends s (l ∷ ls) h = by l.path refl (inside_ascends s ls h.1)
  where
    by : (p : Path) → l.path ≡ p → LeavesAscend (inside s ls) → LeavesAscend (inside s (record { path = p; text = l.text } ∷ ls))
    by [] is again = again
    by (u ∷ p) is again = either (bytes_eq s u) refl
      where
        either : (b : Bool) → bytes_eq s u ≡ b → LeavesAscend (inside s (record { path = u ∷ p; text = l.text } ∷ ls))
        either true same =
            let at = (bytes_eq-Decides s u).0 same in
            rw same (inside_before s p ls (subst (λ (q : Path). AllByRecursion (λ (m : Leaf). path_cmp q m.path ≡ Less) ls) (is ∙ ap (λ x. x ∷ p) (sym at)) h.0), again)
        either false same = rw same again

-- ---- no two have one path

pub ascend_differ : (ls : List Leaf) → LeavesAscend ls → Pairwise Differ ls
ascend_differ [] h = tt
ascend_differ (l ∷ ls) h =
    (each_weaker (IsBefore l) (Differ l) (λ m less same. let tie : Less ≡ Equal = sym less ∙ ap (path_cmp l.path) (sym same) ∙ tied_itself path_total l.path in cc) ls h.0, ascend_differ ls h.1)

-- ---- what a search finds

-- it ascends from the next place on
pub found_ascend : (at : ℕ) (s : List ℕ) (pairs found : List Pair) → LeavesAscend (kept_leaves at pairs)
    → kept_leaves (at + suc (length s)) found ≡ inside s (kept_leaves at pairs) → LeavesAscend (kept_leaves (at + suc (length s)) found)
found_ascend at s pairs found ascend is = subst LeavesAscend (sym is) (inside_ascends s (kept_leaves at pairs) ascend)

-- a name that has the segment at the place is as long
begins_within : (at : ℕ) (name s : List ℕ) (more : Path) → rest_path at name ≡ s ∷ more → at + length s ≤ length name
begins_within at name s more is = by (nat_lt (length name) at) refl is
  where
    by : (b : Bool) → nat_lt (length name) at ≡ b → rest_path at name ≡ s ∷ more → at + length s ≤ length name
    by true lt h = absurd (let e : [] ≡ s ∷ more = sym (rw lt refl) ∙ h in cc)
    by false lt h =
        let within : at ≤ length name = grind (arith, nat_tests) in
        let cut = first_cut (drop at name) in
        let split : slice_split is_point (drop at name) ≡ s ∷ more = sym (rw lt refl) ∙ h in
        let both : cut.0 ∷ cut.1 ≡ s ∷ more = sym cut.2.is ∙ split in
        let first : cut.0 ≡ s = cc in
        either within cut.0 cut.1 first cut.2.rest
      where
        either : at ≤ length name → (t : List ℕ) (path : Path) → t ≡ s
            → ((drop at name ≡ t) × (path ≡ [])) ⊎ ((ys : List ℕ) × (drop at name ≡ t ++ 46 ∷ ys) × (path ≡ slice_split is_point ys)) → at + length s ≤ length name
        either within t path same (inl whole) =
            let long = ap length whole.0 in
            let size = length-drop at name in
            let same_length = ap length same in
            omega (arith, within, long, size, same_length)
        either within t path same (inr part) =
            let long = ap length part.1 in
            let size = length-drop at name in
            let same_length = ap length same in
            let joined = length-append t (46 ∷ part.0) in
            omega (arith, within, long, size, same_length, joined)

has_name : (at : ℕ) (s : List ℕ) (pairs : List Pair) → inside s (kept_leaves at pairs) ≢ [] → at + length s < 2 ^ 63
has_name at s [] some = absurd (some refl)
has_name at s (p ∷ pairs) some = by (rest_path at (named_text p).0) refl (λ h. has_name at s pairs h)
  where
    by : (path : Path) → rest_path at (named_text p).0 ≡ path → (inside s (kept_leaves at pairs) ≢ [] → at + length s < 2 ^ 63) → at + length s < 2 ^ 63
    by [] is again = again (λ none. some (rw (is, none) refl))
    by (t ∷ path) is again = either (bytes_eq s t) refl
      where
        either : (b : Bool) → bytes_eq s t ≡ b → at + length s < 2 ^ 63
        either true same =
            let first = (bytes_eq-Decides s t).0 same in
            let long = begins_within at (named_text p).0 s path (is ∙ ap (λ x. x ∷ path) (sym first)) in
            omega (arith, long, p.short)
        either false same = again (λ none. some (rw (is, same, none) refl))

-- where it is something, the place behind the segment is one of a name
pub has_room : (at : ℕ) (s : List ℕ) (pairs found : List Pair) → kept_leaves (at + suc (length s)) found ≡ inside s (kept_leaves at pairs) → found ≢ [] → at + length s < 2 ^ 63
has_room at s pairs [] is some = absurd (some refl)
has_room at s pairs (p ∷ found) is some = has_name at s pairs (λ none. let no = is ∙ none in cc)

-- ---- the only pair, whose name ends at the place

pub alone : (pairs : List Pair) (p : Pair) → length pairs ≡ 1 → p ≡ slice_index_or pairs 0 p → pairs ≡ p ∷ []
alone [] p one is = absurd (omega (arith, one))
alone (x ∷ []) p one is = ap (λ y. y ∷ []) (sym is)
alone (x ∷ y ∷ pairs) p one is = absurd (omega (arith, one))

-- there are none or several
pub not_one : (at : ℕ) (pairs : List Pair) → LeavesAscend (kept_leaves at pairs) → length pairs ≢ 1 → (t : List ℕ) → AreSame (kept_leaves at pairs) (leaf t ∷ []) → ⊥
not_one at pairs ascend apart t same = apart (sym (long pairs) ∙ ap length (only_one (kept_leaves at pairs) t (ascend_differ (kept_leaves at pairs) ascend) same))
  where
    long : (ps : List Pair) → length (kept_leaves at ps) ≡ length ps
    long [] = refl
    long (p ∷ ps) = ap suc (long ps)

-- its name goes on
pub goes_past : (at : ℕ) (pairs : List Pair) (p : Pair) → pairs ≡ p ∷ [] → at ≤ length (named_text p).0 → LeavesAscend (kept_leaves at pairs)
    → (t : List ℕ) → AreSame (kept_leaves at pairs) (leaf t ∷ []) → ⊥
goes_past at pairs p is long ascend t same =
    let lt : nat_lt (length (named_text p).0) at ≡ false = grind (arith, nat_tests) in
    let cut = first_cut (drop at (named_text p).0) in
    let path : rest_path at (named_text p).0 ≡ cut.0 ∷ cut.1 = rw lt cut.2.is in
    let only : kept_leaves at (p ∷ []) ≡ leaf t ∷ [] = ap (kept_leaves at) (sym is) ∙ only_one (kept_leaves at pairs) t (ascend_differ (kept_leaves at pairs) ascend) same in
    let none : rest_path at (named_text p).0 ≡ [] = heads only in
    let no : cut.0 ∷ cut.1 ≡ [] = sym path ∙ none in
    cc
  where
    heads : {l m : Leaf} → l ∷ [] ≡ m ∷ [] → l.path ≡ m.path
    heads h = cc
