-- What the two searches among sorted pairs find.
use Rattle.std.proofs.Common.{◌≡◌, ◌≢◌, ◌<◌, ◌≤◌, ◌+◌, ◌==◌, ℕ, zero, suc, List, [], ◌∷◌, ◌++◌, length, take, drop, map as mapped, Bool, true, false, nat_lt, slice_index_or, refl, sym, ◌∙◌, ap, subst, arith}
use Rattle.std.specs.Cow.{cow_str_bytes}
use Rattle.std.specs.declared.cmp.Ordering.{Ordering}
use Rattle.std.specs.declared.cmp.Ordering.TheVariants.{Less, Equal, Greater}
use Rattle.std.specs.Ordering.{nat_cmp, ordering_then, is_eq, is_lt, is_le}
use Rattle.std.specs.Cmp.Lexicographic.{slice_cmp}
use Rattle.std.specs.List.{AllByRecursion, AllWithin, slice_split, position_or_len}
use Rattle.std.specs.List.Sorted.{IsPartitionedBy, IsPartitionPoint}
use Rattle.std.proofs.lemmas.Bool.Decides.{nat_tests}
use Rattle.std.proofs.lemmas.List.{take-append-drop, append-nil}
use Rattle.std.proofs.lemmas.Map.Text.{is_eq-slice_cmp}
use Rattle.smithy_query_codec.specs.Leaves.{Path}
use Rattle.smithy_query_codec.proofs.PathTexts.{is_point}
use Rattle.smithy_query_codec.proofs.PairLemmas.{each_map, each_weaker}
use Rattle.smithy_form.specs.Lookup.{inside}
use Rattle.smithy_form.specs.Pairs.{NamedText}
use Rattle.smithy_form.specs.declared.pairs.Pair.{Pair}
use Rattle.smithy_form.specs.Private.Names.{segment_cmp, rest_path, first_cmp}
use Rattle.smithy_form.specs.Private.Kept.{named_text, kept_leaves, is_before, is_not_behind}
use Rattle.smithy_form.proofs.LookupLemmas.{same_text, inside-append}
use Rattle.smithy_form.proofs.Segments.{same_segment, none_with, all_with, goes_on}

-- ---- the first segment

pub first_is : (xs : List ℕ) → (more : Path) × (slice_split is_point xs ≡ take (position_or_len is_point xs) xs ∷ more)
first_is [] = ([], refl)
first_is (x ∷ xs) = by (x == 46) refl (first_is xs)
  where
    by : (b : Bool) → (x == 46) ≡ b → (more : Path) × (slice_split is_point xs ≡ take (position_or_len is_point xs) xs ∷ more)
        → (more : Path) × (slice_split is_point (x ∷ xs) ≡ take (position_or_len is_point (x ∷ xs)) (x ∷ xs) ∷ more)
    by true at again = (slice_split is_point xs, rw at refl)
    by false at again =
        let one : 1 + position_or_len is_point xs ≡ suc (position_or_len is_point xs) = omega arith in
        (again.0, rw (at, again.1) (ap (λ n. take n (x ∷ xs) ∷ again.0) (sym one)))

-- the order of a path by the segment that the code cuts out
pub compared : (at : ℕ) (name s : List ℕ) → at ≤ length name → segment_cmp (take (position_or_len is_point (drop at name)) (drop at name)) s ≡ first_cmp (rest_path at name) s
compared at name s within =
    let lt : nat_lt (length name) at ≡ false = grind (arith, nat_tests) in
    let first = first_is (drop at name) in
    rw (lt, first.1) refl

pub ended : (at : ℕ) (name s : List ℕ) → length name < at → Less ≡ first_cmp (rest_path at name) s
ended at name s short = let lt : nat_lt (length name) at ≡ true = grind (arith, nat_tests) in rw lt refl

-- ---- equal segments

equal_by : (o : Ordering) → is_eq o ≡ true → o ≡ Equal
equal_by Equal h = refl
equal_by Less h = cc
equal_by Greater h = cc

equal_texts : (s : List ℕ) → slice_cmp nat_cmp s s ≡ Equal
equal_texts s = equal_by (slice_cmp nat_cmp s s) (is_eq-slice_cmp s s ∙ same_text s)

equal_numbers : (n : ℕ) → nat_cmp n n ≡ Equal
equal_numbers n = by (nat_cmp n n) (equal_texts (n ∷ []))
  where
    by : (o : Ordering) → ordering_then o Equal ≡ Equal → o ≡ Equal
    by Equal h = refl
    by Less h = cc
    by Greater h = cc

pub equal_segments : (s : List ℕ) → segment_cmp s s ≡ Equal
equal_segments s = rw (equal_numbers (length s)) (equal_texts s)

-- ---- elements of a list

front : {X : Type 0} (P : X → Type 0) (xs : List X) (n : ℕ) → n ≤ length xs → AllWithin P xs 0 n → AllByRecursion P (take n xs)
front P xs zero within h = tt
front P [] (suc n) within h = absurd (omega (arith, within))
front P (x ∷ xs) (suc n) within h = (h 0 x (omega arith) (omega arith), front P xs n (omega (arith, within)) (λ k d low high. h (suc k) d (omega arith) (omega (arith, high))))

all_of : {X : Type 0} (P : X → Type 0) (xs : List X) → AllWithin P xs 0 (length xs) → AllByRecursion P xs
all_of P [] h = tt
all_of P (x ∷ xs) h = (h 0 x (omega arith) (omega arith), all_of P xs (λ k d low high. h (suc k) d (omega arith) (omega (arith, high))))

back : {X : Type 0} (P : X → Type 0) (xs : List X) (n : ℕ) → AllWithin P xs n (length xs) → AllByRecursion P (drop n xs)
back P xs zero h = all_of P xs h
back P [] (suc n) h = tt
back P (x ∷ xs) (suc n) h = back P xs n (λ k d low high. h (suc k) d (omega (arith, low)) (omega (arith, high)))

front_of : {X : Type 0} (P : X → Type 0) (xs : List X) (n : ℕ) → AllByRecursion P xs → AllByRecursion P (take n xs)
front_of P xs zero h = tt
front_of P [] (suc n) h = tt
front_of P (x ∷ xs) (suc n) h = (h.0, front_of P xs n h.1)

both_of : {X : Type 0} (P Q : X → Type 0) (xs : List X) → AllByRecursion P xs → AllByRecursion Q xs → AllByRecursion (λ x. P x × Q x) xs
both_of P Q [] h k = tt
both_of P Q (x ∷ xs) h k = ((h.0, k.0), both_of P Q xs h.1 k.1)

index_drop : {X : Type 0} (xs : List X) (n k : ℕ) (d : X) → slice_index_or (drop n xs) k d ≡ slice_index_or xs (n + k) d
index_drop xs zero k d = let same : 0 + k ≡ k = omega arith in ap (λ i. slice_index_or xs i d) (sym same)
index_drop [] (suc n) k d = refl
index_drop (x ∷ xs) (suc n) k d = let same : suc n + k ≡ suc (n + k) = omega arith in index_drop xs n k d ∙ ap (λ i. slice_index_or (x ∷ xs) i d) (sym same)

length_behind : {X : Type 0} (xs : List X) (n j : ℕ) → j < length (drop n xs) → n + j < length xs
length_behind xs zero j h = omega (arith, h)
length_behind [] (suc n) j h = absurd (omega (arith, h))
length_behind (x ∷ xs) (suc n) j h = let more = length_behind xs n j h in omega (arith, more)

-- what is sorted is sorted behind a place
pub partitioned_behind : {X : Type 0} (p : X → Bool) (xs : List X) (n : ℕ) → IsPartitionedBy p xs → IsPartitionedBy p (drop n xs)
partitioned_behind p xs n h i j d order within passes =
    ap p (index_drop xs n i d) ∙ h (n + i) (n + j) d (omega (arith, order)) (length_behind xs n j within) (ap p (sym (index_drop xs n j d)) ∙ passes)

-- ---- the pairs that are found

kept-append : (at : ℕ) (xs ys : List Pair) → kept_leaves at (xs ++ ys) ≡ kept_leaves at xs ++ kept_leaves at ys
kept-append at [] ys = refl
kept-append at (x ∷ xs) ys = ap (λ r. record { path = rest_path at (cow_str_bytes x.name); text = cow_str_bytes x.text } ∷ r) (kept-append at xs ys)

module _ (at : ℕ) (s : List ℕ) where
  -- neither before nor behind: the segment
  middle : (p : Pair) → (is_before at s p ≡ false) × (is_not_behind at s p ≡ true) → rest_path at (cow_str_bytes p.name) ≡ s ∷ rest_path (at + suc (length s)) (cow_str_bytes p.name)
  middle p h = by (rest_path at (cow_str_bytes p.name)) refl h
    where
      equal : (o : Ordering) → (is_lt o ≡ false) × (is_le o ≡ true) → o ≡ Equal
      equal Equal h = refl
      equal Less h = cc
      equal Greater h = cc

      by : (path : Path) → rest_path at (cow_str_bytes p.name) ≡ path → (is_lt (first_cmp path s) ≡ false) × (is_le (first_cmp path s) ≡ true)
          → path ≡ s ∷ rest_path (at + suc (length s)) (cow_str_bytes p.name)
      by [] is h = absurd (let e : true ≡ false = h.0 in cc)
      by (t ∷ path) is h =
          let same = same_segment t s (equal (segment_cmp t s) h) in
          let here : rest_path at (cow_str_bytes p.name) ≡ s ∷ path = is ∙ ap (λ x. x ∷ path) same in
          ap (λ x. x ∷ path) same ∙ ap (λ r. s ∷ r) (goes_on at (cow_str_bytes p.name) s path here)

  not_it : (p : Pair) → (is_lt (first_cmp (rest_path at (cow_str_bytes p.name)) s) ≡ true) → (more : Path) → rest_path at (cow_str_bytes p.name) ≢ s ∷ more
  not_it p h more is =
      let here : first_cmp (rest_path at (cow_str_bytes p.name)) s ≡ Equal = ap (λ q. first_cmp q s) is ∙ equal_segments s in
      let no : false ≡ true = sym (ap is_lt here) ∙ h in cc

  not_it_either : (p : Pair) → (is_le (first_cmp (rest_path at (cow_str_bytes p.name)) s) ≡ false) → (more : Path) → rest_path at (cow_str_bytes p.name) ≢ s ∷ more
  not_it_either p h more is =
      let here : first_cmp (rest_path at (cow_str_bytes p.name)) s ≡ Equal = ap (λ q. first_cmp q s) is ∙ equal_segments s in
      let no : true ≡ false = sym (ap is_le here) ∙ h in cc

  pub found : (pairs : List Pair) (from count : ℕ) → from ≤ length pairs → count ≤ length (drop from pairs)
      → IsPartitionPoint (λ p. is_before at s p ≡ true) (λ p. is_before at s p ≡ false) pairs from
      → IsPartitionPoint (λ p. is_not_behind at s p ≡ true) (λ p. is_not_behind at s p ≡ false) (drop from pairs) count
      → kept_leaves (at + suc (length s)) (take count (drop from pairs)) ≡ inside s (kept_leaves at pairs)
  found pairs from count within_from within_count first second =
      let rest = drop from pairs in
      let next = at + suc (length s) in
      let none_front : inside s (kept_leaves at (take from pairs)) ≡ [] =
      none_with at s (mapped named_text (take from pairs))
      (each_map (λ (q : NamedText). (more : Path) → rest_path at q.0 ≢ s ∷ more) named_text (take from pairs)
      (each_weaker (λ p. is_before at s p ≡ true) (λ (p : Pair). (more : Path) → rest_path at (cow_str_bytes p.name) ≢ s ∷ more) (λ p h. not_it p h) (take from pairs)
      (front (λ p. is_before at s p ≡ true) pairs from within_from first.0))) in
      let none_back : inside s (kept_leaves at (drop count rest)) ≡ [] =
      none_with at s (mapped named_text (drop count rest))
      (each_map (λ (q : NamedText). (more : Path) → rest_path at q.0 ≢ s ∷ more) named_text (drop count rest)
      (each_weaker (λ p. is_not_behind at s p ≡ false) (λ (p : Pair). (more : Path) → rest_path at (cow_str_bytes p.name) ≢ s ∷ more) (λ p h. not_it_either p h) (drop count rest)
      (back (λ p. is_not_behind at s p ≡ false) rest count second.1))) in
      let all_middle : inside s (kept_leaves at (take count rest)) ≡ kept_leaves next (take count rest) =
      all_with at next s (mapped named_text (take count rest))
      (each_map (λ (q : NamedText). rest_path at q.0 ≡ s ∷ rest_path next q.0) named_text (take count rest)
      (each_weaker (λ p. (is_before at s p ≡ false) × (is_not_behind at s p ≡ true)) (λ (p : Pair). rest_path at (cow_str_bytes p.name) ≡ s ∷ rest_path next (cow_str_bytes p.name)) middle (take count rest)
      (both_of (λ p. is_before at s p ≡ false) (λ p. is_not_behind at s p ≡ true) (take count rest)
      (front_of (λ p. is_before at s p ≡ false) rest count (back (λ p. is_before at s p ≡ false) pairs from first.1))
      (front (λ p. is_not_behind at s p ≡ true) rest count within_count second.0)))) in
      let of_rest : inside s (kept_leaves at rest) ≡ kept_leaves next (take count rest) =
      ap (λ xs. inside s (kept_leaves at xs)) (sym (take-append-drop count rest)) ∙ ap (inside s) (kept-append at (take count rest) (drop count rest))
      ∙ inside-append s (kept_leaves at (take count rest)) (kept_leaves at (drop count rest))
      ∙ rw (all_middle, none_back) (append-nil (kept_leaves next (take count rest))) in
      sym (
      ap (λ xs. inside s (kept_leaves at xs)) (sym (take-append-drop from pairs)) ∙ ap (inside s) (kept-append at (take from pairs) rest)
      ∙ inside-append s (kept_leaves at (take from pairs)) (kept_leaves at rest) ∙ rw none_front of_rest
      )

  -- the same, where what is left has a name of its own
  pub found_in : (pairs rest : List Pair) (from count : ℕ) → rest ≡ drop from pairs → from ≤ length pairs → count ≤ length rest
      → IsPartitionPoint (λ p. is_before at s p ≡ true) (λ p. is_before at s p ≡ false) pairs from
      → IsPartitionPoint (λ p. is_not_behind at s p ≡ true) (λ p. is_not_behind at s p ≡ false) rest count
      → kept_leaves (at + suc (length s)) (take count rest) ≡ inside s (kept_leaves at pairs)
  found_in pairs rest from count is within_from within_count first second =
      subst (λ (r : List Pair). count ≤ length r → IsPartitionPoint (λ p. is_not_behind at s p ≡ true) (λ p. is_not_behind at s p ≡ false) r count
      → kept_leaves (at + suc (length s)) (take count r) ≡ inside s (kept_leaves at pairs)) (sym is)
      (λ within last. found pairs from count within_from within first last) within_count second

pub partitioned_rest : {X : Type 0} (p : X → Bool) (xs rest : List X) (n : ℕ) → rest ≡ drop n xs → IsPartitionedBy p xs → IsPartitionedBy p rest
partitioned_rest p xs rest n is h = subst (IsPartitionedBy p) (sym is) (partitioned_behind p xs n h)
