-- Names in their order, compared by their first segments and by what comes behind these.
use Rattle.std.proofs.Common.{◌≡◌, ◌<◌, ◌≤◌, ◌+◌, ◌==◌, ℕ, suc, List, [], ◌∷◌, length, take, drop, slice_index_or, Bool, true, false, nat_lt, refl, sym, ◌∙◌, ap, arith, if◌then◌else◌}
use Rattle.std.specs.declared.cmp.Ordering.{Ordering}
use Rattle.std.specs.declared.cmp.Ordering.TheVariants.{Less, Equal, Greater}
use Rattle.std.specs.List.{slice_split, position_or_len}
use Rattle.std.specs.Ordering.{nat_cmp, ordering_then, is_ne, bool_cmp}
use Rattle.std.proofs.lemmas.Bool.Decides.{nat_tests}
use Rattle.std.proofs.lemmas.Cmp.{nat_cmp_total, tied_itself}
use Rattle.std.proofs.lemmas.List.{drop_more}
use Rattle.smithy_query_codec.specs.Leaves.{Path}
use Rattle.smithy_query_codec.proofs.PathTexts.{is_point}
use Rattle.smithy_form.specs.Private.Names.{segment_cmp}
use Rattle.smithy_form.specs.Private.Order.{path_cmp, name_cmp}

-- the segments behind the first, which ends there
abbrev rest_behind : ℕ → List ℕ → Path
rest_behind end xs = if nat_lt end (length xs) then slice_split is_point (drop (end + 1) xs) else []

cut_at : (xs : List ℕ) → slice_split is_point xs ≡ take (position_or_len is_point xs) xs ∷ rest_behind (position_or_len is_point xs) xs
cut_at [] = refl
cut_at (x ∷ xs) = by (x == 46) refl (cut_at xs)
  where
    by : (b : Bool) → (x == 46) ≡ b → slice_split is_point xs ≡ take (position_or_len is_point xs) xs ∷ rest_behind (position_or_len is_point xs) xs
        → slice_split is_point (x ∷ xs) ≡ take (position_or_len is_point (x ∷ xs)) (x ∷ xs) ∷ rest_behind (position_or_len is_point (x ∷ xs)) (x ∷ xs)
    by true at again =
        let some : nat_lt 0 (suc (length xs)) ≡ true = grind (arith, nat_tests) in
        rw (at, some) refl
    by false at again =
        let end = position_or_len is_point xs in
        let one : 1 + end ≡ suc end = omega arith in
        let same : nat_lt (suc end) (suc (length xs)) ≡ nat_lt end (length xs) = grind (arith, nat_tests) in
        let next : suc end + 1 ≡ suc (end + 1) = omega arith in
        let rest : rest_behind (suc end) (x ∷ xs) ≡ rest_behind end xs = rw (same, next) refl in
        rw (at, again) (ap (λ r. (x ∷ take end xs) ∷ r) (sym rest) ∙ ap (λ n. take n (x ∷ xs) ∷ rest_behind n (x ∷ xs)) (sym one))

module _ (a b : List ℕ) where
  abbrev pub end_a : ℕ
  end_a = position_or_len is_point a

  abbrev pub end_b : ℕ
  end_b = position_or_len is_point b

  by_parts : name_cmp a b ≡ ordering_then (segment_cmp (take end_a a) (take end_b b)) (path_cmp (rest_behind end_a a) (rest_behind end_b b))
  by_parts = rw (cut_at a, cut_at b) refl

  first_tells : (n m : ℕ) (o : Ordering) → n ≡ end_a → m ≡ end_b → o ≡ segment_cmp (take n a) (take m b)
      → name_cmp a b ≡ ordering_then o (path_cmp (rest_behind n a) (rest_behind m b))
  first_tells n m o at_n at_m is = rw (is, at_n, at_m) by_parts

  -- the first segments differ
  pub first_differ : (n m : ℕ) (o : Ordering) → n ≡ end_a → m ≡ end_b → o ≡ segment_cmp (take n a) (take m b) → is_ne o ≡ true → o ≡ name_cmp a b
  first_differ n m o at_n at_m is apart = sym (first_tells n m o at_n at_m is ∙ by o apart (path_cmp (rest_behind n a) (rest_behind m b)))
    where
      by : (o : Ordering) → is_ne o ≡ true → (r : Ordering) → ordering_then o r ≡ o
      by Less h r = refl
      by Equal h r = cc
      by Greater h r = refl

  same_first : (n m : ℕ) (o : Ordering) → n ≡ end_a → m ≡ end_b → o ≡ segment_cmp (take n a) (take m b) → is_ne o ≡ false → name_cmp a b ≡ path_cmp (rest_behind n a) (rest_behind m b)
  same_first n m o at_n at_m is same = first_tells n m o at_n at_m is ∙ by o same (path_cmp (rest_behind n a) (rest_behind m b))
    where
      by : (o : Ordering) → is_ne o ≡ false → (r : Ordering) → ordering_then o r ≡ r
      by Less h r = cc
      by Equal h r = refl
      by Greater h r = cc

  going_on : (end : ℕ) (xs : List ℕ) → end < length xs → rest_behind end xs ≡ slice_split is_point (drop (end + 1) xs)
  going_on end xs within = let lt : nat_lt end (length xs) ≡ true = grind (arith, nat_tests) in rw lt refl

  -- both go on
  pub both_go_on : (n m : ℕ) (o : Ordering) → n ≡ end_a → m ≡ end_b → o ≡ segment_cmp (take n a) (take m b) → is_ne o ≡ false → n < length a → m < length b
      → name_cmp (drop (n + 1) a) (drop (m + 1) b) ≡ name_cmp a b
  both_go_on n m o at_n at_m is same within_a within_b =
      sym (same_first n m o at_n at_m is same ∙ rw (going_on n a within_a, going_on m b within_b) refl)

  ended : (end : ℕ) (xs : List ℕ) → length xs ≤ end → rest_behind end xs ≡ []
  ended end xs past = let lt : nat_lt end (length xs) ≡ false = grind (arith, nat_tests) in rw lt refl

  some_path : (xs : List ℕ) → (s : List ℕ) × (more : Path) × (slice_split is_point xs ≡ s ∷ more)
  some_path xs = (take (position_or_len is_point xs) xs, rest_behind (position_or_len is_point xs) xs, cut_at xs)

  -- the first ends
  pub first_ends : (n m : ℕ) (o : Ordering) → n ≡ end_a → m ≡ end_b → o ≡ segment_cmp (take n a) (take m b) → is_ne o ≡ false → length a ≤ n
      → bool_cmp false (nat_lt m (length b)) ≡ name_cmp a b
  first_ends n m o at_n at_m is same past = sym (same_first n m o at_n at_m is same ∙ rw (ended n a past) (by (nat_lt m (length b))))
    where
      by : (q : Bool) → path_cmp [] (if q then slice_split is_point (drop (m + 1) b) else []) ≡ bool_cmp false q
      by true = rw (some_path (drop (m + 1) b)).2 refl
      by false = refl

  -- the second ends, and the first doesn't
  pub second_ends : (n m : ℕ) (o : Ordering) → n ≡ end_a → m ≡ end_b → o ≡ segment_cmp (take n a) (take m b) → is_ne o ≡ false → n < length a → length b ≤ m
      → Greater ≡ name_cmp a b
  second_ends n m o at_n at_m is same within past =
      sym (same_first n m o at_n at_m is same ∙ rw (going_on n a within, ended m b past, (some_path (drop (n + 1) a)).2) refl)

-- ---- names with one byte in common

next_numbers : (m n : ℕ) → nat_cmp (suc m) (suc n) ≡ nat_cmp m n
next_numbers m n = grind (arith, nat_tests)

longer_both : (x : ℕ) (s t : List ℕ) → segment_cmp (x ∷ s) (x ∷ t) ≡ segment_cmp s t
longer_both x s t = rw (next_numbers (length s) (length t), tied_itself nat_cmp_total x) refl

-- a first byte that both have doesn't count
pub common_first : (x : ℕ) (a b : List ℕ) → name_cmp (x ∷ a) (x ∷ b) ≡ name_cmp a b
common_first x a b = by (x == 46) refl
  where
    by : (p : Bool) → (x == 46) ≡ p → name_cmp (x ∷ a) (x ∷ b) ≡ name_cmp a b
    by true at = rw at refl
    by false at =
        rw (at, cut_at a, cut_at b)
        (ap (λ o. ordering_then o (path_cmp (rest_behind (position_or_len is_point a) a) (rest_behind (position_or_len is_point b) b)))
        (longer_both x (take (position_or_len is_point a) a) (take (position_or_len is_point b) b)))

-- so a byte that both have at a place
pub common_next : (at : ℕ) (a b : List ℕ) → at < length a → at < length b → slice_index_or a at 0 ≡ slice_index_or b at 0
    → name_cmp (drop at a) (drop at b) ≡ name_cmp (drop (at + 1) a) (drop (at + 1) b)
common_next at a b within_a within_b same =
    rw (drop_more a at 0 within_a, drop_more b at 0 within_b, same) (common_first (slice_index_or b at 0) (drop (at + 1) a) (drop (at + 1) b))
