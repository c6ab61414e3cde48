-- Where the elements of a list begin to fail a test, once one is known that does.
use Rattle.std.proofs.Common.{◌≡◌, ◌<◌, ◌≤◌, ◌+◌, ◌-◌, ℕ, zero, List, length, slice_index_or, Bool, true, false, IsTrue, refl, sym, ◌∙◌, ap, subst, ◌⊎◌, inl, inr, arith}
use Rattle.std.specs.List.{AllWithin}
use Rattle.std.specs.List.Sorted.{IsPartitionedBy, IsPartitionPoint}
use Rattle.std.proofs.lemmas.Bool.{cases_order}
use Rattle.std.proofs.lemmas.List.{get_or_default}
use Rattle.smithy_form.specs.declared.pairs.Pair.{Pair}
use Rattle.smithy_form.specs.Private.Kept.{is_before, is_not_behind, BeginsAt, EndsAt}

module _ {X : Type 0} where
  -- one more element has it
  pub within_more : (P : X → Type 0) (xs : List X) (n : ℕ) (x : X) → n < length xs → x ≡ slice_index_or xs n x → P x → AllWithin P xs 0 n → AllWithin P xs 0 (n + 1)
  within_more P xs n x within is has front k d low high = by (cases_order k n)
    where
      by : (k ≡ n) ⊎ ((k < n) ⊎ (n < k)) → P (slice_index_or xs k d)
      by (inl same) = subst (λ i. P (slice_index_or xs i d)) (sym same) (subst P (is ∙ get_or_default xs n x d within) has)
      by (inr (inl less)) = front k d low less
      by (inr (inr more)) = absurd (omega (arith, more, high))

  module _ (p : X → Bool) (xs : List X) (parted : IsPartitionedBy p xs) where
    -- the element before the place passes
    pub front_passes : (n : ℕ) (x : X) → 0 < n → n ≤ length xs → x ≡ slice_index_or xs (n - 1) x → p x ≡ true → AllWithin (λ y. p y ≡ true) xs 0 n
    front_passes n x some within is passes k d low high =
        let inside : n - 1 < length xs = omega (arith, some, within) in
        parted k (n - 1) d (omega (arith, high)) inside (sym (ap p (is ∙ get_or_default xs (n - 1) x d inside)) ∙ passes)

    -- the element at the place fails
    pub fails_there : (n : ℕ) (x : X) → n < length xs → x ≡ slice_index_or xs n x → p x ≡ false → AllWithin (λ y. p y ≡ true) xs 0 n
        → IsPartitionPoint (λ y. p y ≡ true) (λ y. p y ≡ false) xs n
    fails_there n x within is fails front = (front, λ k d low high. by k d low high (p (slice_index_or xs k d)) refl)
      where
        by : (k : ℕ) (d : X) → n ≤ k → k < length xs → (b : Bool) → p (slice_index_or xs k d) ≡ b → p (slice_index_or xs k d) ≡ false
        by k d low high false at = at
        by k d low high true at =
            absurd (let no : true ≡ false = sym (parted n k d low high at) ∙ sym (ap p (is ∙ get_or_default xs n x d within)) ∙ fails in cc)

  pub all_pass : (p : X → Bool) (xs : List X) (n : ℕ) → length xs ≤ n → n ≤ length xs → AllWithin (λ y. p y ≡ true) xs 0 n → IsPartitionPoint (λ y. p y ≡ true) (λ y. p y ≡ false) xs n
  all_pass p xs n past within front = (front, λ k d low high. absurd (omega (arith, low, high, past)))

module _ (at : ℕ) (s : List ℕ) (pairs : List Pair) where
  pub begins_first : (x : Pair) (n : ℕ) → IsPartitionedBy (is_before at s) pairs → n ≡ 0 → n < length pairs → x ≡ slice_index_or pairs n x → is_before at s x ≡ false → BeginsAt at s pairs n
  begins_first x n parted zero_is within is fails = record {
    bound = omega (arith, within);
    point = fails_there (is_before at s) pairs parted n x within is fails (λ k d low high. absurd (omega (arith, high, zero_is)));
  }

  pub begins_behind : (x y : Pair) (n : ℕ) → IsPartitionedBy (is_before at s) pairs → 0 < n → n < length pairs → x ≡ slice_index_or pairs n x → is_before at s x ≡ false
      → y ≡ slice_index_or pairs (n - 1) y → is_before at s y ≡ true → BeginsAt at s pairs n
  begins_behind x y n parted some within is fails before passes = record {
    bound = omega (arith, within);
    point = fails_there (is_before at s) pairs parted n x within is fails (front_passes (is_before at s) pairs parted n y some (omega (arith, within)) before passes);
  }

  pub ends_there : (x : Pair) (n : ℕ) → IsPartitionedBy (is_not_behind at s) pairs → n < length pairs → x ≡ slice_index_or pairs n x → is_not_behind at s x ≡ false
      → AllWithin (λ p. is_not_behind at s p ≡ true) pairs 0 n → EndsAt at s pairs n
  ends_there x n parted within is fails front = record { bound = omega (arith, within); point = fails_there (is_not_behind at s) pairs parted n x within is fails front }

  pub ends_last : (n : ℕ) → length pairs ≤ n → n ≤ length pairs → AllWithin (λ p. is_not_behind at s p ≡ true) pairs 0 n → EndsAt at s pairs n
  ends_last n past within front = record { bound = within; point = all_pass (is_not_behind at s) pairs n past within front }

  pub none_begin : length pairs ≡ 0 → BeginsAt at s pairs (length pairs)
  none_begin empty = record { bound = omega arith; point = all_pass (is_before at s) pairs (length pairs) (omega arith) (omega arith) (λ k d low high. absurd (omega (arith, high, empty))) }

  pub all_begin : (x : Pair) (n : ℕ) → IsPartitionedBy (is_before at s) pairs → n ≡ length pairs → 0 < n → x ≡ slice_index_or pairs (n - 1) x → is_before at s x ≡ true
      → BeginsAt at s pairs (length pairs)
  all_begin x n parted counted some is passes = record {
    bound = omega arith;
    point = all_pass (is_before at s) pairs (length pairs) (omega arith) (omega arith)
        (subst (λ k. AllWithin (λ p. is_before at s p ≡ true) pairs 0 k) counted (front_passes (is_before at s) pairs parted n x some (omega (arith, counted)) is passes));
  }

  pub none_end : length pairs ≡ 0 → EndsAt at s pairs (length pairs)
  none_end empty = record { bound = omega arith; point = all_pass (is_not_behind at s) pairs (length pairs) (omega arith) (omega arith) (λ k d low high. absurd (omega (arith, high, empty))) }

  pub all_end : (x : Pair) (n : ℕ) → IsPartitionedBy (is_not_behind at s) pairs → n ≡ length pairs → 0 < n → x ≡ slice_index_or pairs (n - 1) x → is_not_behind at s x ≡ true
      → EndsAt at s pairs (length pairs)
  all_end x n parted counted some is passes = record {
    bound = omega arith;
    point = all_pass (is_not_behind at s) pairs (length pairs) (omega arith) (omega arith)
        (subst (λ k. AllWithin (λ p. is_not_behind at s p ≡ true) pairs 0 k) counted (front_passes (is_not_behind at s) pairs parted n x some (omega (arith, counted)) is passes));
  }
