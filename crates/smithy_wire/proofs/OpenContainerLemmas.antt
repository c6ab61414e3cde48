-- The innermost container is the last of the stack, which changes in place.
use Rattle.std.proofs.Common.{◌≡◌, ◌<◌, ◌++◌, ℕ, zero, suc, List, [], ◌∷◌, length, reverse, map, get_or, slice_set, Some, refl, sym, ap, ◌∙◌, arith}
use Rattle.std.proofs.lemmas.Grind.{reverse_onto}
use Rattle.std.proofs.lemmas.List.{length-reverse}
use Rattle.smithy_wire.specs.OpenContainers.{innermost, with_innermost}

module _ {A : Type 0} where
  more_outside : (x : A) (xs ys : List A) → 0 < length xs → with_innermost x (xs ++ ys) ≡ with_innermost x xs ++ ys
  more_outside x [] ys some = absurd (omega (arith, some))
  more_outside x (y ∷ xs) ys some = refl

  innermost_of : (xs ys : List A) → 0 < length xs → innermost (xs ++ ys) ≡ innermost xs
  innermost_of [] ys some = absurd (omega (arith, some))
  innermost_of (y ∷ xs) ys some = refl

  -- the last of a stack is the innermost
  last_set : (xs : List A) (i : ℕ) (x : A) → length xs ≡ suc i → reverse (slice_set xs i x) ≡ with_innermost x (reverse xs)
  last_set [] i x size = cc
  last_set (y ∷ []) zero x size = refl
  last_set (y ∷ []) (suc i) x size = cc
  last_set (y ∷ z ∷ xs) zero x size = cc
  last_set (y ∷ z ∷ xs) (suc i) x size =
      let inner : length (z ∷ xs) ≡ suc i = omega (arith, size) in
      reverse_onto (slice_set (z ∷ xs) i x) y []
      ∙ ap (λ l. l ++ y ∷ []) (last_set (z ∷ xs) i x inner)
      ∙ sym (more_outside x (reverse (z ∷ xs)) (y ∷ []) (omega (arith, length-reverse (z ∷ xs))))
      ∙ ap (with_innermost x) (sym (reverse_onto (z ∷ xs) y []))

  last_is : (xs : List A) (i : ℕ) (d : A) → length xs ≡ suc i → innermost (reverse xs) ≡ Some (get_or xs i d)
  last_is [] i d size = cc
  last_is (y ∷ []) zero d size = refl
  last_is (y ∷ []) (suc i) d size = cc
  last_is (y ∷ z ∷ xs) zero d size = cc
  last_is (y ∷ z ∷ xs) (suc i) d size =
      let inner : length (z ∷ xs) ≡ suc i = omega (arith, size) in
      ap innermost (reverse_onto (z ∷ xs) y [])
      ∙ innermost_of (reverse (z ∷ xs)) (y ∷ []) (omega (arith, length-reverse (z ∷ xs)))
      ∙ last_is (z ∷ xs) i d inner

  with_mapped : {B : Type 0} (f : A → B) (x : A) (xs : List A) → map f (with_innermost x xs) ≡ with_innermost (f x) (map f xs)
  with_mapped f x [] = refl
  with_mapped f x (y ∷ xs) = refl

  with_same : {B : Type 0} (f : A → B) (x o : A) (xs : List A) → innermost xs ≡ Some o → f x ≡ f o → map f (with_innermost x xs) ≡ map f xs
  with_same f x o [] h same = cc
  with_same f x o (y ∷ xs) h same = let first : y ≡ o = cc in ap (λ z. z ∷ map f xs) (same ∙ ap f (sym first))

  -- what changes of the last changes of the innermost, and what stays of it stays of all
  module _ {B : Type 0} (f : A → B) (xs : List A) (i : ℕ) (x : A) where
    pub last_changed : length xs ≡ suc i → map f (reverse (slice_set xs i x)) ≡ with_innermost (f x) (map f (reverse xs))
    last_changed size = ap (map f) (last_set xs i x size) ∙ with_mapped f x (reverse xs)

    pub last_kept : (d : A) → length xs ≡ suc i → f x ≡ f (get_or xs i d) → map f (reverse (slice_set xs i x)) ≡ map f (reverse xs)
    last_kept d size same = ap (map f) (last_set xs i x size) ∙ with_same f x (get_or xs i d) (reverse xs) (last_is xs i d size) same
