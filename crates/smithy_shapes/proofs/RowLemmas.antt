-- Two lists of rows that are compared one by one.
use Rattle.std.proofs.Common.{◌≡◌, ◌↔◌, ◌==◌, ◌+◌, ◌<◌, ℕ, IsTrue, List, [], ◌∷◌, map, length, get_or, drop, length-drop, ◌≤◌, arith, refl, ap, sym, ◌∙◌}
use Rattle.std.proofs.lemmas.Bool.Decides.{Decides-eqb}
use Rattle.std.proofs.lemmas.List.{drop_more, drop_all}

module _ {X A B : Type 0} (f : A → X) (g : B → X) (xs rest : List A) (ys : List B) (a : A) (i : ℕ) (d : B) (P : Type 0) (left : xs ≡ a ∷ rest) (within : i < length ys)
    (so_far : (map f xs ≡ map g (drop i ys)) ↔ P) where
  there : map g (drop i ys) ≡ g (get_or ys i d) ∷ map g (drop (i + 1) ys)
  there = ap (map g) (drop_more ys i d within)

  -- behind two that are the same
  pub goes_on : f a ≡ g (get_or ys i d) → (map f rest ≡ map g (drop (i + 1) ys)) ↔ P
  goes_on same = (
    λ more. so_far.0 (ap (map f) left ∙ let both : f a ∷ map f rest ≡ g (get_or ys i d) ∷ map g (drop (i + 1) ys) = cc in both ∙ sym there),
    λ p. let both : f a ∷ map f rest ≡ g (get_or ys i d) ∷ map g (drop (i + 1) ys) = sym (ap (map f) left) ∙ so_far.1 p ∙ there in cc,
  )

  -- where two aren't
  pub differs : (f a ≡ g (get_or ys i d) → ⊥) → P → ⊥
  differs other p = let both : f a ∷ map f rest ≡ g (get_or ys i d) ∷ map g (drop (i + 1) ys) = sym (ap (map f) left) ∙ so_far.1 p ∙ there in other cc

pub nothing_left : {A : Type 0} (xs : List A) → length xs ≡ 0 → xs ≡ []
nothing_left [] none = refl
nothing_left (x ∷ xs) none = cc

pub ended : {A : Type 0} (xs : List A) (n : ℕ) → n ≡ length xs → IsTrue (n == 0) ↔ (xs ≡ [])
ended xs n count =
    let test = Decides-eqb n 0 in
    (λ h. nothing_left xs (sym count ∙ test.0 h), λ h. test.1 (count ∙ ap length h))

pub mapped_end : {A B : Type 0} (f : A → B) (xs : List A) → (xs ≡ []) ↔ (map f xs ≡ [])
mapped_end f [] = (λ h. refl, λ h. refl)
mapped_end f (x ∷ xs) = (λ h. cc, λ h. cc)

mapped_none : {A X : Type 0} (f : A → X) (xs : List A) → [] ≡ map f xs → length xs ≡ 0
mapped_none f [] none = refl
mapped_none f (x ∷ xs) none = cc

module _ {X A B : Type 0} (f : A → X) (g : B → X) (xs : List A) (ys : List B) (i : ℕ) (P : Type 0) (so_far : (map f xs ≡ map g (drop i ys)) ↔ P) where
  -- the first list ends too early
  pub too_few : xs ≡ [] → i < length ys → P → ⊥
  too_few none within p =
      let ends = mapped_none g (drop i ys) (ap (map f) (sym none) ∙ so_far.1 p) in
      omega (arith, within, sym (length-drop i ys) ∙ ends)

  -- the second list has ended, and so has the first, or not
  pub ends : length ys ≤ i → (xs ≡ []) ↔ P
  ends past = (
    λ none. so_far.0 (ap (map f) none ∙ sym (ap (map g) (drop_all i ys past))),
    λ p. nothing_left xs (mapped_none f xs (sym (so_far.1 p ∙ ap (map g) (drop_all i ys past)))),
  )
