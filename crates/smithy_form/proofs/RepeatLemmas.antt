-- The least number of a pair whose name came before: among pairs in the order of their numbers, and among sorted ones.
use Rattle.std.proofs.Common.{◌≡◌, ◌≢◌, ◌<◌, ◌≤◌, ◌==◌, ℕ, suc, List, [], ◌∷◌, map as mapped, Bool, true, false, Option, Some, None, refl, sym, ◌∙◌, ap, subst, ◌⊎◌, inl, inr, arith}
use Rattle.std.specs.Prelude.{bytes_eq}
use Rattle.std.specs.List.{AllByRecursion, IsDistinct, list_any}
use Rattle.std.specs.List.Sorted.{IsPermutation}
use Rattle.std.proofs.lemmas.Bool.Decides.{nat_tests}
use Rattle.std.proofs.lemmas.List.Elements.{recursion_from_All, All-from_recursion}
use Rattle.std.proofs.lemmas.List.Sorted.{All-permutation, IsPermutation-sym}
use Rattle.std.proofs.lemmas.Slice.Eq.{bytes_eq-Decides}
use Rattle.smithy_query_codec.proofs.PairLemmas.{each_weaker}
use Rattle.smithy_form.specs.declared.pairs.Pair.{Pair}
use Rattle.smithy_form.specs.Forms.{first_repeated}
use Rattle.smithy_form.specs.Private.Kept.{named_text}
use Rattle.smithy_form.specs.Private.Order.{AreNumbered}

-- ---- elements

-- x is one of them
abbrev pub Among : {X : Type 0} → X → List X → Type 0
Among x [] = ⊥
Among x (y ∷ ys) = (x ≡ y) ⊎ Among x ys

module _ {X : Type 0} where
  each_itself : (xs : List X) → AllByRecursion (λ x. Among x xs) xs
  each_itself [] = tt
  each_itself (x ∷ xs) = (inl refl, each_weaker (λ y. Among y xs) (λ y. Among y (x ∷ xs)) (λ y h. inr h) xs (each_itself xs))

  pub at_among : (P : X → Type 0) (xs : List X) (x : X) → AllByRecursion P xs → Among x xs → P x
  at_among P [] x h none = elim none [ ]
  at_among P (y ∷ ys) x h (inl is) = subst P (sym is) h.0
  at_among P (y ∷ ys) x h (inr more) = at_among P ys x h.1 more

  -- a permutation has the same elements
  pub among_moved : (xs ys : List X) → IsPermutation xs ys → (x : X) → Among x xs → Among x ys
  among_moved xs ys moved x h =
      at_among (λ y. Among y ys) xs x
      (recursion_from_All (λ y. Among y ys) xs (All-permutation (λ y. Among y ys) ys xs (IsPermutation-sym xs ys moved) (All-from_recursion (λ y. Among y ys) ys (each_itself ys)))) h

-- ---- what is repeated

abbrev pub name_of : Pair → List ℕ
name_of p = (named_text p).0

-- the second has the name of the first, and a greater number
pub record Repeats (p q : Pair) : Type 0 where
  pub same : name_of p ≡ name_of q
  pub later : p.number < q.number

-- the least number of a pair that repeats another one of them, if one does
abbrev pub IsLeastRepeat : List Pair → Option ℕ → Type 0
IsLeastRepeat ps None = (p q : Pair) → Among p ps → Among q ps → Repeats p q → ⊥
IsLeastRepeat ps (Some n) =
    ((p : Pair) × (q : Pair) × Among p ps × Among q ps × Repeats p q × (q.number ≡ n))
    × ((p q : Pair) → Among p ps → Among q ps → Repeats p q → n ≤ q.number)

pub least_is_one : (ps : List Pair) (r s : Option ℕ) → IsLeastRepeat ps r → IsLeastRepeat ps s → r ≡ s
least_is_one ps None None hr hs = refl
least_is_one ps None (Some n) hr hs = let one = hs.0 in absurd (hr one.0 one.1 one.2 one.3 one.4)
least_is_one ps (Some m) None hr hs = let one = hr.0 in absurd (hs one.0 one.1 one.2 one.3 one.4)
least_is_one ps (Some m) (Some n) hr hs =
    let one = hr.0 in
    let other = hs.0 in
    let below : m ≤ n = omega (arith, hr.1 other.0 other.1 other.2 other.3 other.4, other.5) in
    let above : n ≤ m = omega (arith, hs.1 one.0 one.1 one.2 one.3 one.4, one.5) in
    let same : m ≡ n = omega (arith, below, above) in
    ap Some same

pub least_moved : (xs ys : List Pair) → IsPermutation xs ys → (r : Option ℕ) → IsLeastRepeat ys r → IsLeastRepeat xs r
least_moved xs ys moved None h = λ p q hp hq. h p q (among_moved xs ys moved p hp) (among_moved xs ys moved q hq)
least_moved xs ys moved (Some n) h =
    let one = h.0 in
    let back = IsPermutation-sym xs ys moved in
    ((one.0, one.1, among_moved ys xs back one.0 one.2, among_moved ys xs back one.1 one.3, one.4, one.5), λ p q hp hq. h.1 p q (among_moved xs ys moved p hp) (among_moved xs ys moved q hq))

-- ---- pairs in the order of their numbers

pub numbered_from : (n : ℕ) (ps : List Pair) → AreNumbered n ps → (p : Pair) → Among p ps → n ≤ p.number
numbered_from n [] h p none = elim none [ ]
numbered_from n (x ∷ ps) h p (inl is) = omega (arith, h.0, ap (λ (y : Pair). y.number) is)
numbered_from n (x ∷ ps) h p (inr more) = omega (arith, numbered_from (suc n) ps h.1 p more)

-- no two have one number
pub one_of_number : (n : ℕ) (ps : List Pair) → AreNumbered n ps → (p q : Pair) → Among p ps → Among q ps → p.number ≡ q.number → p ≡ q
one_of_number n [] h p q none hq same = elim none [ ]
one_of_number n (x ∷ ps) h p q (inl hp) (inl hq) same = hp ∙ sym hq
one_of_number n (x ∷ ps) h p q (inl hp) (inr hq) same = absurd (omega (arith, h.0, ap (λ (y : Pair). y.number) hp, numbered_from (suc n) ps h.1 q hq, same))
one_of_number n (x ∷ ps) h p q (inr hp) (inl hq) same = absurd (omega (arith, h.0, ap (λ (y : Pair). y.number) hq, numbered_from (suc n) ps h.1 p hp, same))
one_of_number n (x ∷ ps) h p q (inr hp) (inr hq) same = one_of_number (suc n) ps h.1 p q hp hq same

abbrev pub same_number : Pair → Pair → Bool
same_number p q = p.number == q.number

later_apart : (x : Pair) (m : ℕ) (ps : List Pair) → x.number < m → AreNumbered m ps → AllByRecursion (λ y. same_number x y ≡ false) ps
later_apart x m [] less h = tt
later_apart x m (y ∷ ps) less h =
    let at = h.0 in
    let apart : same_number x y ≡ false = grind (arith, nat_tests) in
    (apart, later_apart x (suc m) ps (omega (arith, less)) h.1)

pub numbers_distinct : (n : ℕ) (ps : List Pair) → AreNumbered n ps → IsDistinct same_number ps
unfolding IsDistinct
numbers_distinct n [] h = tt
numbers_distinct n (x ∷ ps) h = (later_apart x (suc n) ps (omega (arith, h.0)) h.1, numbers_distinct (suc n) ps h.1)

-- a pair repeats one that came before the list, or one of it
abbrev IsLeastBehind : List Pair → List Pair → Option ℕ → Type 0
IsLeastBehind before ps None = (p q : Pair) → Among p before ⊎ Among p ps → Among q ps → Repeats p q → ⊥
IsLeastBehind before ps (Some n) =
    ((p : Pair) × (q : Pair) × (Among p before ⊎ Among p ps) × Among q ps × Repeats p q × (q.number ≡ n))
    × ((p q : Pair) → Among p before ⊎ Among p ps → Among q ps → Repeats p q → n ≤ q.number)

-- one of them has the name
named_before : (name : List ℕ) (before : List Pair) → list_any (bytes_eq name) (mapped name_of before) ≡ true → (p : Pair) × Among p before × (name ≡ name_of p)
named_before name [] h = cc
named_before name (p ∷ before) h = by (bytes_eq name (name_of p)) refl h (named_before name before)
  where
    by : (b : Bool) → bytes_eq name (name_of p) ≡ b → list_any (bytes_eq name) (mapped name_of (p ∷ before)) ≡ true
        → (list_any (bytes_eq name) (mapped name_of before) ≡ true → (q : Pair) × Among q before × (name ≡ name_of q)) → (q : Pair) × Among q (p ∷ before) × (name ≡ name_of q)
    by true is h again = (p, inl refl, (bytes_eq-Decides name (name_of p)).0 is)
    by false is h again = let more = again (sym (rw is refl) ∙ h) in (more.0, inr more.1, more.2)

-- none of them has it
none_before : (name : List ℕ) (before : List Pair) → list_any (bytes_eq name) (mapped name_of before) ≡ false → (p : Pair) → Among p before → name ≢ name_of p
none_before name [] h p none same = elim none [ ]
none_before name (x ∷ before) h p hp same = by (bytes_eq name (name_of x)) refl h hp (λ k more. none_before name before k p more same)
  where
    by : (b : Bool) → bytes_eq name (name_of x) ≡ b → list_any (bytes_eq name) (mapped name_of (x ∷ before)) ≡ false → (p ≡ x) ⊎ Among p before
        → (list_any (bytes_eq name) (mapped name_of before) ≡ false → Among p before → ⊥) → ⊥
    by true is h hp again = let no : true ≡ false = sym (rw is refl) ∙ h in cc
    by false is h (inl at) again = let no : true ≡ false = sym ((bytes_eq-Decides name (name_of x)).1 (same ∙ ap name_of at)) ∙ is in cc
    by false is h (inr more) again = again (sym (rw is refl) ∙ h) more

one_more : (n : ℕ) (x : Pair) (before ps : List Pair) → x.number ≡ n → AreNumbered (suc n) ps → list_any (bytes_eq (name_of x)) (mapped name_of before) ≡ false
    → (p q : Pair) → Among p before ⊎ Among p (x ∷ ps) → Among q (x ∷ ps) → Repeats p q → (Among p (x ∷ before) ⊎ Among p ps) × Among q ps
one_more n x before ps at h none p q hp (inl hq) again = absurd (by hp)
  where
    number_q : q.number ≡ n
    number_q = ap (λ (y : Pair). y.number) hq ∙ at

    by : Among p before ⊎ Among p (x ∷ ps) → ⊥
    by (inl early) = none_before (name_of x) before none p early (sym (again.same ∙ ap name_of hq))
    by (inr (inl is)) = omega (arith, again.later, number_q, ap (λ (y : Pair). y.number) is, at)
    by (inr (inr late)) = omega (arith, again.later, number_q, numbered_from (suc n) ps h p late)
one_more n x before ps at h none p q (inl early) (inr hq) again = (inl (inr early), hq)
one_more n x before ps at h none p q (inr (inl is)) (inr hq) again = (inl (inl is), hq)
one_more n x before ps at h none p q (inr (inr late)) (inr hq) again = (inr late, hq)

least_behind : (n : ℕ) (before ps : List Pair) → AllByRecursion (λ (p : Pair). p.number < n) before → AreNumbered n ps
    → IsLeastBehind before ps (first_repeated (mapped name_of before) n (mapped named_text ps))
least_behind n before [] early h = λ p q hp hq again. hq
least_behind n before (x ∷ ps) early h =
    by (list_any (bytes_eq (name_of x)) (mapped name_of before)) refl
    (least_behind (suc n) (x ∷ before) ps (omega (arith, h.0), each_weaker (λ (p : Pair). p.number < n) (λ (p : Pair). p.number < suc n) (λ p less. omega (arith, less)) before early) h.1)
  where
    shifted : list_any (bytes_eq (name_of x)) (mapped name_of before) ≡ false → (r : Option ℕ) → IsLeastBehind (x ∷ before) ps r → IsLeastBehind before (x ∷ ps) r
    shifted none None again = λ p q hp hq rep. let moved = one_more n x before ps h.0 h.1 none p q hp hq rep in again p q moved.0 moved.1 rep
    shifted none (Some m) again =
        let one = again.0 in
        ((one.0, one.1, back one.0 one.2, inr one.3, one.4, one.5), λ p q hp hq rep. let moved = one_more n x before ps h.0 h.1 none p q hp hq rep in again.1 p q moved.0 moved.1 rep)
      where
        back : (p : Pair) → Among p (x ∷ before) ⊎ Among p ps → Among p before ⊎ Among p (x ∷ ps)
        back p (inl (inl is)) = inr (inl is)
        back p (inl (inr early)) = inl early
        back p (inr late) = inr (inr late)

    by : (b : Bool) → list_any (bytes_eq (name_of x)) (mapped name_of before) ≡ b
        → IsLeastBehind (x ∷ before) ps (first_repeated (mapped name_of (x ∷ before)) (suc n) (mapped named_text ps))
        → IsLeastBehind before (x ∷ ps) (first_repeated (mapped name_of before) n (mapped named_text (x ∷ ps)))
    by true is again =
        let one = named_before (name_of x) before is in
        let less : one.0.number < n = at_among (λ (p : Pair). p.number < n) before one.0 early one.1 in
        rw is ((one.0, x, inl one.1, inl refl, record { same = sym one.2; later = omega (arith, less, h.0) }, h.0), λ p q hp hq rep. numbered_from n (x ∷ ps) h q hq)
    by false is again = rw is (shifted is (first_repeated (mapped name_of (x ∷ before)) (suc n) (mapped named_text ps)) again)

-- what the form's definition answers
pub first_is_least : (n : ℕ) (ps : List Pair) → AreNumbered n ps → IsLeastRepeat ps (first_repeated [] n (mapped named_text ps))
first_is_least n ps h = by (first_repeated [] n (mapped named_text ps)) (least_behind n [] ps tt h)
  where
    by : (r : Option ℕ) → IsLeastBehind [] ps r → IsLeastRepeat ps r
    by None k = λ p q hp hq rep. k p q (inr hp) hq rep
    by (Some m) k = ((k.0.0, k.0.1, only k.0.0 k.0.2, k.0.3, k.0.4, k.0.5), λ p q hp hq rep. k.1 p q (inr hp) hq rep)
      where
        only : (p : Pair) → Among p [] ⊎ Among p ps → Among p ps
        only p (inl none) = absurd none
        only p (inr some) = some
