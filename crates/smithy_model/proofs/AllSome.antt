-- All of some options, one more at the end, and one that is missing.
use Rattle.std.proofs.Common.{◌≡◌, ◌<◌, ◌+◌, ℕ, zero, suc, List, [], ◌∷◌, ◌++◌, length, map, take, get_or, Option, Some, None, Ok, option_map, ◌∙◌, refl, sym, ap, arith}
use Rattle.std.specs.Prelude.{Bool, true, false, ◌||◌}
use Rattle.std.specs.List.{filter, list_any}
use Rattle.std.specs.Option.{option_and_then}
use Rattle.std.proofs.lemmas.List.Elements.{filter-append}
use Rattle.std.proofs.lemmas.List.{take_more, map-append}
use Rattle.smithy_model.specs.declared.fault.ModelFault.{ModelFault}
use Rattle.smithy_model.specs.Objects.{Entry}
use Rattle.smithy_model.specs.Members.{all_some}
use Rattle.smithy_model.specs.Among.{AddsAmong}

one_more : {A : Type 0} → (b : A) (r : Option (List A)) (o : Option A)
    → option_map (λ more. b ∷ more) (option_and_then (λ found_all. option_map (λ a. found_all ++ a ∷ []) o) r)
    ≡ option_and_then (λ found_all. option_map (λ a. found_all ++ a ∷ []) o) (option_map (λ more. b ∷ more) r)
one_more b None o = refl
one_more b (Some found_all) None = refl
one_more b (Some found_all) (Some a) = refl

one : {A : Type 0} → (o : Option A) → option_and_then (λ a. option_map (λ more. a ∷ more) (Some [])) o ≡ option_map (λ a. [] ++ a ∷ []) o
one None = refl
one (Some a) = refl

all_some-push : {A : Type 0} → (os : List (Option A)) (o : Option A)
    → all_some (os ++ o ∷ []) ≡ option_and_then (λ found_all. option_map (λ a. found_all ++ a ∷ []) o) (all_some os)
all_some-push [] o = one o
all_some-push (None ∷ os) o = refl
all_some-push (Some b ∷ os) o = rw (all_some-push os o) (one_more b (all_some os) o)

-- one more was read
pub read_more : {W X A : Type 0} (v : W → X) (f : X → Option A) (ws : List W) (i : ℕ) (w : W) (found_all : List A) (a : A) → i < length ws → w ≡ get_or ws i w
    → all_some (map f (map v (take i ws))) ≡ Some found_all → f (v w) ≡ Some a → all_some (map f (map v (take (i + 1) ws))) ≡ Some (found_all ++ a ∷ [])
read_more v f ws i w found_all a within is so_far found =
    rw (
      take_more ws i w within,
      map-append v (take i ws) (get_or ws i w ∷ []),
      map-append f (map v (take i ws)) (v (get_or ws i w) ∷ []),
      all_some-push (map f (map v (take i ws))) (f (v (get_or ws i w))),
      so_far,
      sym is,
      found,
    ) refl

none_behind : {A : Type 0} → (o : Option A) → option_and_then (λ a. option_map (λ more. a ∷ more) None) o ≡ None
none_behind None = refl
none_behind (Some a) = refl

-- one couldn't be read
pub read_none : {W X A : Type 0} (v : W → X) (f : X → Option A) (ws : List W) (i : ℕ) (w : W) → i < length ws → w ≡ get_or ws i w
    → f (v w) ≡ None → all_some (map f (map v ws)) ≡ None
read_none v f [] i w within is found = absurd (omega (arith, within))
read_none v f (x ∷ ws) zero w within is found = rw (sym is, found) refl
read_none v f (x ∷ ws) (suc i) w within is found =
    rw (read_none v f ws i w (omega (arith, within)) is found) (none_behind (f (v x)))

-- one more of a list that is gone through
pub next : {W X : Type 0} (v : W → X) (ws : List W) (i : ℕ) (w : W) → i < length ws → w ≡ get_or ws i w → map v (take (i + 1) ws) ≡ map v (take i ws) ++ v w ∷ []
next v ws i w within is =
    rw (take_more ws i w within, map-append v (take i ws) (get_or ws i w ∷ [])) (ap (λ x. map v (take i ws) ++ v x ∷ []) (sym is))

some_is : {A : Type 0} (x y : A) → Some x ≡ Some y → x ≡ y
some_is x y is = cc

joined : {A : Type 0} (a : A) (r t : Option (List A)) (xs ys : List A) → option_map (λ more. a ∷ more) r ≡ Some xs
    → ((more : List A) → r ≡ Some more → t ≡ Some (more ++ ys)) → option_map (λ more. a ∷ more) t ≡ Some (xs ++ ys)
joined a None t xs ys is behind = cc
joined a (Some more) t xs ys is behind = rw (behind more refl, sym (some_is (a ∷ more) xs is)) refl

all_both : {A : Type 0} (os ps : List (Option A)) (xs ys : List A) → all_some os ≡ Some xs → all_some ps ≡ Some ys → all_some (os ++ ps) ≡ Some (xs ++ ys)
all_both [] ps [] ys is also = also
all_both [] ps (x ∷ xs) ys is also = cc
all_both (None ∷ os) ps xs ys is also = cc
all_both (Some a ∷ os) ps xs ys is also = joined a (all_some os) (all_some (os ++ ps)) xs ys is (λ more same. all_both os ps more ys same also)

-- one that counts was read
among_one : {X A : Type 0} (p : X → Bool) (f : X → Option A) (x : X) (a : A) → p x ≡ true → f x ≡ Some a → all_some (map f (filter p (x ∷ []))) ≡ Some (a ∷ [])
among_one p f x a passes found = rw (passes, found) refl

-- one that counts is added to the others
pub one_added : {A W : Type 0} (p : Entry → Bool) (f : Entry → Option A) (Refuses : List Entry → ModelFault → Type 0) (v : W → A) (e : Entry) (w : W) (ws news : List W)
    → p e ≡ true → f e ≡ Some (v w) → news ≡ ws ++ w ∷ [] → AddsAmong (λ es. all_some (map f (filter p es))) Refuses e (map v ws) (map v news) (Ok tt)
one_added p f Refuses v e w ws news passes found is = record {
  read = (v w ∷ [], among_one p f e (v w) passes found, ap (map v) is ∙ map-append v ws (w ∷ []));
  refused = tt;
}

-- one more is read of those that count
pub among_more : {W X A : Type 0} (p : X → Bool) (f : X → Option A) (v : W → X) (ws : List W) (i : ℕ) (w : W) (so_far more : List A) → i < length ws
    → w ≡ get_or ws i w → all_some (map f (filter p (map v (take i ws)))) ≡ Some so_far → all_some (map f (filter p (v w ∷ []))) ≡ Some more
    → all_some (map f (filter p (map v (take (i + 1) ws)))) ≡ Some (so_far ++ more)
among_more p f v ws i w so_far more within is before one =
    rw (next v ws i w within is, filter-append p (map v (take i ws)) (v w ∷ []), map-append f (filter p (map v (take i ws))) (filter p (v w ∷ [])))
    (all_both (map f (filter p (map v (take i ws)))) (map f (filter p (v w ∷ []))) so_far more before one)

pub either : (b : Bool) → (b || true) ≡ true
either true = refl
either false = refl

alone : (b : Bool) → (b || false) ≡ true → b ≡ true
alone true is = refl
alone false is = is

-- one of a list passes the test
pub any_at : {W X : Type 0} (p : X → Bool) (v : W → X) (ws : List W) (i : ℕ) (w : W) → i < length ws → w ≡ get_or ws i w → p (v w) ≡ true
    → list_any p (map v ws) ≡ true
any_at p v [] i w within is passes = absurd (omega (arith, within))
any_at p v (x ∷ ws) zero w within is passes = rw (sym is, passes) refl
any_at p v (x ∷ ws) (suc i) w within is passes = rw (any_at p v ws i w (omega (arith, within)) is passes) (either (p (v x)))

-- one that is found by itself is found among all
pub any_of_one : {W X : Type 0} (p : X → Bool) (v : W → X) (ws : List W) (i : ℕ) (w : W) → i < length ws → w ≡ get_or ws i w → list_any p (v w ∷ []) ≡ true
    → list_any p (map v ws) ≡ true
any_of_one p v ws i w within is one = any_at p v ws i w within is (alone (p (v w)) one)
