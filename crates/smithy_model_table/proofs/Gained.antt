-- What sets of ids and numbers gain, one by one.
use Rattle.std.proofs.Common.{◌≡◌, ◌<◌, ◌+◌, ◌∙◌, ℕ, List, [], ◌∷◌, ◌++◌, length, map, take, get_or, bytes_eq, refl, sym, ap}
use Rattle.std.specs.Prelude.{Bool, true, false, ◌||◌, cond, ◌==◌}
use Rattle.std.specs.List.{list_any}
use Rattle.std.specs.Ordering.{is_eq, nat_cmp}
use Rattle.std.specs.Cmp.{unsigned_tied}
use Rattle.std.specs.Cmp.Lexicographic.{slice_cmp}
use Rattle.std.proofs.lemmas.List.{take_more, map-append}
use Rattle.std.proofs.lemmas.List.Folds.{list_any-append}
use Rattle.std.proofs.lemmas.Map.Text.{is_eq-slice_cmp}
use Rattle.smithy_model_table.specs.Roles.{Gains}

true_or : (b c : Bool) → cond b true c ≡ (b || c)
true_or true c = refl
true_or false c = refl

moved : (one any first : Bool) → (one || (any || first)) ≡ ((any || (one || false)) || first)
moved one true first = or_true one
  where
    or_true : (b : Bool) → (b || true) ≡ true
    or_true true = refl
    or_true false = refl
moved true false first = refl
moved false false first = refl

-- where an id is in a set that gained one
pub gained_id : (id other : List ℕ) (before behind : Bool) → behind ≡ cond (is_eq (slice_cmp nat_cmp id other)) true before → behind ≡ (bytes_eq id other || before)
gained_id id other before behind is = is ∙ true_or (is_eq (slice_cmp nat_cmp id other)) before ∙ ap (λ b. b || before) (is_eq-slice_cmp id other)

-- the same of a text
pub gained_text : (text other : List ℕ) (before behind : Bool) → behind ≡ cond (bytes_eq text other) true before → behind ≡ (bytes_eq text other || before)
gained_text text other before behind is = is ∙ true_or (bytes_eq text other) before

-- the same of a number
pub gained_number : (number other : ℕ) (before behind : Bool) → behind ≡ cond (is_eq (nat_cmp number other)) true before → behind ≡ ((number == other) || before)
gained_number number other before behind is = is ∙ true_or (is_eq (nat_cmp number other)) before ∙ ap (λ b. b || before) (unsigned_tied number other)

turned : (a b : Bool) → (a || b) ≡ (b || (a || false))
turned true true = refl
turned true false = refl
turned false true = refl
turned false false = refl

-- what one more gives, of which a set is gathered
pub gained_behind : {A X : Type 0} (f : A → X → Bool) (xs : List X) (x : X) (before behind : A → Bool) → ((a : A) → before a ≡ list_any (f a) xs)
    → Gains (λ a. f a x) before behind → (a : A) → behind a ≡ list_any (f a) (xs ++ x ∷ [])
gained_behind f xs x before behind so_far one = λ a.
    one a ∙ ap (λ b. f a x || b) (so_far a) ∙ turned (f a x) (list_any (f a) xs) ∙ sym (list_any-append (f a) xs (x ∷ []))

any_more : {W X : Type 0} (p : X → Bool) (v : W → X) (ws : List W) (i : ℕ) (d : W) → i < length ws
    → list_any p (map v (take (i + 1) ws)) ≡ (list_any p (map v (take i ws)) || (p (v (get_or ws i d)) || false))
any_more p v ws i d within = rw (take_more ws i d within, map-append v (take i ws) (get_or ws i d ∷ [])) (list_any-append p (map v (take i ws)) (v (get_or ws i d) ∷ []))

-- what one more element of a list gives
pub gained_more : {A W X : Type 0} (f : A → X → Bool) (v : W → X) (ws : List W) (i : ℕ) (d : W) (first before behind : A → Bool) → i < length ws
    → Gains (λ x. list_any (f x) (map v (take i ws))) first before → Gains (λ x. f x (v (get_or ws i d))) before behind
    → Gains (λ x. list_any (f x) (map v (take (i + 1) ws))) first behind
gained_more f v ws i d first before behind within so_far one = λ x.
    one x ∙ ap (λ b. f x (v (get_or ws i d)) || b) (so_far x) ∙ moved (f x (v (get_or ws i d))) (list_any (f x) (map v (take i ws))) (first x)
    ∙ sym (ap (λ b. b || first x) (any_more (f x) v ws i d within))
