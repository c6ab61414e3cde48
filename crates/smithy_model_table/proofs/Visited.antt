-- Shapes that are visited one after the other.
use Rattle.std.proofs.Common.{◌≡◌, ◌≢◌, ◌<◌, ◌≤◌, ◌∙◌, ℕ, zero, suc, List, [], ◌∷◌, ◌++◌, length, length-append, length-set, set, get_or, replicate, refl, sym, ap, subst, arith, eqb-true, ne_eqb, append_assoc, append-nil, lt-ltb, le-ltb, eq-eqb}
use Rattle.std.specs.Prelude.{Bool, true, false, cond, not, ◌||◌, ◌&&◌, ◌==◌, nat_lt}
use Rattle.std.specs.List.{filter, list_all}
use Rattle.std.proofs.lemmas.List.{length-replicate}
use Rattle.std.proofs.lemmas.List.Elements.{filter-append}
use Rattle.std.proofs.lemmas.List.Folds.{list_any-append}
use Rattle.smithy_model_table.specs.Leaving.{is_marked}
use Rattle.smithy_model_table.specs.Marking.{count_of_unmarked}
use Rattle.smithy_model_table.specs.Reaching.{first_of_each, within}
use Rattle.smithy_model_table.specs.Visiting.{is_among, AreVisited, Visits}
use Rattle.smithy_model_table.proofs.Fewest.{both, past_mark, at_mark, one_unmarked}

filter_keeps : (p : ℕ → Bool) (xs : List ℕ) (n : ℕ) → p n ≡ true → is_among (filter p xs) n ≡ is_among xs n
filter_keeps p [] n passes = refl
filter_keeps p (x ∷ xs) n passes = by (p x) refl (filter_keeps p xs n passes)
  where
    other : (x n : ℕ) → p x ≡ false → p n ≡ true → x ≢ n
    other x n none passes same = cc (none, ap p same, passes)

    by : (b : Bool) → p x ≡ b → is_among (filter p xs) n ≡ is_among xs n
        → is_among (cond b (x ∷ filter p xs) (filter p xs)) n ≡ ((x == n) || is_among xs n)
    by true is behind = ap (λ b. (x == n) || b) behind
    by false is behind = rw (ne_eqb x n (other x n is passes)) behind

last_once : (x n : ℕ) (a : Bool) → filter (λ k. not (x == k)) (cond a [] (n ∷ [])) ≡ cond ((x == n) || a) [] (n ∷ [])
last_once x n true = by (x == n)
  where
    by : (e : Bool) → filter (λ k. not (x == k)) [] ≡ cond (e || true) [] (n ∷ [])
    by true = refl
    by false = refl
last_once x n false = by (x == n)
  where
    by : (e : Bool) → cond (not e) (n ∷ []) [] ≡ cond (e || false) [] (n ∷ [])
    by true = refl
    by false = refl

once_more : (xs : List ℕ) (n : ℕ) → first_of_each (xs ++ n ∷ []) ≡ first_of_each xs ++ cond (is_among xs n) [] (n ∷ [])
once_more [] n = refl
once_more (x ∷ xs) n =
    ap (λ l. x ∷ filter (λ k. not (x == k)) l) (once_more xs n)
    ∙ ap (λ l. x ∷ l) (filter-append (λ k. not (x == k)) (first_of_each xs) (cond (is_among xs n) [] (n ∷ [])))
    ∙ ap (λ l. x ∷ (filter (λ k. not (x == k)) (first_of_each xs) ++ l)) (last_once x n (is_among xs n))

-- what comes later adds behind
pub grows : (xs ys : List ℕ) → (more : List ℕ) × (first_of_each (xs ++ ys) ≡ first_of_each xs ++ more)
grows [] ys = (first_of_each ys, refl)
grows (x ∷ xs) ys = (
  filter (λ k. not (x == k)) (grows xs ys).0,
  ap (λ l. x ∷ filter (λ k. not (x == k)) l) (grows xs ys).1
      ∙ ap (λ l. x ∷ l) (filter-append (λ k. not (x == k)) (first_of_each xs) (grows xs ys).0),
)

all_filtered : (p q : ℕ → Bool) (xs : List ℕ) → list_all p xs ≡ true → list_all p (filter q xs) ≡ true
all_filtered p q [] all = refl
all_filtered p q (x ∷ xs) all = by (q x) (p x) (list_all p xs) all (all_filtered p q xs) refl
  where
    by : (b a c : Bool) → (a && c) ≡ true → (c ≡ true → list_all p (filter q xs) ≡ true) → p x ≡ a
        → list_all p (cond b (x ∷ filter q xs) (filter q xs)) ≡ true
    by true true c all behind is = rw (is) (behind all)
    by false true c all behind is = behind all
    by b false c all behind is = cc (all)

all_once : (p : ℕ → Bool) (xs : List ℕ) → list_all p xs ≡ true → list_all p (first_of_each xs) ≡ true
all_once p [] all = refl
all_once p (x ∷ xs) all =
    both (p x) (list_all p xs) (p x) (list_all p (filter (λ k. not (x == k)) (first_of_each xs))) (λ is. is)
    (λ rest. all_filtered p (λ k. not (x == k)) (first_of_each xs) (all_once p xs rest)) all

-- what holds of all that came holds of those that were visited
pub all_visited : {count : _} {came : _} {seen : _} {order : _} (p : ℕ → Bool) → AreVisited count came seen order → list_all p came ≡ true → list_all p order ≡ true
all_visited {count} {came} {seen} {order} p held all = rw (held.each_once) (all_once p (within count came) (all_filtered p (λ n. nat_lt n count) came all))

among_more : (came : List ℕ) (n k : ℕ) → is_among (came ++ n ∷ []) k ≡ (is_among came k || (n == k))
among_more came n k = list_any-append (λ j. j == k) came (n ∷ []) ∙ ap (λ b. is_among came k || b) (or_false (n == k))
  where
    or_false : (b : Bool) → (b || false) ≡ b
    or_false true = refl
    or_false false = refl

-- a number that no shape has
pub past_all : {count : _} {came : _} {seen : _} {order : _} (n : ℕ) → count ≤ n → AreVisited count came seen order → AreVisited count (came ++ n ∷ []) seen order
past_all {count} {came} {seen} {order} n far held = record {
  long = held.long;
  each_once = held.each_once ∙ sym (ap first_of_each
      (filter-append (λ k. nat_lt k count) came (n ∷ []) ∙ ap (λ b. within count came ++ cond b (n ∷ []) []) (le-ltb n count far) ∙ append-nil (within count came)));
  there = λ k near. held.there k near ∙ sym (among_more came n k ∙ without (is_among came k) (n == k) (ne_eqb n k (λ same. omega (arith, far, near, same))));
  fit = held.fit;
}
  where
    without : (a b : Bool) → b ≡ false → (a || b) ≡ a
    without true b none = refl
    without false b none = none

one_order : (count : ℕ) (came : List ℕ) (n : ℕ) → n < count
    → first_of_each (within count (came ++ n ∷ [])) ≡ first_of_each (within count came) ++ cond (is_among came n) [] (n ∷ [])
one_order count came n near =
    ap first_of_each (filter-append (λ k. nat_lt k count) came (n ∷ []) ∙ ap (λ b. within count came ++ cond b (n ∷ []) []) (lt-ltb n count near))
    ∙ once_more (within count came) n
    ∙ ap (λ b. first_of_each (within count came) ++ cond b [] (n ∷ [])) (filter_keeps (λ k. nat_lt k count) came n (lt-ltb n count near))

-- one that was seen before
pub seen_before : {count : _} {came : _} {seen : _} {order : _} (n : ℕ) → n < length seen → is_marked seen n ≡ true → AreVisited count came seen order
    → AreVisited count (came ++ n ∷ []) seen order
seen_before {count} {came} {seen} {order} n inside is held =
    let near : n < count = omega (arith, inside, held.long) in
    let known : is_among came n ≡ true = sym (held.there n near) ∙ is in
    record {
      long = held.long;
      each_once = held.each_once
          ∙ sym (one_order count came n near ∙ ap (λ b. first_of_each (within count came) ++ cond b [] (n ∷ [])) known ∙ append-nil (first_of_each (within count came)));
      there = λ k close. held.there k close ∙ sym (among_more came n k ∙ still came n k (n == k) refl known);
      fit = held.fit;
    }
  where
    by_true : (a : Bool) → a ≡ true → (a || true) ≡ a
    by_true a is = rw (is) refl

    by_false : (a : Bool) → (a || false) ≡ a
    by_false true = refl
    by_false false = refl

    still : (came : List ℕ) (n k : ℕ) (b : Bool) → (n == k) ≡ b → is_among came n ≡ true → (is_among came k || b) ≡ is_among came k
    still came n k true same known = by_true (is_among came k) (subst (λ j. is_among came j ≡ true) (eqb-true n k same) known)
    still came n k false other known = by_false (is_among came k)

-- one that is new
pub newly_seen : {count : _} {came : _} {seen : _} {order : _} (n : ℕ) (d : Bool) → n < length seen → get_or seen n d ≡ false → is_marked seen n ≡ false
    → AreVisited count came seen order → AreVisited count (came ++ n ∷ []) (set seen n true) (order ++ n ∷ [])
newly_seen {count} {came} {seen} {order} n d inside at is held =
    let near : n < count = omega (arith, inside, held.long) in
    let unknown : is_among came n ≡ false = sym (held.there n near) ∙ is in
    record {
      long = length-set seen n true ∙ held.long;
      each_once = ap (λ l. l ++ n ∷ []) held.each_once
          ∙ sym (one_order count came n near ∙ ap (λ b. first_of_each (within count came) ++ cond b [] (n ∷ [])) unknown);
      there = λ k close. now_there k close (n == k) refl ∙ sym (among_more came n k);
      fit = omega (arith, held.fit, one_unmarked seen n d inside at, length-append order (n ∷ []));
    }
  where
    or_true : (a : Bool) → true ≡ (a || true)
    or_true true = refl
    or_true false = refl

    or_false : (a : Bool) → a ≡ (a || false)
    or_false true = refl
    or_false false = refl

    apart : (i k : ℕ) → (i == k) ≡ false → i ≢ k
    apart i k other same = cc (other, eq-eqb i k same)

    now_there : (k : ℕ) → k < count → (b : Bool) → (n == k) ≡ b → is_marked (set seen n true) k ≡ (is_among came k || (n == k))
    now_there k close true same =
        subst (λ j. is_marked (set seen n true) j ≡ true) (eqb-true n k same) (at_mark seen n) ∙ or_true (is_among came k)
        ∙ ap (λ b. is_among came k || b) (sym same)
    now_there k close false other =
        past_mark seen n k (apart n k other) ∙ held.there k close ∙ or_false (is_among came k) ∙ ap (λ b. is_among came k || b) (sym other)

-- whether one of them was seen
pub unseen_there : (seen : List Bool) (i : ℕ) (d : Bool) → i < length seen → get_or seen i d ≡ false → is_marked seen i ≡ false
unseen_there [] i d inside is = absurd (omega (arith, inside))
unseen_there (b ∷ seen) zero d inside is = is
unseen_there (b ∷ seen) (suc i) d inside is = unseen_there seen i d (omega (arith, inside)) is

-- nothing came, or something behind that
pub nothing_came : (seen : List Bool) (order : List ℕ) → Visits seen order seen order []
nothing_came seen order count came held = subst (λ c. AreVisited count c seen order) (sym (append-nil came)) held

pub more_came : {seen : _} {order : _} {then_seen : _} {then_order : _} {now_seen : _} {now_order : _} (more rest : List ℕ)
    → Visits seen order then_seen then_order more → Visits then_seen then_order now_seen now_order rest → Visits seen order now_seen now_order (more ++ rest)
more_came {now_seen = now_seen} {now_order = now_order} more rest first next count came held =
    subst (λ c. AreVisited count c now_seen now_order) (append_assoc came more rest) (next count (came ++ more) (first count came held))

none_seen : (count k : ℕ) → k < count → is_marked (replicate count false) k ≡ false
none_seen zero k near = absurd (omega (arith, near))
none_seen (suc count) zero near = refl
none_seen (suc count) (suc k) near = none_seen count k (omega (arith, near))

count_none : (count : ℕ) → count_of_unmarked (replicate count false) ≡ count
count_none zero = refl
count_none (suc count) = omega (arith, count_none count)

-- nothing at first
pub none_visited : (count : ℕ) (seen : List Bool) → seen ≡ replicate count false → AreVisited count [] seen []
none_visited count seen none = rw (none) (record {
  long = length-replicate count false;
  each_once = refl;
  there = λ k near. none_seen count k near;
  fit = omega (arith, count_none count);
})
