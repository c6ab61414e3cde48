-- Shapes that are reached, turn by turn.
use Rattle.std.proofs.Common.{◌≡◌, ◌<◌, ◌≤◌, ◌∙◌, ◌+◌, ℕ, zero, suc, List, [], ◌∷◌, ◌++◌, length, length-append, map, take, take_all, get_or, refl, sym, ap, subst, arith, append_assoc, append-nil}
use Rattle.std.specs.Prelude.{Bool, true, false, not, ◌&&◌, nat_lt, flat_map}
use Rattle.std.specs.List.{filter, list_all}
use Rattle.std.proofs.lemmas.List.{take_more, take-append-le, map-append}
use Rattle.std.proofs.lemmas.List.Elements.{filter-append}
use Rattle.std.proofs.lemmas.List.Folds.{list_all-append}
use Rattle.std.proofs.lemmas.Grind.{flat_map-append}
use Rattle.smithy_model.specs.Model.{Member, Model}
use Rattle.smithy_model_table.specs.Bindings.{Bindings}
use Rattle.smithy_model_table.specs.Leaving.{is_left_out}
use Rattle.smithy_model_table.specs.Reaching.{held_targets, targets_at, first_of_each, within, HoldsAlong, AreReached}
use Rattle.smithy_model_table.specs.Visiting.{AreVisited, Visits}
use Rattle.smithy_model_table.proofs.Visited.{grows, all_visited, more_came}

-- one number more of a list
pub number_more : {seen : _} {order : _} {then_seen : _} {then_order : _} {now_seen : _} {now_order : _} (numbers : List ℕ) (i d : ℕ) → i < length numbers
    → Visits seen order then_seen then_order (take i numbers) → Visits then_seen then_order now_seen now_order (get_or numbers i d ∷ [])
    → Visits seen order now_seen now_order (take (i + 1) numbers)
number_more {now_seen = now_seen} {now_order = now_order} numbers i d inside so_far one = λ count came held.
    subst (λ ns. AreVisited count (came ++ ns) now_seen now_order) (sym (take_more numbers i d inside))
    (more_came (take i numbers) (get_or numbers i d ∷ []) so_far one count came held)

held_more : {W : Type 0} (marks : List Bool) (counting : Bindings) (v : W → Member) (ws : List W) (i : ℕ) (d : W) → i < length ws
    → held_targets marks counting (map v (take (i + 1) ws))
    ≡ held_targets marks counting (map v (take i ws)) ++ held_targets marks counting (v (get_or ws i d) ∷ [])
held_more marks counting v ws i d inside =
    rw (
      take_more ws i d inside,
      map-append v (take i ws) (get_or ws i d ∷ []),
      filter-append (λ (x : Member). not (is_left_out marks counting x)) (map v (take i ws)) (v (get_or ws i d) ∷ []),
    )
    (map-append (λ (x : Member). x.number) (filter (λ (x : Member). not (is_left_out marks counting x)) (map v (take i ws)))
    (filter (λ (x : Member). not (is_left_out marks counting x)) (v (get_or ws i d) ∷ [])))

-- a member that is left out
pub member_left : {W : Type 0} {seen : _} {order : _} {now_seen : _} {now_order : _} (marks : List Bool) (counting : Bindings) (v : W → Member) (ws : List W) (i : ℕ) (d : W)
    → i < length ws → is_left_out marks counting (v (get_or ws i d)) ≡ true → Visits seen order now_seen now_order (held_targets marks counting (map v (take i ws)))
    → Visits seen order now_seen now_order (held_targets marks counting (map v (take (i + 1) ws)))
member_left {now_seen = now_seen} {now_order = now_order} marks counting v ws i d inside left so_far = λ count came held.
    subst (λ ns. AreVisited count (came ++ ns) now_seen now_order)
    (sym (held_more marks counting v ws i d inside ∙ nothing marks counting (v (get_or ws i d)) (held_targets marks counting (map v (take i ws))) left))
    (so_far count came held)
  where
    nothing : (marks : List Bool) (counting : Bindings) (x : Member) (front : List ℕ) → is_left_out marks counting x ≡ true
        → front ++ held_targets marks counting (x ∷ []) ≡ front
    nothing marks counting x front is = rw (is) (append-nil front)

-- one that isn't
pub member_held : {W : Type 0} {seen : _} {order : _} {then_seen : _} {then_order : _} {now_seen : _} {now_order : _} (marks : List Bool) (counting : Bindings) (v : W → Member) (ws : List W) (i : ℕ) (d : W)
    → i < length ws → is_left_out marks counting (v (get_or ws i d)) ≡ false → Visits seen order then_seen then_order (held_targets marks counting (map v (take i ws)))
    → Visits then_seen then_order now_seen now_order ((v (get_or ws i d)).number ∷ [])
    → Visits seen order now_seen now_order (held_targets marks counting (map v (take (i + 1) ws)))
member_held {now_seen = now_seen} {now_order = now_order} marks counting v ws i d inside held_is so_far one = λ count came held.
    subst (λ ns. AreVisited count (came ++ ns) now_seen now_order)
    (sym (held_more marks counting v ws i d inside ∙ its_own marks counting (v (get_or ws i d)) (held_targets marks counting (map v (take i ws))) held_is))
    (more_came (held_targets marks counting (map v (take i ws))) ((v (get_or ws i d)).number ∷ []) so_far one count came held)
  where
    its_own : (marks : List Bool) (counting : Bindings) (x : Member) (front : List ℕ) → is_left_out marks counting x ≡ false
        → front ++ held_targets marks counting (x ∷ []) ≡ front ++ x.number ∷ []
    its_own marks counting x front is = rw (is) refl

-- what came so far: the roots, and what the first shapes lead to
abbrev pub came_by : Model → List Bool → List ℕ → ℕ → List ℕ → List ℕ
came_by m marks roots turn order = roots ++ flat_map (targets_at m marks) (take turn order)

behind : {count : _} {came : _} {seen : _} {order : _} {now_seen : _} {now_order : _} (more : List ℕ) → AreVisited count came seen order
    → AreVisited count (came ++ more) now_seen now_order → (rest : List ℕ) × (now_order ≡ order ++ rest)
behind {count} {came} {seen} {order} more held now =
    let step = grows (within count came) (within count more) in
    (step.0, now.each_once ∙ ap first_of_each (filter-append (λ n. nat_lt n count) came more) ∙ step.1 ∙ ap (λ l. l ++ step.0) (sym held.each_once))

joined : (f : ℕ → List ℕ) (roots front : List ℕ) (n : ℕ) → (roots ++ flat_map f front) ++ f n ≡ roots ++ flat_map f (front ++ n ∷ [])
joined f roots front n =
    append_assoc roots (flat_map f front) (f n)
    ∙ ap (λ l. roots ++ l) (sym (flat_map-append f front (n ∷ []) ∙ ap (λ l. flat_map f front ++ l) (append-nil (f n))))

-- what came behind one turn more
pub came_more : {seen : _} {now_seen : _} (m : Model) (marks : List Bool) (roots : List ℕ) (turn d : ℕ) (order now_order : List ℕ) → turn < length order
    → AreVisited (length m.shapes) (came_by m marks roots turn order) seen order
    → AreVisited (length m.shapes) (came_by m marks roots turn order ++ targets_at m marks (get_or order turn d)) now_seen now_order
    → (turn < length now_order) × (came_by m marks roots turn order ++ targets_at m marks (get_or order turn d) ≡ came_by m marks roots (turn + 1) now_order)
came_more m marks roots turn d order now_order inside held now =
    let step = behind (targets_at m marks (get_or order turn d)) held now in (
      longer order step.0 now_order step.1 inside,
      joined (targets_at m marks) roots (take turn order) (get_or order turn d)
          ∙ ap (λ l. roots ++ flat_map (targets_at m marks) l)
          (sym (ap (take (turn + 1)) step.1 ∙ take-append-le (turn + 1) order step.0 (omega (arith, inside)) ∙ take_more order turn d inside)),
    )
  where
    longer : (order rest now : List ℕ) → now ≡ order ++ rest → turn < length order → turn < length now
    longer order rest now is inside = rw (is) (omega (arith, inside, length-append order rest))

all_at : (p : ℕ → Bool) (xs : List ℕ) (i d : ℕ) → list_all p xs ≡ true → i < length xs → p (get_or xs i d) ≡ true
all_at p [] i d all inside = absurd (omega (arith, inside))
all_at p (x ∷ xs) zero d all inside = first (p x) (list_all p xs) all
  where
    first : (a b : Bool) → (a && b) ≡ true → a ≡ true
    first true b is = refl
    first false b is = is
all_at p (x ∷ xs) (suc i) d all inside = all_at p xs i d (next (p x) (list_all p xs) all) (omega (arith, inside))
  where
    next : (a b : Bool) → (a && b) ≡ true → b ≡ true
    next true b is = is
    next false b is = cc (is)

-- what holds along holds of what one shape more leads to
pub along_more : {seen : _} {order : _} (m : Model) (marks : List Bool) (roots : List ℕ) (turn d : ℕ) (test : ℕ → Bool) → turn < length order
    → AreVisited (length m.shapes) (came_by m marks roots turn order) seen order → HoldsAlong m marks roots test
    → list_all test (came_by m marks roots turn order) ≡ true
    → list_all test (came_by m marks roots turn order ++ targets_at m marks (get_or order turn d)) ≡ true
along_more {order = order} m marks roots turn d test inside held along so_far =
    rw (list_all-append test (came_by m marks roots turn order) (targets_at m marks (get_or order turn d)), so_far)
    (along.1 (get_or order turn d) (all_at test order turn d (all_visited test held so_far) inside))

-- the last turn
pub all_turned : {seen : _} {order : _} (m : Model) (marks : List Bool) (roots : List ℕ) (turn : ℕ) → length order ≤ turn
    → AreVisited (length m.shapes) (came_by m marks roots turn order) seen order
    → ((test : ℕ → Bool) → HoldsAlong m marks roots test → list_all test (came_by m marks roots turn order) ≡ true)
    → AreReached m marks roots order
all_turned {order = order} m marks roots turn far held along = record {
  in_order = held.each_once
      ∙ ap (λ l. first_of_each (within (length m.shapes) (roots ++ flat_map (targets_at m marks) l))) (take_all turn order far);
  fewest = λ test is. all_visited test held (along test is);
}
