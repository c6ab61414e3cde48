-- The tests of declarations, as the program makes them.
use Rattle.std.proofs.Common.{◌≡◌, ℕ, ◌+◌, ◌<◌, ◌≤◌, List, [], map, length, take, drop, get_or, Bool, true, false, not, cond, ltb, Option, Some, None, refl, sym, ap, ◌∙◌, arith, inl, inr}
use Rattle.std.specs.Str.{bytes_eq}
use Rattle.std.specs.Option.{option_map, is_some}
use Rattle.std.specs.List.{list_any, position, find, enumerate_from}
use Rattle.std.proofs.lemmas.Bool.{cases_Bool}
use Rattle.std.proofs.lemmas.Bool.Decides.{nat_tests}
use Rattle.std.proofs.lemmas.List.{at_drop_more, length-map, length-take, get_or-map, get_or-take, get_or_default, take-map}
use Rattle.std.proofs.lemmas.List.Folds.{list_any_at, list_any_none, Any-from_list_any}
use Rattle.smithy_declarations.specs.Decl.{Decl}
use Rattle.smithy_declarations.specs.Acceptance.{is_declared}
use Rattle.smithy_declarations.proofs.Positions.{position_missing}
use Rattle.smithy_declarations.proofs.OrderLemmas.{first_of, false_if, not_both, le_or_lt, some_same}
use Rattle.smithy_declarations.proofs.TableTextLemmas.{list_any-map}

option_map-cond : (b : Bool) (p : ℕ × Decl) (o : Option (ℕ × Decl)) → option_map (λ (q : ℕ × Decl). q.0) (cond b (Some p) o) ≡ cond b (Some p.0) (option_map (λ (q : ℕ × Decl). q.0) o)
option_map-cond true p o = refl
option_map-cond false p o = refl

-- ---- whether a position is found

pub any_is_position : (p : List ℕ → Bool) (names : List (List ℕ)) → list_any p names ≡ is_some (position p names)
any_is_position p names = elim (cases_Bool (list_any p names)) [
  | inl has ↦
      let any = Any-from_list_any p names has in
      let first = first_of p names any.0 any.1 any.2 (ap p any.3 ∙ any.4) in
      has ∙ sym (ap is_some first.2)
  | inr lacks ↦ lacks ∙ sym (ap is_some (position_missing p names [] (λ k h. false_if (p (get_or names k [])) (λ passes. not_both (list_any p names) (list_any_at p names k [] h passes) lacks))))
]

-- what a position that is found, or isn't, says of the names
position_gives : (p : List ℕ → Bool) (names : List (List ℕ)) (m : ℕ) → position p names ≡ Some m
    → (m < length names) × (p (get_or names m []) ≡ true) × ((i : ℕ) → i < m → p (get_or names i []) ≡ false)
position_gives p names m found = elim (cases_Bool (list_any p names)) [
  | inl has ↦
      let any = Any-from_list_any p names has in
      let first = first_of p names any.0 [] any.2 (ap p (get_or_default names any.0 [] any.1 any.2 ∙ any.3) ∙ any.4) in
      let same = some_same first.0 m (sym first.2 ∙ found) in
      (omega (arith, first.1, same, any.2), ap (λ k. p (get_or names k [])) (sym same) ∙ first.3, λ i h. first.4 i (omega (arith, same)))
  | inr lacks ↦ absurd (not_both (list_any p names) (any_is_position p names ∙ ap is_some found) lacks)
]

missing_gives : (p : List ℕ → Bool) (names : List (List ℕ)) → position p names ≡ None → (i : ℕ) → i < length names → p (get_or names i []) ≡ false
missing_gives p names missing i within =
    false_if (p (get_or names i [])) (λ passes. not_both (list_any p names) (list_any_at p names i [] within passes) (any_is_position p names ∙ ap is_some missing))

lt_true : (m k : ℕ) → m < k → ltb m k ≡ true
lt_true m k h = grind (arith, nat_tests)

lt_false : (m k : ℕ) → k ≤ m → ltb m k ≡ false
lt_false m k h = grind (arith, nat_tests)

-- none of the first k passes
none_in_take : (p : List ℕ → Bool) (names : List (List ℕ)) (k : ℕ) → ((i : ℕ) → i < k → i < length names → p (get_or names i []) ≡ false) → list_any p (take k names) ≡ false
none_in_take p names k none =
    list_any_none p (take k names) (λ i d h.
    let below : i < k = omega (arith, length-take k names) in
    let within : i < length names = omega (arith, length-take k names) in
    ap p (get_or_default (take k names) i d [] h ∙ get_or-take k names i [] below) ∙ none i below within)

pub declared_before : (p : List ℕ → Bool) (names : List (List ℕ)) (k m : ℕ) → Some m ≡ position p names → list_any p (take k names) ≡ ltb m k
declared_before p names k m found =
    let gives = position_gives p names m (sym found) in
    elim (le_or_lt k m) [
      | inl late ↦ none_in_take p names k (λ i h w. gives.2 i (omega arith)) ∙ sym (lt_false m k late)
      | inr early ↦
          list_any_at p (take k names) m [] (omega (arith, length-take k names, gives.0)) (ap p (get_or-take k names m [] early) ∙ gives.1)
          ∙ sym (lt_true m k early)
    ]

pub not_declared_before : (p : List ℕ → Bool) (names : List (List ℕ)) (k : ℕ) → None ≡ position p names → list_any p (take k names) ≡ false
not_declared_before p names k missing = none_in_take p names k (λ i h w. missing_gives p names (sym missing) i w)

-- seen through the declarations of the first k
pub is_declared-take : {X : Type 0} (f : X → Decl) (xs : List X) (k : ℕ) (name : List ℕ)
    → is_declared (take k (map f xs)) name ≡ list_any (λ n. bytes_eq n name) (take k (map (λ x. (f x).name) xs))
is_declared-take f xs k name =
    ap (λ ds. is_declared ds name) (take-map f k xs) ∙ list_any-map (λ (d : Decl). bytes_eq d.name name) f (take k xs)
    ∙ sym (ap (list_any (λ n. bytes_eq n name)) (take-map (λ x. (f x).name) k xs) ∙ list_any-map (λ n. bytes_eq n name) (λ x. (f x).name) (take k xs))

-- a declaration of the name
pub declared_if : {X : Type 0} (f : X → Decl) (xs : List X) (name : List ℕ) (o : Option ℕ)
    → o ≡ position (λ n. bytes_eq n name) (map (λ x. (f x).name) xs) → is_declared (map f xs) name ≡ is_some o
declared_if f xs name o found =
    list_any-map (λ (d : Decl). bytes_eq d.name name) f xs ∙ sym (list_any-map (λ n. bytes_eq n name) (λ x. (f x).name) xs)
    ∙ any_is_position (λ n. bytes_eq n name) (map (λ x. (f x).name) xs) ∙ ap is_some (sym found)

-- ---- the first that fails

-- the answer from position i on
abbrev pub failing_from : List Decl → (ℕ → Decl → Bool) → ℕ → Option ℕ
failing_from ds test i = option_map (λ p. p.0) (find (λ (p : ℕ × Decl). test p.0 p.1) (enumerate_from (i + 1) (drop i ds)))

failing_at : {X : Type 0} (f : X → Decl) (xs : List X) (test : ℕ → Decl → Bool) (i : ℕ) (e : X) (b : Bool) → i < length xs → e ≡ get_or xs i e → b ≡ test (i + 1) (f e)
    → failing_from (map f xs) test i ≡ cond b (Some (i + 1)) (failing_from (map f xs) test (i + 1))
failing_at f xs test i e b within is here =
    at_drop_more (λ ds. option_map (λ p. p.0) (find (λ (p : ℕ × Decl). test p.0 p.1) (enumerate_from (i + 1) ds))) (map f xs) i (f e) (omega (arith, length-map xs f))
    ∙ option_map-cond (test (i + 1) (get_or (map f xs) i (f e))) (i + 1, get_or (map f xs) i (f e)) (find (λ (p : ℕ × Decl). test p.0 p.1) (enumerate_from (i + 1 + 1) (drop (i + 1) (map f xs))))
    ∙ ap (λ d. cond (test (i + 1) d) (Some (i + 1)) (failing_from (map f xs) test (i + 1))) (get_or-map f xs i e (f e) within ∙ ap f (sym is))
    ∙ ap (λ b. cond b (Some (i + 1)) (failing_from (map f xs) test (i + 1))) (sym here)

pub fails_here : {X : Type 0} (f : X → Decl) (xs : List X) (test : ℕ → Decl → Bool) (i : ℕ) (e : X) (total : Option ℕ) → i < length xs
    → e ≡ get_or xs i e → true ≡ test (i + 1) (f e) → failing_from (map f xs) test i ≡ total → Some (i + 1) ≡ total
fails_here f xs test i e total within is here before = sym (failing_at f xs test i e true within is here) ∙ before

pub passes_here : {X : Type 0} (f : X → Decl) (xs : List X) (test : ℕ → Decl → Bool) (i : ℕ) (e : X) (total : Option ℕ) → i < length xs
    → e ≡ get_or xs i e → false ≡ test (i + 1) (f e) → failing_from (map f xs) test i ≡ total → failing_from (map f xs) test (i + 1) ≡ total
passes_here f xs test i e total within is here before = sym (failing_at f xs test i e false within is here) ∙ before

-- ---- members

-- what is seen of the member at a position
pub seen_at : {X Y Z : Type 0} (f : X → Y) (g : Y → Z) (xs : List X) (i : ℕ) (x : X) (z : Z) → i < length xs
    → g (f (get_or xs i x)) ≡ get_or (map g (map f xs)) i z
seen_at f g xs i x z within =
    sym (get_or-map g (map f xs) i (f x) z (omega (arith, within, length-map xs f)) ∙ ap g (get_or-map f xs i x (f x) within))

-- a name of it
pub named_at : {X Y : Type 0} (f : X → Y) (g : Y → List ℕ) (xs : List X) (i : ℕ) (x : X) → i < length (map g (map f xs))
    → g (f (get_or xs i x)) ≡ get_or (map g (map f xs)) i []
named_at f g xs i x within = seen_at f g xs i x [] (omega (arith, within, length-map (map f xs) g, length-map xs f))

pub not_not : (b : Bool) → not (not b) ≡ b
not_not true = refl
not_not false = refl
