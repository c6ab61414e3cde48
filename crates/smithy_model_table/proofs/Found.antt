-- Names and places of ids.
use Rattle.std.proofs.Common.{◌≡◌, ◌≢◌, inl, inr, ◌<◌, ◌≤◌, ◌+◌, ◌∙◌, ℕ, zero, suc, List, [], ◌∷◌, ◌++◌, Bor, length, map, take, drop, take_all, get_or, slice_get, Option, Some, None, option_map, refl, sym, ap, subst, arith}
use Rattle.std.specs.Prelude.{Bool, true, false, ◌||◌, not, cond, MatchOption, IfSome, is_some}
use Rattle.std.specs.List.{list_any, filter, position_or_len, after_first}
use Rattle.std.proofs.lemmas.List.Elements.{filter-append}
use Rattle.std.proofs.lemmas.List.{take_more, map-append, length-append, take-append-drop}
use Rattle.std.proofs.lemmas.Option.{none-some}
use Rattle.smithy_model.specs.Model.{Shape, Operation, Model}
use Rattle.smithy_model.specs.Reading.{ids_of}
use Rattle.smithy_model_table.specs.Naming.{is_number_sign, name_in}
use Rattle.smithy_model_table.specs.Wanted.{is_named, IsOnly, IsIdNamed, IsOperationNamed, HasNotOne, operation_ids}

none_by : (b : Bool) (n m : ℕ) (rest : Bool) → (n ≡ m → rest ≡ false) → cond (not b) (1 + n) 0 ≡ suc m → (b || rest) ≡ false
none_by true n m rest behind is = absurd (omega (arith, is))
none_by false n m rest behind is = behind (omega (arith, is))

none_passes : {X : Type 0} (p : X → Bool) (xs : List X) → position_or_len p xs ≡ length xs → list_any p xs ≡ false
none_passes p [] is = refl
none_passes p (x ∷ xs) is = none_by (p x) (position_or_len p xs) (length xs) (list_any p xs) (none_passes p xs) is

one_by : (b : Bool) (n m : ℕ) (rest : Bool) → (n < m → rest ≡ true) → cond (not b) (1 + n) 0 < suc m → (b || rest) ≡ true
one_by true n m rest behind is = refl
one_by false n m rest behind is = behind (omega (arith, is))

one_passes : {X : Type 0} (p : X → Bool) (xs : List X) → position_or_len p xs < length xs → list_any p xs ≡ true
one_passes p [] is = absurd (omega (arith, is))
one_passes p (x ∷ xs) is = one_by (p x) (position_or_len p xs) (length xs) (list_any p xs) (one_passes p xs) is

-- the name behind the first `#`
pub name_behind : (id name : List ℕ) → position_or_len is_number_sign id < length id → name ≡ after_first is_number_sign id → name ≡ name_in id
name_behind id name there is = rw (one_passes is_number_sign id there) is

-- an id without one
pub whole_name : (id : List ℕ) → position_or_len is_number_sign id ≡ length id → id ≡ name_in id
whole_name id none = rw (none_passes is_number_sign id none) refl

id_at : (ids : List (Bor (List ℕ))) (i : ℕ) (w : Bor (List ℕ)) → i < length ids → w ≡ get_or ids i w
    → slice_get (map (λ (t : Bor (List ℕ)). t.now) ids) i ≡ Some w.now
id_at [] i w within is = absurd (omega (arith, within))
id_at (x ∷ ids) zero w within is = ap (λ (t : Bor (List ℕ)). Some t.now) (sym is)
id_at (x ∷ ids) (suc i) w within is = id_at ids i w (omega (arith, within)) is

-- the ids that are named so, up to one more
named_more : (name : List ℕ) (ids : List (Bor (List ℕ))) (i : ℕ) (w : Bor (List ℕ)) → i < length ids → w ≡ get_or ids i w
    → filter (is_named name) (map (λ (t : Bor (List ℕ)). t.now) (take (i + 1) ids))
    ≡ filter (is_named name) (map (λ (t : Bor (List ℕ)). t.now) (take i ids)) ++ filter (is_named name) (w.now ∷ [])
named_more name ids i w within is =
    rw (take_more ids i w within, sym is, map-append (λ (t : Bor (List ℕ)). t.now) (take i ids) (w ∷ []))
    (filter-append (is_named name) (map (λ (t : Bor (List ℕ)). t.now) (take i ids)) (w.now ∷ []))

-- the place of the only id so far that is named so
abbrev pub IsSoFar : List (List ℕ) → List (List ℕ) → List ℕ → Option ℕ → Type 0
IsSoFar ids front name found =
    MatchOption found (filter (is_named name) front ≡ [])
    (λ number. (id : List ℕ) × (slice_get ids number ≡ Some id) × (filter (is_named name) front ≡ id ∷ []))

same_so_far : (ids front more : List (List ℕ)) (name : List ℕ) (found : Option ℕ) → filter (is_named name) more ≡ filter (is_named name) front
    → IsSoFar ids front name found → IsSoFar ids more name found
same_so_far ids front more name None same so_far = same ∙ so_far
same_so_far ids front more name (Some number) same so_far = (so_far.0, so_far.1, same ∙ so_far.2)

nil_behind : {X : Type 0} (xs : List X) → xs ++ [] ≡ xs
nil_behind [] = refl
nil_behind (x ∷ xs) = ap (λ ys. x ∷ ys) (nil_behind xs)

-- one that isn't named so
pub passed_over : (name : List ℕ) (ids : List (Bor (List ℕ))) (i : ℕ) (w : Bor (List ℕ)) (found : Option ℕ) → i < length ids → w ≡ get_or ids i w
    → is_named name w.now ≡ false → IsSoFar (map (λ (t : Bor (List ℕ)). t.now) ids) (map (λ (t : Bor (List ℕ)). t.now) (take i ids)) name found
    → IsSoFar (map (λ (t : Bor (List ℕ)). t.now) ids) (map (λ (t : Bor (List ℕ)). t.now) (take (i + 1) ids)) name found
passed_over name ids i w found within is other so_far =
    same_so_far (map (λ (t : Bor (List ℕ)). t.now) ids) (map (λ (t : Bor (List ℕ)). t.now) (take i ids)) (map (λ (t : Bor (List ℕ)). t.now) (take (i + 1) ids)) name found
    (rw (named_more name ids i w within is, other) (nil_behind (filter (is_named name) (map (λ (t : Bor (List ℕ)). t.now) (take i ids))))) so_far

-- the first one
pub first_found : (name : List ℕ) (ids : List (Bor (List ℕ))) (i : ℕ) (w : Bor (List ℕ)) → i < length ids → w ≡ get_or ids i w
    → is_named name w.now ≡ true → filter (is_named name) (map (λ (t : Bor (List ℕ)). t.now) (take i ids)) ≡ []
    → IsSoFar (map (λ (t : Bor (List ℕ)). t.now) ids) (map (λ (t : Bor (List ℕ)). t.now) (take (i + 1) ids)) name (Some i)
first_found name ids i w within is one none =
    (w.now, id_at ids i w within is, rw (named_more name ids i w within is, none, one) refl)

longer : {X : Type 0} (p : X → Bool) (front rest : List X) → 2 ≤ length (filter p front) → length (filter p (front ++ rest)) ≢ 1
longer p front rest two = λ one. absurd (omega (arith, two, ap length (filter-append p front rest), length-append (filter p front) (filter p rest), one))

front_named : (name : List ℕ) (ids : List (Bor (List ℕ))) (i : ℕ) (w : Bor (List ℕ)) (id : List ℕ) → i < length ids → w ≡ get_or ids i w
    → is_named name w.now ≡ true → filter (is_named name) (map (λ (t : Bor (List ℕ)). t.now) (take i ids)) ≡ id ∷ []
    → 2 ≤ length (filter (is_named name) (map (λ (t : Bor (List ℕ)). t.now) (take (i + 1) ids)))
front_named name ids i w id within is one first = rw (named_more name ids i w within is, first, one) (omega (arith))

-- a second one
pub second_found : (name : List ℕ) (ids : List (Bor (List ℕ))) (i number : ℕ) (w : Bor (List ℕ)) → i < length ids → w ≡ get_or ids i w
    → is_named name w.now ≡ true → IsSoFar (map (λ (t : Bor (List ℕ)). t.now) ids) (map (λ (t : Bor (List ℕ)). t.now) (take i ids)) name (Some number)
    → HasNotOne (map (λ (t : Bor (List ℕ)). t.now) ids) name
second_found name ids i number w within is one so_far =
    subst (λ (all : List (Bor (List ℕ))). HasNotOne (map (λ (t : Bor (List ℕ)). t.now) all) name) (take-append-drop (i + 1) ids)
    (rw (map-append (λ (t : Bor (List ℕ)). t.now) (take (i + 1) ids) (drop (i + 1) ids))
    (longer (is_named name) (map (λ (t : Bor (List ℕ)). t.now) (take (i + 1) ids)) (map (λ (t : Bor (List ℕ)). t.now) (drop (i + 1) ids))
    (front_named name ids i w so_far.0 within is one so_far.2)))

-- all were looked at
pub only_found : (name : List ℕ) (ids : List (Bor (List ℕ))) (i number : ℕ) → length ids ≤ i
    → IsSoFar (map (λ (t : Bor (List ℕ)). t.now) ids) (map (λ (t : Bor (List ℕ)). t.now) (take i ids)) name (Some number)
    → IsOnly (map (λ (t : Bor (List ℕ)). t.now) ids) name number
only_found name ids i number all so_far =
    (so_far.0, so_far.1, subst (λ (xs : List (Bor (List ℕ))). filter (is_named name) (map (λ (t : Bor (List ℕ)). t.now) xs) ≡ so_far.0 ∷ []) (take_all i ids all) so_far.2)

pub none_found : (name : List ℕ) (ids : List (Bor (List ℕ))) (i : ℕ) → length ids ≤ i
    → filter (is_named name) (map (λ (t : Bor (List ℕ)). t.now) (take i ids)) ≡ [] → HasNotOne (map (λ (t : Bor (List ℕ)). t.now) ids) name
none_found name ids i all none =
    subst (λ (xs : List (Bor (List ℕ))). HasNotOne (map (λ (t : Bor (List ℕ)). t.now) xs) name) (take_all i ids all) (rw (none) (λ one. cc (one)))

same_at : (ids : List (Bor (List ℕ))) (i : ℕ) (d : Bor (List ℕ)) → i < length ids → get_or ids i d ≡ get_or ids i (get_or ids i d)
same_at [] i d within = absurd (omega (arith, within))
same_at (x ∷ ids) zero d within = refl
same_at (x ∷ ids) (suc i) d within = same_at ids i d (omega (arith, within))

-- one more that is named so, where another is
pub several : (name : List ℕ) (ids : List (Bor (List ℕ))) (i : ℕ) (d : Bor (List ℕ)) (found : Option ℕ) → i < length ids
    → is_named name (get_or ids i d).now ≡ true → is_some found ≡ true
    → IsSoFar (map (λ (t : Bor (List ℕ)). t.now) ids) (map (λ (t : Bor (List ℕ)). t.now) (take i ids)) name found
    → HasNotOne (map (λ (t : Bor (List ℕ)). t.now) ids) name
several name ids i d None within one some so_far = absurd (cc (some))
several name ids i d (Some number) within one some so_far = second_found name ids i number (get_or ids i d) within (same_at ids i d within) one so_far

-- the first that is named so
pub found_first : (name : List ℕ) (ids : List (Bor (List ℕ))) (i : ℕ) (d : Bor (List ℕ)) (found : Option ℕ) → i < length ids
    → is_named name (get_or ids i d).now ≡ true → is_some found ≡ false
    → IsSoFar (map (λ (t : Bor (List ℕ)). t.now) ids) (map (λ (t : Bor (List ℕ)). t.now) (take i ids)) name found
    → IsSoFar (map (λ (t : Bor (List ℕ)). t.now) ids) (map (λ (t : Bor (List ℕ)). t.now) (take (i + 1) ids)) name (Some i)
found_first name ids i d None within one none so_far = first_found name ids i (get_or ids i d) within (same_at ids i d within) one so_far
found_first name ids i d (Some number) within one none so_far = absurd (cc (none))

there_by : {X : Type 0} (f : X → List ℕ) (xs : List X) (n : ℕ) (id : List ℕ) → slice_get (map f xs) n ≡ Some id → slice_get xs n ≡ None → ⊥
there_by f [] n id at none = none-some id at
there_by f (x ∷ xs) zero id at none = none-some x (sym none)
there_by f (x ∷ xs) (suc n) id at none = there_by f xs n id at none

-- what was found by its id or its name is there
pub shape_there : (m : Model) (name : List ℕ) (number : ℕ) → IsIdNamed (ids_of m.shapes) name number → slice_get m.shapes number ≡ None → ⊥
shape_there m name number (inl at) none = there_by (λ (s : Shape). s.id) m.shapes number name at none
shape_there m name number (inr (id, at, only)) none = there_by (λ (s : Shape). s.id) m.shapes number id at none

pub operation_there : (m : Model) (name : List ℕ) (number : ℕ) → IsOnly (operation_ids m) name number → slice_get m.operations number ≡ None → ⊥
operation_there m name number (id, at, only) none = there_by (λ (o : Operation). o.id) m.operations number id at none

pub operation_found : {W : Type 0} (v : W → Operation) (m : Model) (name : List ℕ) (number : ℕ) → IsOnly (operation_ids m) name number → (found : Option W)
    → option_map v found ≡ slice_get m.operations number → IfSome found (λ w. IsOperationNamed m name (v w))
operation_found v m name number only None is = tt
operation_found v m name number only (Some w) is = (number, only, sym is)
