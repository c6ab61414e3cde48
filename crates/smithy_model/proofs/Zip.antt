-- Elements of a list that are changed one after the other, and pairs of two lists.
use Rattle.std.proofs.Common.{◌≡◌, ◌<◌, ◌≤◌, ◌+◌, ◌∙◌, ℕ, zero, suc, List, [], ◌∷◌, ◌++◌, Bor, Ok, Err, length, map, take, set, get_or, refl, sym, ap, subst, arith}
use Rattle.std.specs.Prelude.{Bool}
use Rattle.std.specs.List.{list_any, AllZip}
use Rattle.std.proofs.lemmas.List.{take_more, map-append}
use Rattle.smithy_model.specs.Faults.{IsMissing}
use Rattle.smithy_model.specs.Linking.{LinksAll}
use Rattle.smithy_model.proofs.AllSome.{any_at}

-- so many have become what R asks of them, and the others are as they were
abbrev pub AreChanged : {A B : Type 0} (R : B → B → Type 0) (v : A → B) → ℕ → List A → List A → Type 0
AreChanged R v zero olds news = olds ≡ news
AreChanged R v (suc i) [] [] = Unit {0}
AreChanged R v (suc i) [] (new ∷ news) = ⊥
AreChanged R v (suc i) (old ∷ olds) [] = ⊥
AreChanged R v (suc i) (old ∷ olds) (new ∷ news) = R (v old) (v new) × AreChanged R v i olds news

pub as_long : {A B : Type 0} (R : B → B → Type 0) (v : A → B) (i : ℕ) (olds news : List A) → AreChanged R v i olds news → length news ≡ length olds
as_long R v zero olds news same = ap length (sym same)
as_long R v (suc i) [] [] changed = refl
as_long R v (suc i) [] (new ∷ news) changed = absurd changed
as_long R v (suc i) (old ∷ olds) [] changed = absurd changed
as_long R v (suc i) (old ∷ olds) (new ∷ news) changed = ap suc (as_long R v i olds news changed.1)

changed_behind : {A B : Type 0} (R : B → B → Type 0) (v : A → B) (i : ℕ) (olds news : List A) (u new : A) → AreChanged R v i olds news → i < length news
    → u ≡ get_or news i u → R (v u) (v new) → AreChanged R v (suc i) olds (set news i new)
changed_behind R v zero olds [] u new same within is one = absurd (omega (arith, within))
changed_behind R v zero olds (x ∷ xs) u new same within is one =
    subst (λ os. AreChanged R v 1 os (new ∷ xs)) (sym same) (subst (λ w. R (v w) (v new)) is one, refl)
changed_behind R v (suc i) [] [] u new changed within is one = absurd (omega (arith, within))
changed_behind R v (suc i) [] (y ∷ news) u new changed within is one = absurd changed
changed_behind R v (suc i) (old ∷ olds) [] u new changed within is one = absurd changed
changed_behind R v (suc i) (old ∷ olds) (y ∷ news) u new changed within is one =
    (changed.0, changed_behind R v i olds news u new changed.1 (omega (arith, within)) is one)

-- one more is changed
pub one_changed : {A B : Type 0} (R : B → B → Type 0) (v : A → B) (i : ℕ) (olds news : List A) (u new : A) → AreChanged R v i olds news → i < length news
    → u ≡ get_or news i u → R (v u) (v new) → AreChanged R v (i + 1) olds (set news i new)
one_changed R v i olds news u new changed within is one =
    let next : suc i ≡ i + 1 = omega arith in
    subst (λ n. AreChanged R v n olds (set news i new)) next (changed_behind R v i olds news u new changed within is one)

-- in the end all are
all_changed : {A B : Type 0} (R : B → B → Type 0) (v : A → B) (i : ℕ) (olds news : List A) → AreChanged R v i olds news → length olds ≤ i
    → AllZip R (map v olds) (map v news)
all_changed R v zero [] news same enough = subst (λ ns. AllZip R [] (map v ns)) same tt
all_changed R v zero (old ∷ olds) news same enough = absurd (omega (arith, enough))
all_changed R v (suc i) [] [] changed enough = tt
all_changed R v (suc i) [] (new ∷ news) changed enough = absurd changed
all_changed R v (suc i) (old ∷ olds) [] changed enough = absurd changed
all_changed R v (suc i) (old ∷ olds) (new ∷ news) changed enough = (changed.0, all_changed R v i olds news changed.1 (omega (arith, enough)))

still_there : {A B : Type 0} (R : B → B → Type 0) (v : A → B) (i : ℕ) (olds news : List A) (u : A) → AreChanged R v i olds news → i < length news
    → u ≡ get_or news i u → u ≡ get_or olds i u
still_there R v zero olds news u same within is = is ∙ ap (λ xs. get_or xs 0 u) (sym same)
still_there R v (suc i) [] [] u changed within is = absurd (omega (arith, within))
still_there R v (suc i) [] (y ∷ news) u changed within is = absurd changed
still_there R v (suc i) (old ∷ olds) [] u changed within is = absurd changed
still_there R v (suc i) (old ∷ olds) (y ∷ news) u changed within is = still_there R v i olds news u changed.1 (omega (arith, within)) is

-- a target that the next one misses was missed at first
missing_there : {A B : Type 0} (ids : List (List ℕ)) (test : List ℕ → B → Bool) (R : B → B → Type 0) (v : A → B) (i : ℕ) (olds news : List A) (u : A)
    (id : List ℕ) → AreChanged R v i olds news → i < length news → u ≡ get_or news i u → IsMissing ids (λ other. test other (v u)) id
    → IsMissing ids (λ other. list_any (test other) (map v olds)) id
missing_there ids test R v i olds news u id changed within is one =
    let long = as_long R v i olds news changed in
    (any_at (test id) v olds i u (omega (arith, within, long)) (still_there R v i olds news u changed within is) one.0, one.1)

-- all have their numbers
pub all_linked : {A B : Type 0} (ids : List (List ℕ)) (R : List (List ℕ) → B → B → Type 0) (test : List ℕ → B → Bool) (v : A → B) (i : ℕ) (olds news : List A)
    → AreChanged (R ids) v i olds news → length olds ≤ i → LinksAll ids R test (map v olds) (map v news) (Ok tt)
all_linked ids R test v i olds news changed enough = record { linked = all_changed (R ids) v i olds news changed enough; refused = tt }

-- one has a target that is missing
pub one_missing : {A B : Type 0} {behind : List B} (ids : List (List ℕ)) (R : List (List ℕ) → B → B → Type 0) (test : List ℕ → B → Bool) (v : A → B) (i : ℕ) (olds news : List A) (u : A)
    (id : Bor (List ℕ)) → AreChanged (R ids) v i olds news → i < length news → u ≡ get_or news i u
    → IsMissing ids (λ other. test other (v u)) id.now → LinksAll ids R test (map v olds) behind (Err id)
one_missing ids R test v i olds news u id changed within is one =
    record { linked = tt; refused = missing_there ids test (R ids) v i olds news u id.now changed within is one }

zip_more : {A B : Type 0} (R : A → B → Type 0) (xs : List A) (ys : List B) (x : A) (y : B) → AllZip R xs ys → R x y → AllZip R (xs ++ x ∷ []) (ys ++ y ∷ [])
zip_more R [] [] x y all one = (one, tt)
zip_more R [] (w ∷ ys) x y all one = absurd all
zip_more R (v ∷ xs) [] x y all one = absurd all
zip_more R (v ∷ xs) (w ∷ ys) x y all one = (all.0, zip_more R xs ys x y all.1 one)

-- one more pair of two lists that are gone through
pub zip_next : {W A B : Type 0} (R : A → B → Type 0) (v : W → A) (ws : List W) (i : ℕ) (d : W) (ys : List B) (y : B) → i < length ws
    → AllZip R (map v (take i ws)) ys → R (v (get_or ws i d)) y → AllZip R (map v (take (i + 1) ws)) (ys ++ y ∷ [])
zip_next R v ws i d ys y within all one =
    rw (take_more ws i d within, map-append v (take i ws) (get_or ws i d ∷ [])) (zip_more R (map v (take i ws)) ys (v (get_or ws i d)) y all one)
