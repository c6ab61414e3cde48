-- Trees that all stand in a store, one after another.
use Rattle.std.proofs.Common.{◌≡◌, ◌<◌, ◌+◌, ℕ, List, [], ◌∷◌, length, drop, get_or, refl, sym, subst, add-one, drop-cons}
use Rattle.smithy_value.specs.Tree.{Each}

-- where each tree stands, those of a list do
pub all_stand : {T : Type 0} (stands : T → Type 0) → ((x : T) → stands x) → (xs : List T) → Each stands xs
all_stand stands each [] = tt
all_stand stands each (x ∷ xs) = (each x, all_stand stands each xs)

-- the same trees, however they are kept
pub same_stand : {T : Type 0} (stands : T → Type 0) (xs ys : List T) → xs ≡ ys → Each stands ys → Each stands xs
same_stand stands xs ys same all = subst (Each stands) (sym same) all

-- the first of them, and those behind it
pub first_stands : {T : Type 0} (stands : T → Type 0) (xs : List T) (x : T) (ys : List T) → xs ≡ x ∷ ys → Each stands xs → stands x × Each stands ys
first_stands stands xs x ys is all = subst (Each stands) is all

-- the next element of a list, and those behind it
pub next_stands : {T : Type 0} (stands : T → Type 0) (xs : List T) (i : ℕ) (x : T) → i < length xs → x ≡ get_or xs i x → Each stands (drop i xs) → stands x × Each stands (drop (i + 1) xs)
next_stands stands xs i x within is all =
    let first : drop i xs ≡ x ∷ drop (i + 1) xs = rw (drop-cons xs i x within, ← is, add-one) refl in
    first_stands stands (drop i xs) x (drop (i + 1) xs) first all
