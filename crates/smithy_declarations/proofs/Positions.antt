-- The first position that passes a test.
use Rattle.std.proofs.Common.{◌≡◌, ◌<◌, ℕ, List, length, get_or, Bool, true, false, cond, ltb, refl, ap, arith, Option, Some, None, map, [], ◌∷◌, not, ◌+◌, sym, ◌∙◌}
use Rattle.std.proofs.lemmas.List.{length-map}
use Rattle.std.specs.Str.{bytes_eq}
use Rattle.std.specs.List.{position, position_or_len}
use Rattle.std.proofs.lemmas.List.Sums.{position_or_len_is}
use Rattle.std.proofs.lemmas.Bool.Decides.{nat_tests}

at_length : (i n : ℕ) (j : ℕ) → i < n → j ≡ i → cond (ltb j n) (Some j) None ≡ Some i
at_length i n j h e = grind (arith, nat_tests)

past_length : (n : ℕ) (j : ℕ) → j ≡ n → cond (ltb j n) (Some j) None ≡ None
past_length n j e = grind (arith, nat_tests)

-- the position that passes where none before it does
pub position_found : {X : Type 0} (p : X → Bool) (xs : List X) (i : ℕ) (d : X) → i < length xs → ((k : ℕ) → k < i → p (get_or xs k d) ≡ false) → p (get_or xs i d) ≡ true
    → position p xs ≡ Some i
position_found p xs i d within before here =
    at_length i (length xs) (position_or_len p xs) within (position_or_len_is p xs i d (omega arith) before (λ _. here))

-- none where none passes
pub position_missing : {X : Type 0} (p : X → Bool) (xs : List X) (d : X) → ((k : ℕ) → k < length xs → p (get_or xs k d) ≡ false) → position p xs ≡ None
position_missing p xs d none =
    past_length (length xs) (position_or_len p xs) (position_or_len_is p xs (length xs) d (omega arith) none (λ h. absurd (omega arith)))

position_or_len-map : {X Y : Type 0} (f : X → Y) (p : Y → Bool) (xs : List X) → position_or_len p (map f xs) ≡ position_or_len (λ x. p (f x)) xs
position_or_len-map f p [] = refl
position_or_len-map f p (x ∷ xs) = ap (λ n. cond (not (p (f x))) (1 + n) 0) (position_or_len-map f p xs)

pub position-map : {X Y : Type 0} (f : X → Y) (p : Y → Bool) (xs : List X) → position p (map f xs) ≡ position (λ x. p (f x)) xs
position-map f p xs = simp (position_or_len-map f p xs, length-map)

-- where the names of things are searched through another view of them
pub position-seen : {X Y : Type 0} (view : X → Y) (name_of : Y → List ℕ) (xs : List X) (ys : List Y) (key : List ℕ) (o : Option ℕ)
    → map view xs ≡ ys → o ≡ position (λ n. bytes_eq n key) (map (λ x. name_of (view x)) xs) → position (λ y. bytes_eq (name_of y) key) ys ≡ o
position-seen view name_of xs ys key o seen found =
    rw (← seen) (position-map view (λ y. bytes_eq (name_of y) key) xs ∙ sym (position-map (λ x. name_of (view x)) (λ n. bytes_eq n key) xs) ∙ sym found)
