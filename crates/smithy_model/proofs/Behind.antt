-- One more shape behind others.
use Rattle.std.proofs.Common.{◌≡◌, ◌<◌, ◌+◌, ℕ, List, [], ◌∷◌, ◌++◌, length, map, take, get_or, append_assoc}
use Rattle.std.proofs.lemmas.List.{take_more, map-append}

-- one more of a list that is gone through, behind what stood before
pub one_behind : {W Y X : Type 0} (f : Y → X) (v : W → Y) (ws : List W) (i : ℕ) (d : W) (before so_far : List X) (x : X) → i < length ws
    → so_far ≡ before ++ map f (map v (take i ws)) → x ≡ f (v (get_or ws i d)) → so_far ++ x ∷ [] ≡ before ++ map f (map v (take (i + 1) ws))
one_behind f v ws i d before so_far x within is one =
    rw (take_more ws i d within, map-append v (take i ws) (get_or ws i d ∷ []), map-append f (map v (take i ws)) (v (get_or ws i d) ∷ []), is, one)
    (append_assoc before (map f (map v (take i ws))) (f (v (get_or ws i d)) ∷ []))
