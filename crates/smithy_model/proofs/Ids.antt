-- Where an id stands.
use Rattle.std.proofs.Common.{◌≡◌, ◌<◌, ℕ, zero, suc, List, [], ◌∷◌, Bor, length, map, get_or, slice_get, bytes_eq, true, Some, refl, ap, arith}
use Rattle.std.proofs.lemmas.Slice.Eq.{bytes_eq-Decides}

pub found_at : (ids : List (Bor (List ℕ))) (i : ℕ) (d : Bor (List ℕ)) (id : List ℕ) → i < length ids → bytes_eq (get_or ids i d).now id ≡ true
    → slice_get (map (λ (t : Bor (List ℕ)). t.now) ids) i ≡ Some id
found_at [] i d id within same = absurd (omega (arith, within))
found_at (x ∷ ids) zero d id within same = ap Some ((bytes_eq-Decides x.now id).0 same)
found_at (x ∷ ids) (suc i) d id within same = found_at ids i d id (omega (arith, within)) same

pub same_id : (id : List ℕ) → bytes_eq id id ≡ true
same_id id = (bytes_eq-Decides id id).1 refl
