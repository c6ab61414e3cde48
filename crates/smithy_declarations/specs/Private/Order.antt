-- Positions in the order of the names that stand at them.
use Rattle.std.specs.Prelude.{◌≡◌, ◌<◌, ◌≤◌, ◌==◌, ℕ, List, [], length, Bool, true, false, slice_index, slice_index_or}
use Rattle.std.specs.List.{list_any}
use Rattle.std.specs.Ordering.{is_lt, nat_cmp}
use Rattle.std.specs.Cmp.Lexicographic.{slice_cmp}

-- in byte order
abbrev pub is_before : List ℕ → List ℕ → Bool
is_before a b = is_lt (slice_cmp nat_cmp a b)

-- the name at the i-th of the positions
abbrev pub name_in : List (List ℕ) → List ℕ → ℕ → List ℕ
name_in names order i = slice_index_or names (slice_index order i) []

-- each position stands in the order; the names rise along it, and the positions of equal names do
pub record IsOrderOf (names : List (List ℕ)) (order : List ℕ) : Type 0 where
  pub within : (i : ℕ) → i < length order → slice_index order i < length names
  pub complete : (k : ℕ) → k < length names → list_any (λ position. position == k) order ≡ true
  pub rising : (i j : ℕ) → i ≤ j → j < length order → is_before (name_in names order j) (name_in names order i) ≡ false
  pub ties : (i j : ℕ) → i ≤ j → j < length order → name_in names order i ≡ name_in names order j
      → slice_index order i ≤ slice_index order j
