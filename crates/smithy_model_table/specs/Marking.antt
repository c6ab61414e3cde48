-- Marks that are made one after the other.
use Rattle.std.specs.Prelude.{◌≡◌, ◌≤◌, ◌+◌, ℕ, List, [], ◌∷◌, length, Bool, true, Some, if◌then◌else◌, slice_get}
use Rattle.smithy_model.specs.Model.{Shape, Model}
use Rattle.smithy_model_table.specs.Leaving.{is_marked, is_uncarried, IsNoFurther}

-- each mark follows from the marks
abbrev pub AreSupported : Model → List Bool → Type 0
AreSupported m marks =
    (number : ℕ) (s : Shape) → slice_get m.shapes number ≡ Some s → is_marked marks number ≡ true → is_uncarried marks s.kind ≡ true

-- what follows from the marks is marked
abbrev pub AreClosed : Model → List Bool → Type 0
AreClosed m marks =
    (number : ℕ) (s : Shape) → slice_get m.shapes number ≡ Some s → is_uncarried marks s.kind ≡ true → is_marked marks number ≡ true

-- how many shapes are not marked
abbrev pub count_of_unmarked : List Bool → ℕ
count_of_unmarked [] = 0
count_of_unmarked (mark ∷ marks) = (if mark then 0 else 1) + count_of_unmarked marks

-- Marks that were made one after the other, each of a shape that was added to those in the order.
pub record Marks (m : Model) (before : List Bool) (order : List ℕ) (behind : List Bool) (new_order : List ℕ) : Type 0 where
  pub further : IsNoFurther m before behind
  pub supported : AreSupported m before → AreSupported m behind
  pub long : length behind ≡ length before
  pub fit : count_of_unmarked behind + length new_order ≤ count_of_unmarked before + length order
