-- Shapes that are visited one after the other.
use Rattle.std.specs.Prelude.{◌≡◌, ◌==◌, ◌<◌, ◌≤◌, ◌+◌, ℕ, List, ◌++◌, Bool, length}
use Rattle.std.specs.List.{list_any}
use Rattle.smithy_model.specs.Model.{Model}
use Rattle.smithy_declarations.specs.Decl.{Decl}
use Rattle.smithy_model_table.specs.Naming.{names_of}
use Rattle.smithy_model_table.specs.Outcomes.{LeftOut, AreParts}
use Rattle.smithy_model_table.specs.Leaving.{is_marked}
use Rattle.smithy_model_table.specs.Marking.{count_of_unmarked}
use Rattle.smithy_model_table.specs.Reaching.{first_of_each, within, AreReached}

-- this number is one of these
abbrev pub is_among : List ℕ → ℕ → Bool
is_among numbers n = list_any (λ k. k == n) numbers

-- Of so many shapes, the numbers of these came one after the other: which of them were seen, and in which order.
pub record AreVisited (count : ℕ) (came : List ℕ) (seen : List Bool) (order : List ℕ) : Type 0 where
  pub long : length seen ≡ count
  pub each_once : order ≡ first_of_each (within count came)
  pub there : (n : ℕ) → n < count → is_marked seen n ≡ is_among came n
  pub fit : count_of_unmarked seen + length order ≤ count

-- these came behind all that came before
abbrev pub Visits : (seen : List Bool) (order : List ℕ) (new_seen : List Bool) (new_order more : List ℕ) → Type 0
Visits seen order new_seen new_order more =
    (count : ℕ) (came : List ℕ) → AreVisited count came seen order → AreVisited count (came ++ more) new_seen new_order

-- these are the declarations of the shapes that are reached from some, in order, and what they leave out
abbrev pub DeclaresReached : Model → List Bool → (roots : List ℕ) → List Decl → List LeftOut → Type 0
DeclaresReached m marks roots decls left =
    (order : List ℕ) × AreReached m marks roots order × AreParts m marks (names_of m) order decls left
