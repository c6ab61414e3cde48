-- Integers of 64 bits that stand one after another in an array.
use Rattle.std.specs.Prelude.{◌≡◌, ℕ, ℤ, List, [], ◌∷◌, Bool, true}
use Rattle.smithy_json_grammar.specs.Ascii.{is_ws}
use Rattle.smithy_json_grammar.specs.Standing.{IsRunAt, IsLongAt}
use Rattle.smithy_json_values.specs.Private.NextInContainer.{ElementBegins}

-- The next element of the array is this integer, and it ends there. An element has come before, or none.
pub record IsNextLong (input : List ℕ) (at : ℕ) (entered : Bool) (n : ℤ) (end : ℕ) : Type 0 where
  pub place : ℕ
  pub start : ℕ
  pub begins : ElementBegins input at entered place
  pub ws : IsRunAt is_ws input place start
  pub stands : IsLongAt input start end n

-- From the offset on these integers come as the next elements of the array; the last of them ends at `end`.
abbrev pub LongsAt : List ℕ → ℕ → Bool → List ℤ → ℕ → Type 0
LongsAt input at entered [] end = at ≡ end
LongsAt input at entered (n ∷ ns) end = (next : ℕ) × IsNextLong input at entered n next × LongsAt input next true ns end
