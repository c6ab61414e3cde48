-- Raw texts by where they stand in an input.
use Rattle.std.specs.Prelude.{◌≡◌, ◌≤◌, ℕ, ◌+◌, length, take, drop, List, Option, IfSome, option_map}
use Rattle.smithy_json_grammar.specs.Unescape.{unescaped}

-- the bytes stand in the input from this place on, and all of them between a and e
pub record StandsFrom (input : List ℕ) (a e at : ℕ) (raw : List ℕ) : Type 0 where
  pub behind : a ≤ at
  pub before : at + length raw ≤ e
  pub within : at + length raw ≤ length input
  pub is : take (length raw) (drop at input) ≡ raw

-- what is found of a raw string is what it means, in whatever input the string stands from this place on
abbrev pub IsMeantFrom : {T : Type 0} → (List ℕ → T → List ℕ) → (List ℕ → T → Type 0) → (ℕ → ℕ → T → Type 0) → ℕ → List ℕ → Option T → Type 0
IsMeantFrom bytes is_placed is_between at raw found =
    (input : List ℕ) (a e : ℕ) → StandsFrom input a e at raw
    → (unescaped raw ≡ option_map (bytes input) found) × IfSome found (is_placed input) × IfSome found (is_between a e)
