-- A literal and a boundary.
use Rattle.std.specs.Prelude.{◌≡◌, ℕ, List, Option, MatchOption}
use Rattle.smithy_json_grammar.specs.Standing.{StandsAt}

-- the literal stands at the offset up to the end that is answered, or nowhere from there
abbrev pub EndsLiteral : List ℕ → List ℕ → ℕ → Option ℕ → Type 0
EndsLiteral literal input at result =
    MatchOption result ((end : ℕ) → StandsAt (λ text. text ≡ literal) input at end → ⊥)
    (λ end. StandsAt (λ text. text ≡ literal) input at end)
