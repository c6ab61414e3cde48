-- What is added to bytes.
use Rattle.std.specs.Prelude.{◌≡◌, ℕ, List, ◌++◌, take}

-- new is old, and behind it a front of more
abbrev pub AddsFront : List ℕ → List ℕ → List ℕ → Type 0
AddsFront old more new = (n : ℕ) × (new ≡ old ++ take n more)
