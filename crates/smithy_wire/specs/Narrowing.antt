-- A whole number that was found in 64 bits, in fewer.
use Rattle.std.specs.Prelude.{◌≡◌, ℕ, ℤ, true, false, Option, Some, IfSome}
use Rattle.smithy_texts.specs.Ranges.{fits_signed}

-- what was found is this number, with its end, and fits so many bits
abbrev pub IsNarrowed : ℕ → Option (ℤ × ℕ) → ℤ × ℕ → Type 0
IsNarrowed bits found r = (found ≡ Some r) × (fits_signed bits r.0 ≡ true)

-- what was found, if anything, leaves so many bits
abbrev pub IsWider : ℕ → Option (ℤ × ℕ) → Type 0
IsWider bits found = IfSome found (λ r. fits_signed bits r.0 ≡ false)
