-- Instants at the front of a text, up to a delimiter.
use Rattle.std.specs.Prelude.{◌≡◌, ◌⊎◌, ◌==◌, ℕ, List, [], ◌++◌, ℤ, Some}
use Rattle.std.specs.Char.{encode_utf8}
use Rattle.std.specs.Str.{IsUtf8, NoCharPasses}
use Rattle.smithy_instants.specs.DateText.{date_of}
use Rattle.smithy_instants.specs.declared.format.Format.{Format}
use Rattle.smithy_instants.specs.declared.format.Format.TheVariants.{DateTime, DateTimeWithOffset, HttpDate, EpochSeconds}

-- the text is front alone, or front, the delimiter and rest
abbrev pub IsDelimited : ℕ → List ℕ → List ℕ → List ℕ → Type 0
IsDelimited delim text front rest =
    ((text ≡ front) × (rest ≡ [])) ⊎ (text ≡ front ++ (encode_utf8 delim ++ rest))

-- a text of seconds ends before the first delimiter; the other forms tell their end themselves
abbrev pub EndsInTime : Format → ℕ → List ℕ → Type 0
EndsInTime DateTime delim front = Unit {0}
EndsInTime DateTimeWithOffset delim front = Unit {0}
EndsInTime HttpDate delim front = Unit {0}
EndsInTime EpochSeconds delim front = NoCharPasses (λ c. c == delim) front

-- the text begins with front, which is of the form and means d, and rest is left behind it
pub record HasFront (format : Format) (delim : ℕ) (text front : List ℕ) (d : ℤ) (rest : List ℕ) : Type 0 where
  pub is_text : IsUtf8 front
  pub delimited : IsDelimited delim text front rest
  pub in_time : EndsInTime format delim front
  pub means : date_of format front ≡ Some d

-- some front of the text is of the form and means d, and rest is left behind it
abbrev pub ReadsFront : Format → ℕ → List ℕ → ℤ → List ℕ → Type 0
ReadsFront format delim text d rest = (front : List ℕ) × HasFront format delim text front d rest
