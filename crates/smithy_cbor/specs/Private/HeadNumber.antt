-- The number of an integer's head.
use Rattle.std.specs.Prelude.{ℕ, suc, zero, ℤ, pos, negsuc}

-- major type 0 and 1
abbrev pub number_of : ℕ → ℕ → ℤ
number_of zero n = pos n
number_of (suc major) n = negsuc n
