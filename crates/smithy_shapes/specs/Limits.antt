-- The limits on depth, on the size of numbers and on what is carried, under which a wire is read.
use Rattle.std.specs.Prelude.{ℕ, nat_le, Bool, true}

-- the limits are kept, or lifted
pub data Limits : Type 0 where
  kept lifted : Limits

-- a depth of at most the greatest, where limits are kept, and any where they are lifted
abbrev pub is_within : Limits → ℕ → ℕ → Bool
is_within kept greatest depth = nat_le depth greatest
is_within lifted greatest depth = true
