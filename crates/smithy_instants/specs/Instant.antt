-- Instants, in nanoseconds from 1970-01-01T00:00:00Z on.
use Rattle.std.specs.Prelude.{ℕ, Bool, ℤ, pos, unsigned_abs}
use Rattle.std.specs.Int.{int_div_euclid, int_rem_euclid}
use Rattle.smithy_texts.specs.Ranges.{fits_signed}

-- how many nanoseconds a second has
abbrev pub nanos_per_second : ℕ
nanos_per_second = 1_000_000_000

-- how many nanoseconds a millisecond has
abbrev pub nanos_per_milli : ℕ
nanos_per_milli = 1_000_000

-- the seconds of an instant, rounded down
abbrev pub seconds_of : ℤ → ℤ
seconds_of nanos = int_div_euclid nanos (pos nanos_per_second)

-- the nanoseconds of an instant past its second
abbrev pub subsecond_of : ℤ → ℕ
subsecond_of nanos = unsigned_abs (int_rem_euclid nanos (pos nanos_per_second))

-- the seconds, rounded down, are a 64-bit number
abbrev pub is_instant : ℤ → Bool
is_instant nanos = fits_signed 64 (seconds_of nanos)
