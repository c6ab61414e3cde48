-- What is an instant: so many seconds of 64 bits, and each date.
use Rattle.std.proofs.Common.{◌≡◌, ◌<◌, ◌≤◌, ℕ, ℤ, pos, List, [], ◌∷◌, length, take, drop, Bool, true, false, Option, Some, None, refl, ◌∙◌, ap, subst, arith, cond, slice_range}
use Rattle.std.specs.Prelude.{◌&&◌, ◌+◌, ◌-◌, ◌*◌, ◌^◌, ◌*ℤ◌, ◌+ℤ◌, ◌-ℤ◌, ◌≤ℤ◌, neg_ℤ, nat_le, nat_lt, option_and_then}
use Rattle.std.specs.Int.{IsInRange, is_in_range}
use Rattle.std.proofs.lemmas.Bool.Decides.{nat_tests}
use Rattle.std.proofs.lemmas.Int.{ints}
use Rattle.jiff_core.specs.Calendar.{days_in_month, days_from_civil, IsCivilDate}
use Rattle.jiff_core.proofs.CalendarLemmas.{days_from_civil-day_count, day_count_bounds}
use Rattle.jiff_core.proofs.SignedLemmas.{signed_arith}
use Rattle.smithy_texts.specs.Ranges.{fits_signed}
use Rattle.smithy_texts.specs.Numeral.{are_digits, magnitude}
use Rattle.smithy_texts.specs.Decimal.{is_point}
use Rattle.smithy_instants.specs.Instant.{nanos_per_second, seconds_of, subsecond_of, is_instant}
use Rattle.smithy_instants.specs.Calendar.{day_number}
use Rattle.smithy_instants.specs.Epoch.{epoch_nanos}
use Rattle.smithy_instants.specs.DateText.{two_digits, four_digits, clock_seconds, fraction_length, fraction_nanos, utc_offset, begins_date_time, month_named, begins_http_date, gmt_offset, instant_of, is_epoch_text, where_instant, date_of}
use Rattle.smithy_instants.proofs.FractionLemmas.{fraction_fits}
use Rattle.smithy_declarations.specs.declared.shape_type.TimestampFormat.{TimestampFormat}
use Rattle.smithy_declarations.specs.declared.shape_type.TimestampFormat.TheVariants.{EpochSeconds, DateTime, HttpDate}
use Rattle.smithy_declarations.specs.TimeForms.{format_of}
use Rattle.smithy_shapes.specs.Lemmas.Options.{same_some, step_apart, chosen}

-- ---- whole seconds

-- the seconds of so many seconds are these
pub seconds_back : (s : ℤ) → seconds_of (s *ℤ pos nanos_per_second) ≡ s
seconds_back s = omega (arith, signed_arith)

-- and an instant without a fraction is its seconds
pub whole_seconds : (n : ℤ) → subsecond_of n ≡ 0 → seconds_of n *ℤ pos nanos_per_second ≡ n
whole_seconds n whole = omega (arith, signed_arith, whole)

pub seconds_are_instant : (s : ℤ) → fits_signed 64 s ≡ true → is_instant (s *ℤ pos nanos_per_second) ≡ true
seconds_are_instant s fits = ap (fits_signed 64) (seconds_back s) ∙ fits

-- ---- the parts of dates

-- a day of the years from 0 to 9999
abbrev IsNear : ℤ → Type 0
IsNear day = (neg_ℤ (pos 5_000_000) ≤ℤ day) × (day ≤ℤ pos 5_000_000)

in_calendar : (y m d n : ℕ) → (nat_lt y 10_000 && is_in_range 1 12 m && is_in_range 1 n d) ≡ true → (y < 10_000) × IsInRange 1 12 m × IsInRange 1 n d
in_calendar y m d n h = (grind (arith, nat_tests), (grind (arith, nat_tests), grind (arith, nat_tests)), (grind (arith, nat_tests), grind (arith, nat_tests)))

day_is_near : (y m d : ℕ) (day : ℤ) → day_number y m d ≡ Some day → IsNear day
day_is_near y m d day h =
    let found = chosen (nat_lt y 10_000 && is_in_range 1 12 m && is_in_range 1 (days_in_month (pos y) m) d) (Some (days_from_civil (pos y) m d)) day h in
    let (year, month, last) = in_calendar y m d (days_in_month (pos y) m) found.0 in
    let date : IsCivilDate (pos y) m d = ((omega (arith, signed_arith), omega (arith, signed_arith, year)), month, last) in
    let count = day_count_bounds (pos y) m d date in
    let number = days_from_civil-day_count (pos y) m d in
    subst IsNear (same_some (days_from_civil (pos y) m d) day found.1) (omega (arith, signed_arith, count, number), omega (arith, signed_arith, count, number))

clock_is_short : (hour minute second n : ℕ) → clock_seconds hour minute second ≡ Some n → n < 86_400
clock_is_short hour minute second n h =
    let found = chosen (nat_lt hour 24 && nat_lt minute 60 && nat_lt second 60) (Some (hour * 3600 + minute * 60 + second)) n h in
    let same = same_some (hour * 3600 + minute * 60 + second) n found.1 in
    let below : (hour < 24) × (minute < 60) × (second < 60) = on_clock hour minute second found.0 in
    omega (arith, same, below.0, below.1, below.2)
  where
    on_clock : (hour minute second : ℕ) → (nat_lt hour 24 && nat_lt minute 60 && nat_lt second 60) ≡ true → (hour < 24) × (minute < 60) × (second < 60)
    on_clock hour minute second h = (grind (arith, nat_tests), grind (arith, nat_tests), grind (arith, nat_tests))

fraction_is_short : (text : List ℕ) (n : ℕ) → fraction_nanos text ≡ Some n → n < nanos_per_second
fraction_is_short [] n h = let same = same_some 0 n h in omega (arith, same)
fraction_is_short (c ∷ digits) n h =
    let found = chosen (is_point c && are_digits digits && nat_le (length digits) 9) (Some (magnitude digits * 10 ^ (9 - length digits))) n h in
    let form = digits_in (is_point c) (are_digits digits) (length digits) found.0 in
    let same = same_some (magnitude digits * 10 ^ (9 - length digits)) n found.1 in
    let small = (fraction_fits digits form.0 form.1).nanos in
    omega (arith, same, small)
  where
    digits_in : (p d : Bool) (size : ℕ) → (p && d && nat_le size 9) ≡ true → (d ≡ true) × (size ≤ 9)
    digits_in true true size h = (refl, grind (arith, nat_tests))
    digits_in true false size h = cc
    digits_in false d size h = cc

-- ---- dates

at_zero : (b : Bool) (z : ℤ) → cond b (Some (pos 0)) None ≡ Some z → pos 0 ≡ z
at_zero b z h = same_some (pos 0) z (chosen b (Some (pos 0)) z h).1

bounded : (day : ℤ) (seconds nanos : ℕ) → IsNear day → seconds < 86_400 → nanos < nanos_per_second
    → is_instant ((day *ℤ pos 86_400 +ℤ pos seconds -ℤ pos 0) *ℤ pos nanos_per_second +ℤ pos nanos) ≡ true
bounded day seconds nanos near short small =
    let z = day *ℤ pos 86_400 +ℤ pos seconds -ℤ pos 0 in
    let whole : seconds_of (z *ℤ pos nanos_per_second +ℤ pos nanos) ≡ z = omega (arith, signed_arith, small) in
    ap (fits_signed 64) whole ∙ within z (omega (arith, signed_arith, near.0, short)) (omega (arith, signed_arith, near.1, short))
  where
    within : (z : ℤ) → neg_ℤ (pos (2 ^ 62)) ≤ℤ z → z ≤ℤ pos (2 ^ 62) → fits_signed 64 z ≡ true
    within z low high = grind (arith, ints)

-- the instant of parts that are bounded
of_parts : (day : Option ℤ) (seconds nanos : Option ℕ) (offset : Option ℤ) → ((x : ℤ) → day ≡ Some x → IsNear x) → ((x : ℕ) → seconds ≡ Some x → x < 86_400)
    → ((x : ℕ) → nanos ≡ Some x → x < nanos_per_second) → ((x : ℤ) → offset ≡ Some x → pos 0 ≡ x) → (n : ℤ) → instant_of day seconds nanos offset ≡ Some n → is_instant n ≡ true
of_parts (Some day) (Some seconds) (Some nanos) (Some offset) near short small zero n h =
    let here : is_instant ((day *ℤ pos 86_400 +ℤ pos seconds -ℤ offset) *ℤ pos nanos_per_second +ℤ pos nanos) ≡ true =
    subst (λ o. is_instant ((day *ℤ pos 86_400 +ℤ pos seconds -ℤ o) *ℤ pos nanos_per_second +ℤ pos nanos) ≡ true) (zero offset refl)
    (bounded day seconds nanos (near day refl) (short seconds refl) (small nanos refl)) in
    subst (λ z. is_instant z ≡ true) (same_some _ n h) here
of_parts None seconds nanos offset near short small zero n h = cc
of_parts (Some day) None nanos offset near short small zero n h = cc
of_parts (Some day) (Some seconds) None offset near short small zero n h = cc
of_parts (Some day) (Some seconds) (Some nanos) None near short small zero n h = cc

-- what is read as an instant is one
pub date_is_instant : (form : TimestampFormat) (text : List ℕ) (n : ℤ) → date_of (format_of form) text ≡ Some n → is_instant n ≡ true
date_is_instant EpochSeconds text n h =
    let found = chosen (is_epoch_text text) (option_and_then where_instant (epoch_nanos text)) n h in
    let nanos = step_apart (epoch_nanos text) where_instant n found.1 in
    let here = chosen (is_instant nanos.0) (Some nanos.0) n nanos.2 in
    subst (λ z. is_instant z ≡ true) (same_some nanos.0 n here.1) here.0
date_is_instant DateTime text n h =
    let rest = drop 19 text in
    let day = day_number (four_digits text 0) (two_digits text 5) (two_digits text 8) in
    let seconds = clock_seconds (two_digits text 11) (two_digits text 14) (two_digits text 17) in
    let nanos = fraction_nanos (take (fraction_length rest) rest) in
    let offset = utc_offset (drop (fraction_length rest) rest) in
    of_parts day seconds nanos offset (day_is_near (four_digits text 0) (two_digits text 5) (two_digits text 8)) (clock_is_short (two_digits text 11) (two_digits text 14) (two_digits text 17))
    (fraction_is_short (take (fraction_length rest) rest)) (λ x is. at_zero _ x is) n (chosen (begins_date_time text) (instant_of day seconds nanos offset) n h).1
date_is_instant HttpDate text n h =
    let rest = drop 25 text in
    let day = day_number (four_digits text 12) (month_named (slice_range text 8 11)) (two_digits text 5) in
    let seconds = clock_seconds (two_digits text 17) (two_digits text 20) (two_digits text 23) in
    let nanos = fraction_nanos (take (fraction_length rest) rest) in
    let offset = gmt_offset (drop (fraction_length rest) rest) in
    of_parts day seconds nanos offset (day_is_near (four_digits text 12) (month_named (slice_range text 8 11)) (two_digits text 5)) (clock_is_short (two_digits text 17) (two_digits text 20) (two_digits text 23))
    (fraction_is_short (take (fraction_length rest) rest)) (λ x is. at_zero _ x is) n (chosen (begins_http_date text) (instant_of day seconds nanos offset) n h).1
