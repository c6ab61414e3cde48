-- What is read as a date of any form is an instant: a date with an offset too.
use Rattle.std.specs.Prelude.{◌≡◌, ◌&&◌, ◌||◌, ◌==◌, ◌<◌, ◌+◌, ◌*◌, ◌-◌, ◌^◌, ◌≤◌, ◌≤ℤ◌, ◌*ℤ◌, ◌+ℤ◌, ◌-ℤ◌, ℕ, ℤ, pos, neg_ℤ, List, [], ◌∷◌, length, take, drop, codes, Bool, true, false, Option, Some, None, option_map, if◌then◌else◌, nat_le, nat_lt, refl}
use Rattle.std.specs.Int.{IsInRange, is_in_range}
use Rattle.std.specs.Str.{byte, bytes_eq}
use Rattle.std.proofs.Common.{◌∙◌, ap, subst, arith}
use Rattle.std.proofs.lemmas.Bool.Decides.{nat_tests}
use Rattle.std.proofs.lemmas.Int.{ints}
use Rattle.jiff_core.specs.Calendar.{days_in_month, days_from_civil, IsCivilDate}
use Rattle.jiff_core.proofs.CalendarLemmas.{days_from_civil-day_count, day_count_bounds}
use Rattle.jiff_core.proofs.SignedLemmas.{signed_arith}
use Rattle.smithy_texts.specs.Ranges.{fits_signed}
use Rattle.smithy_texts.specs.Numeral.{are_digits, magnitude, signed}
use Rattle.smithy_texts.specs.Decimal.{is_point}
use Rattle.smithy_instants.specs.Instant.{nanos_per_second, seconds_of, is_instant}
use Rattle.smithy_instants.specs.Calendar.{day_number}
use Rattle.smithy_instants.specs.DateText.{two_digits, four_digits, clock_seconds, fraction_length, fraction_nanos, utc_offset, is_short_clock, any_offset, begins_date_time, instant_of, date_of}
use Rattle.smithy_instants.specs.declared.format.Format.{Format}
use Rattle.smithy_instants.specs.declared.format.Format.TheVariants.{DateTime, DateTimeWithOffset, HttpDate, EpochSeconds}
use Rattle.smithy_instants.proofs.FractionLemmas.{fraction_fits}
use Rattle.smithy_declarations.specs.declared.shape_type.TimestampFormat.TheVariants as times
use Rattle.smithy_shapes.specs.Lemmas.Options.{same_some, chosen, made}
use Rattle.smithy_shapes.proofs.InstantLemmas as places

-- a day of the years from 0 to 9999
abbrev IsNear : ℤ → Type 0
IsNear day = (neg_ℤ (pos 5_000_000) ≤ℤ day) × (day ≤ℤ pos 5_000_000)

-- at most a day ahead or behind
abbrev IsShort : ℤ → Type 0
IsShort offset = (neg_ℤ (pos 86_400) ≤ℤ offset) × (offset ≤ℤ pos 86_400)

in_calendar : (y m d n : ℕ) → (nat_lt y 10_000 && is_in_range 1 12 m && is_in_range 1 n d) ≡ true → (y < 10_000) × IsInRange 1 12 m × IsInRange 1 n d
in_calendar y m d n h = (grind (arith, nat_tests), (grind (arith, nat_tests), grind (arith, nat_tests)), (grind (arith, nat_tests), grind (arith, nat_tests)))

day_is_near : (y m d : ℕ) (day : ℤ) → day_number y m d ≡ Some day → IsNear day
day_is_near y m d day h =
    let found = chosen (nat_lt y 10_000 && is_in_range 1 12 m && is_in_range 1 (days_in_month (pos y) m) d) (Some (days_from_civil (pos y) m d)) day h in
    let (year, month, last) = in_calendar y m d (days_in_month (pos y) m) found.0 in
    let date : IsCivilDate (pos y) m d = ((omega (arith, signed_arith), omega (arith, signed_arith, year)), month, last) in
    let count = day_count_bounds (pos y) m d date in
    let number = days_from_civil-day_count (pos y) m d in
    subst IsNear (same_some (days_from_civil (pos y) m d) day found.1) (omega (arith, signed_arith, count, number), omega (arith, signed_arith, count, number))

clock_is_short : (hour minute second n : ℕ) → clock_seconds hour minute second ≡ Some n → n < 86_400
clock_is_short hour minute second n h =
    let found = chosen (nat_lt hour 24 && nat_lt minute 60 && nat_lt second 60) (Some (hour * 3600 + minute * 60 + second)) n h in
    let same = same_some (hour * 3600 + minute * 60 + second) n found.1 in
    let below : (hour < 24) × (minute < 60) × (second < 60) = on_clock hour minute second found.0 in
    omega (arith, same, below.0, below.1, below.2)
  where
    on_clock : (hour minute second : ℕ) → (nat_lt hour 24 && nat_lt minute 60 && nat_lt second 60) ≡ true → (hour < 24) × (minute < 60) × (second < 60)
    on_clock hour minute second h = (grind (arith, nat_tests), grind (arith, nat_tests), grind (arith, nat_tests))

fraction_is_short : (text : List ℕ) (n : ℕ) → fraction_nanos text ≡ Some n → n < nanos_per_second
fraction_is_short [] n h = let same = same_some 0 n h in omega (arith, same)
fraction_is_short (c ∷ digits) n h =
    let found = chosen (is_point c && are_digits digits && nat_le (length digits) 9) (Some (magnitude digits * 10 ^ (9 - length digits))) n h in
    let form = digits_in (is_point c) (are_digits digits) (length digits) found.0 in
    let same = same_some (magnitude digits * 10 ^ (9 - length digits)) n found.1 in
    let small = (fraction_fits digits form.0 form.1).nanos in
    omega (arith, same, small)
  where
    digits_in : (p d : Bool) (size : ℕ) → (p && d && nat_le size 9) ≡ true → (d ≡ true) × (size ≤ 9)
    digits_in true true size h = (refl, grind (arith, nat_tests))
    digits_in true false size h = cc
    digits_in false d size h = cc

-- ---- offsets

no_offset : (text : List ℕ) (o : ℤ) → utc_offset text ≡ Some o → IsShort o
no_offset text o h =
    let found = chosen (bytes_eq text (codes "Z") || bytes_eq text (codes "z")) (Some (pos 0)) o h in
    subst IsShort (same_some (pos 0) o found.1) (omega (arith, signed_arith), omega (arith, signed_arith))

signed_short : (b : Bool) (n : ℕ) → n < 86_400 → IsShort (signed b n)
signed_short true n small = (omega (arith, signed_arith, small), omega (arith, signed_arith, small))
signed_short false n small = (omega (arith, signed_arith, small), omega (arith, signed_arith, small))

offset_is_short : (text : List ℕ) (o : ℤ) → any_offset text ≡ Some o → IsShort o
offset_is_short [] o h = cc
offset_is_short (sign ∷ clock) o h = by ((sign == byte "+" || sign == byte "-") && is_short_clock clock) h
  where
    by : (test : Bool) → (if test then option_map (λ s. signed (sign == byte "-") s) (clock_seconds (two_digits clock 0) (two_digits clock 3) 0) else utc_offset (sign ∷ clock)) ≡ Some o → IsShort o
    by true h =
        let s = made (λ s. signed (sign == byte "-") s) (clock_seconds (two_digits clock 0) (two_digits clock 3) 0) o h in
        subst IsShort s.2 (signed_short (sign == byte "-") s.0 (clock_is_short (two_digits clock 0) (two_digits clock 3) 0 s.0 s.1))
    by false h = no_offset (sign ∷ clock) o h

-- ---- dates

bounded : (day offset : ℤ) (seconds nanos : ℕ) → IsNear day → IsShort offset → seconds < 86_400 → nanos < nanos_per_second
    → is_instant ((day *ℤ pos 86_400 +ℤ pos seconds -ℤ offset) *ℤ pos nanos_per_second +ℤ pos nanos) ≡ true
bounded day offset seconds nanos near ahead short small =
    let z = day *ℤ pos 86_400 +ℤ pos seconds -ℤ offset in
    let whole : seconds_of (z *ℤ pos nanos_per_second +ℤ pos nanos) ≡ z = omega (arith, signed_arith, small) in
    ap (fits_signed 64) whole ∙ within z (omega (arith, signed_arith, near.0, short, ahead.1)) (omega (arith, signed_arith, near.1, short, ahead.0))
  where
    within : (z : ℤ) → neg_ℤ (pos (2 ^ 62)) ≤ℤ z → z ≤ℤ pos (2 ^ 62) → fits_signed 64 z ≡ true
    within z low high = grind (arith, ints)

-- the instant of parts that are bounded
of_parts : (day : Option ℤ) (seconds nanos : Option ℕ) (offset : Option ℤ) → ((x : ℤ) → day ≡ Some x → IsNear x) → ((x : ℕ) → seconds ≡ Some x → x < 86_400)
    → ((x : ℕ) → nanos ≡ Some x → x < nanos_per_second) → ((x : ℤ) → offset ≡ Some x → IsShort x) → (n : ℤ) → instant_of day seconds nanos offset ≡ Some n → is_instant n ≡ true
of_parts (Some day) (Some seconds) (Some nanos) (Some offset) near short small ahead n h =
    subst (λ z. is_instant z ≡ true) (same_some _ n h) (bounded day offset seconds nanos (near day refl) (ahead offset refl) (short seconds refl) (small nanos refl))
of_parts None seconds nanos offset near short small ahead n h = cc
of_parts (Some day) None nanos offset near short small ahead n h = cc
of_parts (Some day) (Some seconds) None offset near short small ahead n h = cc
of_parts (Some day) (Some seconds) (Some nanos) None near short small ahead n h = cc

-- what is read as an instant is one
pub date_is_instant : (form : Format) (text : List ℕ) (n : ℤ) → date_of form text ≡ Some n → is_instant n ≡ true
date_is_instant EpochSeconds text n h = places.date_is_instant times.EpochSeconds text n h
date_is_instant DateTime text n h = places.date_is_instant times.DateTime text n h
date_is_instant HttpDate text n h = places.date_is_instant times.HttpDate text n h
date_is_instant DateTimeWithOffset text n h =
    let rest = drop 19 text in
    let day = day_number (four_digits text 0) (two_digits text 5) (two_digits text 8) in
    let seconds = clock_seconds (two_digits text 11) (two_digits text 14) (two_digits text 17) in
    let nanos = fraction_nanos (take (fraction_length rest) rest) in
    let offset = any_offset (drop (fraction_length rest) rest) in
    of_parts day seconds nanos offset (day_is_near (four_digits text 0) (two_digits text 5) (two_digits text 8)) (clock_is_short (two_digits text 11) (two_digits text 14) (two_digits text 17))
    (fraction_is_short (take (fraction_length rest) rest)) (offset_is_short (drop (fraction_length rest) rest)) n (chosen (begins_date_time text) (instant_of day seconds nanos offset) n h).1
