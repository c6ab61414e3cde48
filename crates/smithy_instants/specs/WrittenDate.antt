-- How instants are written.
use Rattle.std.specs.Prelude.{ℕ, zero, suc, ◌+◌, ◌-◌, ◌/◌, ◌%◌, ◌^◌, ◌==◌, Bool, true, ◌&&◌, if◌then◌else◌, List, [], ◌∷◌, ◌++◌, map, codes, ℤ, pos, unsigned_abs, Option, Some, option_map, is_some, slice_index_or}
use Rattle.std.specs.Option.{unwrap_or}
use Rattle.std.specs.Int.{int_div_euclid, int_rem_euclid, is_negative}
use Rattle.std.specs.Str.{byte}
use Rattle.std.specs.Fmt.{decimal, sign_text}
use Rattle.jiff_core.specs.Calendar.{weekday_number}
use Rattle.smithy_instants.specs.Instant.{nanos_per_second, seconds_of, subsecond_of}
use Rattle.smithy_instants.specs.Calendar.{CivilDate, civil_date}
use Rattle.smithy_instants.specs.declared.format.Format.{Format}
use Rattle.smithy_instants.specs.declared.format.Format.TheVariants.{DateTime, DateTimeWithOffset, HttpDate, EpochSeconds}

-- n in so many digits
abbrev pub padded_digits : ℕ → ℕ → List ℕ
padded_digits zero n = []
padded_digits (suc width) n = padded_digits width (n / 10) ++ (48 + n % 10) ∷ []

-- the digits of n / 10 ^ width, until nothing is left
abbrev pub fraction_digits : ℕ → ℕ → List ℕ
fraction_digits zero n = []
fraction_digits (suc width) n = if n == 0 then [] else (48 + n / 10 ^ width) ∷ fraction_digits width (n % 10 ^ width)

-- nothing for 0, else a point and these digits
unfoldable pub fraction_text : ℕ → ℕ → List ℕ
fraction_text width n = if n == 0 then [] else byte "." ∷ fraction_digits width n

-- the seconds of these nanoseconds, exactly, where they are below 10 ^ 64, since `decimal` writes so many
-- digits at most
abbrev pub epoch_text : ℤ → List ℕ
epoch_text nanos =
    sign_text (is_negative nanos) ++ decimal (unsigned_abs nanos / nanos_per_second)
    ++ fraction_text 9 (unsigned_abs nanos % nanos_per_second)

-- the day number of an instant
abbrev pub day_of : ℤ → ℤ
day_of nanos = int_div_euclid (seconds_of nanos) (pos 86_400)

-- the seconds of an instant since midnight
abbrev pub second_of_day : ℤ → ℕ
second_of_day nanos = unsigned_abs (int_rem_euclid (seconds_of nanos) (pos 86_400))

-- `HH:MM:SS`
unfoldable pub clock_text : ℕ → List ℕ
clock_text seconds =
    padded_digits 2 (seconds / 3600) ++ codes ":" ++ padded_digits 2 (seconds / 60 % 60)
    ++ codes ":" ++ padded_digits 2 (seconds % 60)

-- `YYYY-MM-DD`
unfoldable pub day_text : CivilDate → List ℕ
day_text d =
    padded_digits 4 d.year ++ codes "-" ++ padded_digits 2 d.month ++ codes "-"
    ++ padded_digits 2 d.day

-- the date, `T`, the clock with its whole microseconds, and `Z`
abbrev pub date_time_text : CivilDate → ℕ → ℕ → List ℕ
date_time_text d seconds nanos =
    day_text d ++ codes "T" ++ clock_text seconds ++ fraction_text 6 (nanos / 1000) ++ codes "Z"

-- the days of the week, from Monday on
abbrev pub weekday_names : List (List ℕ)
weekday_names = map codes ("Mon" ∷ "Tue" ∷ "Wed" ∷ "Thu" ∷ "Fri" ∷ "Sat" ∷ "Sun" ∷ [])

-- the months, in order
abbrev pub month_names : List (List ℕ)
month_names = map codes
    ("Jan" ∷ "Feb" ∷ "Mar" ∷ "Apr" ∷ "May" ∷ "Jun" ∷ "Jul" ∷ "Aug" ∷ "Sep" ∷ "Oct" ∷ "Nov"
    ∷ "Dec" ∷ [])

-- the http-date of a weekday, a day and the seconds on its clock, as `Wed, 21 Oct 2015 07:28:00 GMT` (RFC 9110, section 5.6.7)
abbrev pub http_date_text : ℕ → CivilDate → ℕ → List ℕ
http_date_text weekday d seconds =
    slice_index_or weekday_names weekday [] ++ codes ", "
    ++ padded_digits 2 d.day ++ codes " " ++ slice_index_or month_names (d.month - 1) [] ++ codes " "
    ++ padded_digits 4 d.year ++ codes " " ++ clock_text seconds ++ codes " GMT"

-- the date-time text of an instant, where its year is from 0 to 9999
abbrev pub written_date_time : ℤ → Option (List ℕ)
written_date_time nanos =
    option_map (λ d. date_time_text d (second_of_day nanos) (subsecond_of nanos)) (civil_date (day_of nanos))

-- what is printed of an instant: its date-time text, or its seconds where there is none
abbrev pub printed_text : ℤ → List ℕ
printed_text nanos = unwrap_or (written_date_time nanos) (epoch_text nanos)

-- the http-date text of an instant, where its year is from 0 to 9999
abbrev pub written_http_date : ℤ → Option (List ℕ)
written_http_date nanos =
    option_map (λ d. http_date_text (weekday_number (day_of nanos)) d (second_of_day nanos)) (civil_date (day_of nanos))

-- the written text of an instant, with what the form has no room for cut off
abbrev pub date_text : Format → ℤ → Option (List ℕ)
date_text DateTime nanos = written_date_time nanos
date_text DateTimeWithOffset nanos = written_date_time nanos
date_text HttpDate nanos = written_http_date nanos
date_text EpochSeconds nanos = Some (epoch_text nanos)

-- the written text stands for exactly this instant
abbrev pub holds : Format → ℤ → Bool
holds DateTime nanos = subsecond_of nanos % 1000 == 0 && is_some (civil_date (day_of nanos))
holds DateTimeWithOffset nanos = subsecond_of nanos % 1000 == 0 && is_some (civil_date (day_of nanos))
holds HttpDate nanos = subsecond_of nanos == 0 && is_some (civil_date (day_of nanos))
holds EpochSeconds nanos = true
