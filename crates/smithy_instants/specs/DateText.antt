-- Instants as texts of the civil calendar: date-time (RFC 3339, section 5.6) and http-date
-- (RFC 9110, section 5.6.7); and as texts of seconds.
use Rattle.std.specs.Prelude.{ℕ, ◌+◌, ◌-◌, ◌*◌, ◌^◌, ◌==◌, nat_le, nat_lt, Bool, true, false, ◌&&◌, ◌||◌, if◌then◌else◌, List, [], ◌∷◌, length, take, drop, codes, slice_index, slice_range, ℤ, pos, ◌+ℤ◌, ◌-ℤ◌, ◌*ℤ◌, Option, Some, None, option_map, option_and_then, is_some}
use Rattle.std.specs.List.{before_first, position_or_len, prefix_len}
use Rattle.std.specs.Char.{is_ascii_digit}
use Rattle.std.specs.Str.{byte, bytes_eq}
use Rattle.smithy_texts.specs.Numeral.{are_digits, without_minus, magnitude, signed}
use Rattle.smithy_texts.specs.Decimal.{is_point}
use Rattle.smithy_instants.specs.Instant.{nanos_per_second, is_instant}
use Rattle.smithy_instants.specs.Epoch.{epoch_nanos}
use Rattle.smithy_instants.specs.Calendar.{day_number}
use Rattle.smithy_instants.specs.declared.format.Format.{Format}
use Rattle.smithy_instants.specs.declared.format.Format.TheVariants.{DateTime, DateTimeWithOffset, HttpDate, EpochSeconds}

-- the byte of a layout stands for this one: `0` for any digit, `*` for any byte, another for itself
abbrev pub fits_layout : ℕ → ℕ → Bool
fits_layout l c = if l == byte "0" then is_ascii_digit c else l == byte "*" || l == c

-- the text begins with what the layout stands for
abbrev pub begins_with_layout : List ℕ → List ℕ → Bool
begins_with_layout [] text = true
begins_with_layout (l ∷ layout) [] = false
begins_with_layout (l ∷ layout) (c ∷ text) = fits_layout l c && begins_with_layout layout text

-- the number of the two digits at a place
abbrev pub two_digits : List ℕ → ℕ → ℕ
two_digits text at = (slice_index text at - 48) * 10 + (slice_index text (at + 1) - 48)

-- the number of the four digits at a place
abbrev pub four_digits : List ℕ → ℕ → ℕ
four_digits text at = two_digits text at * 100 + two_digits text (at + 2)

-- the seconds since midnight of hours to 23, minutes to 59 and seconds to 59
abbrev pub clock_seconds : ℕ → ℕ → ℕ → Option ℕ
clock_seconds hour minute second =
    if nat_lt hour 24 && nat_lt minute 60 && nat_lt second 60
    then Some (hour * 3600 + minute * 60 + second) else None

-- how many bytes the fraction of a second takes at the front: a point and the digits behind it
abbrev pub fraction_length : List ℕ → ℕ
fraction_length [] = 0
fraction_length (c ∷ text) = if is_point c then 1 + prefix_len is_ascii_digit text else 0

-- nothing, or a point and 1 to 9 digits: the nanoseconds of this fraction of a second
abbrev pub fraction_nanos : List ℕ → Option ℕ
fraction_nanos [] = Some 0
fraction_nanos (c ∷ digits) =
    if is_point c && are_digits digits && nat_le (length digits) 9
    then Some (magnitude digits * 10 ^ (9 - length digits)) else None

-- how far the clock is ahead of UTC, in seconds: `Z` or `z` alone
abbrev pub utc_offset : List ℕ → Option ℤ
utc_offset text = if bytes_eq text (codes "Z") || bytes_eq text (codes "z") then Some (pos 0) else None

-- the instant of a day, the seconds on its clock, a fraction, and how far the clock is ahead
abbrev pub instant_of : Option ℤ → Option ℕ → Option ℕ → Option ℤ → Option ℤ
instant_of (Some day) (Some seconds) (Some nanos) (Some offset) =
    Some ((day *ℤ pos 86_400 +ℤ pos seconds -ℤ offset) *ℤ pos nanos_per_second +ℤ pos nanos)
instant_of _ _ _ _ = None

-- `YYYY-MM-DDTHH:MM:SS` with a small or a capital T
abbrev pub begins_date_time : List ℕ → Bool
begins_date_time text =
    begins_with_layout (codes "0000-00-00*00:00:00") text
    && (slice_index text 10 == byte "T" || slice_index text 10 == byte "t")

-- the instant of a date-time, by what its offset means
abbrev pub date_time_nanos : (List ℕ → Option ℤ) → List ℕ → Option ℤ
date_time_nanos zone text =
    let rest = drop 19 text in
    if begins_date_time text
    then instant_of (day_number (four_digits text 0) (two_digits text 5) (two_digits text 8))
    (clock_seconds (two_digits text 11) (two_digits text 14) (two_digits text 17))
    (fraction_nanos (take (fraction_length rest) rest)) (zone (drop (fraction_length rest) rest))
    else None

-- the three letters of a weekday
abbrev pub is_weekday : List ℕ → Bool
is_weekday name =
    bytes_eq name (codes "Mon") || bytes_eq name (codes "Tue") || bytes_eq name (codes "Wed")
    || bytes_eq name (codes "Thu") || bytes_eq name (codes "Fri") || bytes_eq name (codes "Sat")
    || bytes_eq name (codes "Sun")

-- the month of three letters, from 1; 0 is none
abbrev pub month_named : List ℕ → ℕ
month_named name =
    if bytes_eq name (codes "Jan") then 1 else if bytes_eq name (codes "Feb") then 2
    else if bytes_eq name (codes "Mar") then 3 else if bytes_eq name (codes "Apr") then 4
    else if bytes_eq name (codes "May") then 5 else if bytes_eq name (codes "Jun") then 6
    else if bytes_eq name (codes "Jul") then 7 else if bytes_eq name (codes "Aug") then 8
    else if bytes_eq name (codes "Sep") then 9 else if bytes_eq name (codes "Oct") then 10
    else if bytes_eq name (codes "Nov") then 11 else if bytes_eq name (codes "Dec") then 12 else 0

-- a weekday, whichever day it is, and `, DD Mmm YYYY HH:MM:SS`
abbrev pub begins_http_date : List ℕ → Bool
begins_http_date text = begins_with_layout (codes "***, 00 *** 0000 00:00:00") text && is_weekday (take 3 text)

-- 0 where the text is ` GMT`
abbrev pub gmt_offset : List ℕ → Option ℤ
gmt_offset text = if bytes_eq text (codes " GMT") then Some (pos 0) else None

-- the instant of an http-date
abbrev pub http_date_nanos : List ℕ → Option ℤ
http_date_nanos text =
    let rest = drop 25 text in
    if begins_http_date text
    then instant_of (day_number (four_digits text 12) (month_named (slice_range text 8 11)) (two_digits text 5))
    (clock_seconds (two_digits text 17) (two_digits text 20) (two_digits text 23))
    (fraction_nanos (take (fraction_length rest) rest)) (gmt_offset (drop (fraction_length rest) rest))
    else None

-- an optional `-`, digits, and an optional fraction
abbrev pub is_epoch_text : List ℕ → Bool
is_epoch_text text =
    are_digits (before_first is_point (without_minus text))
    && is_some (fraction_nanos (drop (position_or_len is_point (without_minus text)) (without_minus text)))

-- the instant, where it is one
abbrev pub where_instant : ℤ → Option ℤ
where_instant nanos = if is_instant nanos then Some nanos else None

-- `HH:MM`
abbrev pub is_short_clock : List ℕ → Bool
is_short_clock text = begins_with_layout (codes "00:00") text && length text == 5

-- how far the clock is ahead of UTC, in seconds, where `+HH:MM` or `-HH:MM` may stand too
abbrev pub any_offset : List ℕ → Option ℤ
any_offset [] = None
any_offset (sign ∷ clock) =
    if (sign == byte "+" || sign == byte "-") && is_short_clock clock
    then option_map (λ s. signed (sign == byte "-") s) (clock_seconds (two_digits clock 0) (two_digits clock 3) 0)
    else utc_offset (sign ∷ clock)

-- `Z`, or another offset too
abbrev pub offset_of : Bool → List ℕ → Option ℤ
offset_of others text = if others then any_offset text else utc_offset text

-- the instant of a text of the form
abbrev pub date_of : Format → List ℕ → Option ℤ
date_of DateTime text = date_time_nanos (offset_of false) text
date_of DateTimeWithOffset text = date_time_nanos (offset_of true) text
date_of HttpDate text = http_date_nanos text
date_of EpochSeconds text = if is_epoch_text text then option_and_then where_instant (epoch_nanos text) else None
