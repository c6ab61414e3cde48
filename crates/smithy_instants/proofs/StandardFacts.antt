-- Values that the standards and the calendar give, so that a wrong rule in the specs does not check.
use Rattle.std.proofs.Common.{◌≡◌, [], ◌∷◌, map, true, false, Some, None, option_map, option_and_then, refl, pos, negsuc, neg_ℤ, codes}
use Rattle.smithy_instants.specs.Epoch.{epoch_nanos}
use Rattle.smithy_instants.specs.Instant.{is_instant, subsecond_of}
use Rattle.smithy_instants.specs.Calendar.{day_number, civil_date}
use Rattle.smithy_instants.specs.DateText.{date_of}
use Rattle.smithy_instants.specs.WrittenDate.{date_text, holds, epoch_text, day_of, second_of_day}
use Rattle.smithy_instants.specs.declared.format.Format.TheVariants.{DateTime, DateTimeWithOffset, HttpDate, EpochSeconds}
use Rattle.smithy_instants.proofs.OnLiterals.{smithy_instants_on_literals}

-- a decimal and an exponent, half a second before the epoch, and the smallest part
pub epochs : map epoch_nanos (codes "1.494956157E9" ∷ codes "-0.5" ∷ codes "1e-9" ∷ codes "10e-10" ∷ codes "1515531081.1234567891e1" ∷ [])
    ≡ Some (pos 1_494_956_157_000_000_000) ∷ Some (neg_ℤ (pos 500_000_000)) ∷ Some (pos 1) ∷ Some (pos 1) ∷ Some (pos 15_155_310_811_234_567_891) ∷ []
epochs = refl

-- a tenth of a nanosecond, no number, and an exponent of more than 64 bits
pub no_epochs : map epoch_nanos (codes "1e-10" ∷ codes "0.0000000001" ∷ codes "x" ∷ codes "0e9223372036854775808" ∷ codes "0e-9223372036854775809" ∷ [])
    ≡ None ∷ None ∷ None ∷ None ∷ None ∷ []
no_epochs = refl

pub written_epochs : map epoch_text (pos 1_494_956_157_000_000_000 ∷ neg_ℤ (pos 500_000_000) ∷ pos 0 ∷ negsuc 0 ∷ pos 1_000_000_010 ∷ [])
    ≡ codes "1494956157" ∷ codes "-0.5" ∷ codes "0" ∷ codes "-0.000000001" ∷ codes "1.00000001" ∷ []
unfolding smithy_instants_on_literals
written_epochs = refl

-- the seconds rounded down stay within 64 bits
pub epoch_texts : map (date_of EpochSeconds) (codes "-0.5" ∷ codes "1.000000001" ∷ codes "9223372036854775807.999999999" ∷ codes "-9223372036854775808" ∷ [])
    ≡ Some (neg_ℤ (pos 500_000_000)) ∷ Some (pos 1_000_000_001) ∷ Some (pos 9_223_372_036_854_775_807_999_999_999) ∷ Some (neg_ℤ (pos 9_223_372_036_854_775_808_000_000_000)) ∷ []
epoch_texts = refl

pub no_epoch_texts : map (date_of EpochSeconds) (codes "" ∷ codes "1." ∷ codes ".5" ∷ codes "+1" ∷ codes "1e3" ∷ codes "1.0000000000" ∷ codes "9223372036854775808" ∷ codes "-9223372036854775808.1" ∷ [])
    ≡ None ∷ None ∷ None ∷ None ∷ None ∷ None ∷ None ∷ None ∷ []
no_epoch_texts = refl

-- 1970-01-01 and the day before it, and the first and the last day
pub days : (day_number 1970 1 1 ≡ Some (pos 0)) × (day_number 1969 12 31 ≡ Some (negsuc 0)) × (day_number 2015 10 21 ≡ Some (pos 16_729))
    × (day_number 0 1 1 ≡ Some (neg_ℤ (pos 719_528))) × (day_number 9999 12 31 ≡ Some (pos 2_932_896)) × (day_number 10_000 1 1 ≡ None)
unfolding smithy_instants_on_literals
days = (refl, refl, refl, refl, refl, refl)

-- 1900 has no leap day, 2000 and 2024 have one
pub leap_days : (day_number 1900 2 28 ≡ Some (neg_ℤ (pos 25_509))) × (day_number 1900 2 29 ≡ None) × (day_number 1900 3 1 ≡ Some (neg_ℤ (pos 25_508)))
    × (day_number 2000 2 29 ≡ Some (pos 11_016)) × (day_number 2000 3 1 ≡ Some (pos 11_017))
    × (day_number 2024 2 29 ≡ Some (pos 19_782)) × (day_number 2023 2 29 ≡ None)
unfolding smithy_instants_on_literals
leap_days = (refl, refl, refl, refl, refl, refl, refl)

-- a nanosecond before the epoch is the last one of the day before
pub before_epoch : (day_of (negsuc 0) ≡ negsuc 0) × (second_of_day (negsuc 0) ≡ 86_399) × (subsecond_of (negsuc 0) ≡ 999_999_999)
    × (civil_date (negsuc 0) ≡ Some (record { year = 1969; month = 12; day = 31 }))
unfolding smithy_instants_on_literals
before_epoch = (refl, refl, refl, refl)

pub date_times : map (date_of DateTime) (codes "1970-01-01T00:00:00Z" ∷ codes "1969-12-31T23:59:59.999999999Z" ∷ codes "2000-02-29t12:00:00.5z" ∷ codes "1985-04-12T23:20:50.52Z" ∷ codes "0000-01-01T00:00:00Z" ∷ codes "9999-12-31T23:59:59.999999999Z" ∷ codes "0000-02-29T00:00:00Z" ∷ [])
    ≡ Some (pos 0) ∷ Some (negsuc 0) ∷ Some (pos 951_825_600_500_000_000) ∷ Some (pos 482_196_050_520_000_000)
    ∷ Some (neg_ℤ (pos 62_167_219_200_000_000_000)) ∷ Some (pos 253_402_300_799_999_999_999) ∷ Some (neg_ℤ (pos 62_162_121_600_000_000_000)) ∷ []
unfolding smithy_instants_on_literals
date_times = refl

-- no date, no time of day, a leap second, no zone, an offset, a blank, no digit and ten digits after the point
pub no_date_times : map (date_of DateTime) (codes "10000-01-01T00:00:00Z" ∷ codes "1900-02-29T00:00:00Z" ∷ codes "2015-00-21T07:28:00Z" ∷ codes "2015-10-00T07:28:00Z" ∷ codes "2015-13-01T07:28:00Z" ∷ codes "2015-10-21T24:00:00Z" ∷ codes "2015-10-21T07:60:00Z" ∷ codes "2015-10-21T07:28:60Z" ∷ [])
    ≡ None ∷ None ∷ None ∷ None ∷ None ∷ None ∷ None ∷ None ∷ []
no_date_times = refl

pub no_date_times_by_form : map (date_of DateTime) (codes "2015-10-21T07:28:00" ∷ codes "2015-10-21T07:28:00+00:00" ∷ codes "2015-10-21 07:28:00Z" ∷ codes "2015-10-21T07:28:00.Z" ∷ codes "2015-10-21T07:28:00.0000000001Z" ∷ codes "2015-10-21T07:28:00Z " ∷ codes "2015-10-21T7:28:00Z" ∷ codes "2015-10-21T07:28:00,5Z" ∷ codes "" ∷ [])
    ≡ None ∷ None ∷ None ∷ None ∷ None ∷ None ∷ None ∷ None ∷ None ∷ []
no_date_times_by_form = refl

-- the second is RFC 3339's
pub offsets : map (date_of DateTimeWithOffset) (codes "2015-10-21T07:28:00Z" ∷ codes "1996-12-19T16:39:57-08:00" ∷ codes "1970-01-01T00:00:00+23:59" ∷ codes "1970-01-01T00:00:00.5-00:00" ∷ [])
    ≡ Some (pos 1_445_412_480_000_000_000) ∷ Some (pos 851_042_397_000_000_000) ∷ Some (neg_ℤ (pos 86_340_000_000_000)) ∷ Some (pos 500_000_000) ∷ []
unfolding smithy_instants_on_literals
offsets = refl

pub no_offsets : map (date_of DateTimeWithOffset) (codes "1970-01-01T00:00:00+24:00" ∷ codes "1970-01-01T00:00:00+05:60" ∷ codes "1970-01-01T00:00:00+0530" ∷ codes "1970-01-01T00:00:00" ∷ codes "1970-01-01T00:00:00+05:30Z" ∷ [])
    ≡ None ∷ None ∷ None ∷ None ∷ None ∷ []
no_offsets = refl

-- the weekday needn't fit; the second is RFC 9110's
pub http_dates : map (date_of HttpDate) (codes "Mon, 21 Oct 2015 07:28:00 GMT" ∷ codes "Sun, 06 Nov 1994 08:49:37 GMT" ∷ codes "Thu, 01 Jan 1970 00:00:00.5 GMT" ∷ codes "Fri, 31 Dec 9999 23:59:59 GMT" ∷ codes "Sat, 01 Jan 0000 00:00:00 GMT" ∷ [])
    ≡ Some (pos 1_445_412_480_000_000_000) ∷ Some (pos 784_111_777_000_000_000) ∷ Some (pos 500_000_000) ∷ Some (pos 253_402_300_799_000_000_000) ∷ Some (neg_ℤ (pos 62_167_219_200_000_000_000)) ∷ []
unfolding smithy_instants_on_literals
http_dates = refl

pub no_http_dates : map (date_of HttpDate) (codes "Wed, 21 oct 2015 07:28:00 GMT" ∷ codes "Sun, 6 Nov 1994 08:49:37 GMT" ∷ codes "Wed, 21 Oct 2015 07:28:00 UTC" ∷ codes "Sunday, 06-Nov-94 08:49:37 GMT" ∷ codes "Sun Nov  6 08:49:37 1994" ∷ codes "Wed, 31 Feb 2015 07:28:00 GMT" ∷ codes "Sat, 01 Jan 10000 00:00:00 GMT" ∷ codes "Wed 21 Oct 2015 07:28:00 GMT" ∷ codes "Wed, 21 Oct 2015 07:28:00 GMT " ∷ [])
    ≡ None ∷ None ∷ None ∷ None ∷ None ∷ None ∷ None ∷ None ∷ None ∷ []
no_http_dates = refl

pub written_dates : (date_text HttpDate (pos 1_445_412_480_000_000_000) ≡ Some (codes "Wed, 21 Oct 2015 07:28:00 GMT"))
    × (date_text DateTime (pos 1_621_870_490_123_456_789) ≡ Some (codes "2021-05-24T15:34:50.123456Z"))
    × (date_text DateTime (pos 1_494_956_157_000_000_000) ≡ Some (codes "2017-05-16T17:35:57Z"))
    × (date_text DateTime (negsuc 0) ≡ Some (codes "1969-12-31T23:59:59.999999Z"))
    × (date_text DateTime (pos 500_000_000) ≡ Some (codes "1970-01-01T00:00:00.5Z"))
    × (date_text DateTimeWithOffset (pos 951_825_600_000_000_999) ≡ Some (codes "2000-02-29T12:00:00Z"))
unfolding smithy_instants_on_literals
written_dates = (refl, refl, refl, refl, refl, refl)

-- the first and the last year, and a nanosecond before and after them
pub written_years : map (date_text DateTime) (neg_ℤ (pos 62_167_219_200_000_000_000) ∷ neg_ℤ (pos 62_167_219_200_000_000_001) ∷ pos 253_402_300_799_999_999_999 ∷ pos 253_402_300_800_000_000_000 ∷ [])
    ≡ Some (codes "0000-01-01T00:00:00Z") ∷ None ∷ Some (codes "9999-12-31T23:59:59.999999Z") ∷ None ∷ []
unfolding smithy_instants_on_literals
written_years = refl

-- whole microseconds, and a tenth of one more; whole seconds, and half of one more; a year too far
pub held : (map (holds DateTime) (pos 1_621_870_490_123_456_000 ∷ pos 1_621_870_490_123_456_700 ∷ negsuc 999 ∷ pos 253_402_300_800_000_000_000 ∷ []) ≡ true ∷ false ∷ true ∷ false ∷ [])
    × (map (holds HttpDate) (pos 1_445_412_480_000_000_000 ∷ pos 1_445_412_480_500_000_000 ∷ negsuc 0 ∷ []) ≡ true ∷ false ∷ false ∷ [])
    × (holds EpochSeconds (negsuc 0) ≡ true)
unfolding smithy_instants_on_literals
held = (refl, refl, refl)

-- a leap second is refused, a lower-case text is written in capitals and without its last zero, and a
-- tenth of a microsecond has no room
pub read_and_written : (date_of DateTime (codes "2015-12-31T23:59:60Z") ≡ None)
    × (option_and_then (date_text DateTime) (date_of DateTime (codes "2000-02-29t00:00:00.50z")) ≡ Some (codes "2000-02-29T00:00:00.5Z"))
    × (option_map (holds DateTime) (date_of DateTime (codes "2021-05-24T15:34:50.1234567Z")) ≡ Some false)
    × (option_map (holds DateTime) (date_of DateTime (codes "2021-05-24T15:34:50.123456Z")) ≡ Some true)
    × (option_and_then (date_text HttpDate) (date_of HttpDate (codes "Mon, 21 Oct 2015 07:28:00 GMT")) ≡ Some (codes "Wed, 21 Oct 2015 07:28:00 GMT"))
unfolding smithy_instants_on_literals
read_and_written = (refl, refl, refl, refl, refl)

-- a number beyond 64-bit seconds has nanoseconds, and is no instant
pub far_away : (option_map is_instant (epoch_nanos (codes "1e400")) ≡ Some false)
    × (option_map is_instant (epoch_nanos (codes "9223372036854775807.999999999")) ≡ Some true)
    × (option_map is_instant (epoch_nanos (codes "9223372036854775808")) ≡ Some false)
    × (option_map is_instant (epoch_nanos (codes "-9223372036854775808")) ≡ Some true)
    × (option_map is_instant (epoch_nanos (codes "-9223372036854775808.5")) ≡ Some false)
far_away = (refl, refl, refl, refl, refl)

-- an exponent beyond 64 bits, a tenth of a nanosecond, and seconds beyond 64 bits
pub epoch_rows : (epoch_nanos (codes "0e99999999999999999999") ≡ None) × (epoch_nanos (codes "1e-10") ≡ None) × (epoch_nanos (codes "1e-9") ≡ Some (pos 1))
    × (option_map is_instant (epoch_nanos (codes "9223372036854775808")) ≡ Some false)
    × (date_text DateTime (pos 253_402_300_800_000_000_000) ≡ None)
    × (date_text DateTime (pos 0) ≡ Some (codes "1970-01-01T00:00:00Z"))
unfolding smithy_instants_on_literals
epoch_rows = (refl, refl, refl, refl, refl, refl)
