-- The days that private calls are handed.
use Rattle.std.specs.Prelude.{◌<◌}
use Rattle.smithy_instants.specs.Calendar.{CivilDate}
use Rattle.smithy_instants.specs.declared.calendar.YearMonthDay.{YearMonthDay}

-- the date that the program's is
abbrev pub civil_of : YearMonthDay → CivilDate
civil_of date = record { year = date.year; month = date.month; day = date.day }

-- each part has as many digits as a text gives it
pub record HasDigits (date : YearMonthDay) : Type 0 where
  pub year : date.year < 10_000
  pub month : date.month < 100
  pub day : date.day < 100
