-- The forms in which instants stand in texts.
use Rattle.std.specs.Prelude.{Bool, true, is_some, Option, unwrap_or}
use Rattle.smithy_instants.specs.declared.format.Format.{Format}
use Rattle.smithy_instants.specs.declared.format.Format.TheVariants as formats
use Rattle.smithy_instants.specs.WrittenDate.{date_text, holds}
use Rattle.smithy_declarations.specs.declared.shape_type.TimestampFormat.{TimestampFormat}
use Rattle.smithy_declarations.specs.declared.shape_type.TimestampFormat.TheVariants.{EpochSeconds, DateTime, HttpDate}
use Rattle.smithy_declarations.specs.Value.{ScalarValue, instant}

-- the form of a text by the time form of a place
abbrev pub format_of : TimestampFormat → Format
format_of EpochSeconds = formats.EpochSeconds
format_of DateTime = formats.DateTime
format_of HttpDate = formats.HttpDate

-- the time form of a place, or the one that counts where it has none
abbrev pub form_or : TimestampFormat → Option TimestampFormat → TimestampFormat
form_or default time = unwrap_or time default

-- an instant can be written in the form: of a date the year is from 0 to 9999; the form is nothing to other scalars
abbrev pub form_writes : TimestampFormat → ScalarValue → Bool
form_writes form (instant n) = is_some (date_text (format_of form) n)
form_writes form _ = true

-- what the form writes for an instant stands for exactly this instant; the form is nothing to other scalars
abbrev pub form_holds : TimestampFormat → ScalarValue → Bool
form_holds form (instant n) = holds (format_of form) n
form_holds form _ = true
