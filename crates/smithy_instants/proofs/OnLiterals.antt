-- What an answer unfolds to compute this crate's specs on a literal.
use Rattle.std.specs.Prelude.{⊤}
use Rattle.std.specs.Fmt.{digits}
use Rattle.jiff_core.specs.Calendar.{days_of_years, days_of_months, day_count, days_from_civil, weekday_number}
use Rattle.smithy_instants.specs.WrittenDate.{fraction_text, day_text, clock_text}

unfoldable pub smithy_instants_on_literals : ⊤
unfolding digits days_of_years days_of_months day_count days_from_civil weekday_number fraction_text day_text clock_text
smithy_instants_on_literals = tt
