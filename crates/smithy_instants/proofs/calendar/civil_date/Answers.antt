use Rattle.std.proofs.Common.{sym, ◌∙◌, arith, ℤ, subst}
use Rattle.std.proofs.lemmas.Int.{ints, to_z-of_z}
use Rattle.std.specs.Int.{w16, w64}
use Rattle.std.proofs.lemmas.Bool.{false≢true}
use Rattle.jiff_core.specs.Calendar.{IsEpochDay}
use Rattle.jiff_core.proofs.DateLemmas.{civil}
use Rattle.smithy_instants.proofs.CalendarLemmas.{civil_date_of, civil_date_early, civil_date_outside}
use Rattle.smithy_instants.proofs.calendar.civil_date.Goals as goal

pub returns-in-Ok-clause-value : goal.returns-in-Ok-clause-value
returns-in-Ok-clause-value c =
    let d = c.in-Ok.date in
    let day = c.in-Ok.ensures.value ∙ to_z-of_z w64 c.args.day c.ranges.day in
    let year = to_z-of_z w16 d.year (omega (arith, ints)) in
    rw year (sym (civil_date_of d.year d.month d.day c.args.day (civil d) (omega (arith, ints)) day))

pub returns-in_default-clause-value : goal.returns-in_default-clause-value
returns-in_default-clause-value c =
    let d = c.in-Ok.date in
    let day = c.in-Ok.ensures.value ∙ to_z-of_z w64 c.args.day c.ranges.day in
    sym (civil_date_early d.year d.month d.day c.args.day (civil d) (omega (arith, ints)) day)

pub returns-in_default-2-clause-value : goal.returns-in_default-2-clause-value
returns-in_default-2-clause-value c = sym (civil_date_outside c.args.day (λ inside.
    let P : ℤ → Type 0 = λ z. IsEpochDay z in
    let there = subst P (sym (to_z-of_z w64 c.args.day c.ranges.day)) inside in
    false≢true (c.in_default.ensures.succeeds.1 there)))
