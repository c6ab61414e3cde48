use Rattle.std.proofs.Common.{arith, ap, ◌∙◌, pos, ◌+ℤ◌, unsigned_abs, to_z, of_z}
use Rattle.std.proofs.lemmas.Int.{ints, to_z-of_z}
use Rattle.std.specs.Int.{w64, int_rem_euclid}
use Rattle.jiff_core.specs.Calendar.{weekday_number}
use Rattle.smithy_instants.proofs.written_date.weekday.Goals as goal

pub returns-clause-value : goal.returns-clause-value
unfolding weekday_number
returns-clause-value c =
    let day = to_z-of_z w64 c.args.day c.ranges.day in
    let shifted = to_z-of_z w64 (c.args.day +ℤ pos 3) (omega (arith, ints)) in
    let kept = to_z-of_z w64 c.rem_euclid.result (omega (arith, ints, c.rem_euclid.ensures.upper_bound)) in
    ap unsigned_abs kept ∙ ap unsigned_abs c.rem_euclid.ensures.value
    ∙ ap (λ z. unsigned_abs (int_rem_euclid (to_z w64 (of_z w64 (z +ℤ pos 3))) (pos 7))) day
    ∙ ap (λ z. unsigned_abs (int_rem_euclid z (pos 7))) shifted
