use Rattle.std.proofs.Common.{◌≤◌, ◌<◌, unsigned_abs, arith}
use Rattle.std.proofs.lemmas.Int.{ints, to_z-of_z}
use Rattle.std.specs.Int.{w128}
use Rattle.smithy_instants.proofs.PowerLemmas.{small_power, great_power}
use Rattle.smithy_instants.proofs.epoch.times_power_of_ten.Goals as goal

pub returns-then-power-ge39 : goal.returns-then-power-ge39
returns-then-power-ge39 c = λ fits.
    let power : 39 ≤ unsigned_abs c.args.power = omega (arith, ints) in
    omega (arith, great_power c.args.value (unsigned_abs c.args.power) c.requires.value power)

pub pow-requires : goal.pow-requires
pow-requires c =
    let power : unsigned_abs c.args.power < 39 = omega (arith, ints) in
    rw (to_z-of_z w128 c.args.power c.ranges.power) (small_power (unsigned_abs c.args.power) power)
