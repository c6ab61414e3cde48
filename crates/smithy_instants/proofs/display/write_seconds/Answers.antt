use Rattle.std.proofs.Common.{arith}
use Rattle.std.proofs.lemmas.Grind.{common_steps}
use Rattle.smithy_instants.proofs.display.write_seconds.Goals as goal

pub overflow_cast-size : goal.overflow_cast-size
overflow_cast-size g c = grind (arith, common_steps)

pub write_fraction-requires-clause-width : goal.write_fraction-requires-clause-width
write_fraction-requires-clause-width g c = grind (arith, common_steps)

pub write_fraction-requires-clause-small : goal.write_fraction-requires-clause-small
write_fraction-requires-clause-small g c = grind (arith, common_steps)
