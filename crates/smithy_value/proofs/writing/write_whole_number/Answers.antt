use Rattle.std.proofs.Common.{arith}
use Rattle.std.proofs.lemmas.Grind.{common_steps}
use Rattle.smithy_value.proofs.writing.write_whole_number.Goals as goal

pub overflow_cast-number : goal.overflow_cast-number
overflow_cast-number g c = grind (arith, common_steps)

pub overflow_cast-number-in-Short : goal.overflow_cast-number-in-Short
overflow_cast-number-in-Short g c = grind (arith, common_steps)

pub overflow_cast-number-in-Integer : goal.overflow_cast-number-in-Integer
overflow_cast-number-in-Integer g c = grind (arith, common_steps)

pub overflow_cast-number-in-Long : goal.overflow_cast-number-in-Long
overflow_cast-number-in-Long g c = grind (arith, common_steps)

pub unreachable-requires : goal.unreachable-requires
unreachable-requires g c = grind (arith, common_steps)
