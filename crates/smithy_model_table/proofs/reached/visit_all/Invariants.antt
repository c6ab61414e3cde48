use Rattle.std.proofs.Common.{take}
use Rattle.smithy_model_table.specs.Visiting.{Visits}
use Rattle.smithy_model_table.proofs.reached.visit_all.Given as goal

-- the numbers so far
abbrev pub invariant-loop-number : goal.invariant-loop-number
invariant-loop-number l = Visits l.initial.seen.items l.initial.order.items l.seen.items l.order.items (take l.number-index l.numbers)
