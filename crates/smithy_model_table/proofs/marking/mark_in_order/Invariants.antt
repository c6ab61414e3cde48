use Rattle.std.proofs.Common.{◌+◌, ◌-◌, length}
use Rattle.smithy_model.specs.Views.{model_view}
use Rattle.smithy_model_table.specs.Marking.{Marks, count_of_unmarked}
use Rattle.smithy_model_table.proofs.marking.mark_in_order.Given as goal

-- the marks so far
abbrev pub invariant-loop-turn : goal.invariant-loop-turn
invariant-loop-turn l = Marks (model_view l.model) l.initial.marks.items l.initial.order.items l.marks.items l.order.items

-- each turn goes on by one of those that were marked
abbrev pub decreases-loop-turn : goal.decreases-loop-turn
decreases-loop-turn l = count_of_unmarked l.marks.items + length l.order.items - l.turn
