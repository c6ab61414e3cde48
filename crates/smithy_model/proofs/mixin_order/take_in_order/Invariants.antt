use Rattle.std.proofs.Common.{◌+◌, ◌-◌, length, map}
use Rattle.smithy_model.specs.Mixing.{TakesInMore, count_of_waiting}
use Rattle.smithy_model.specs.Views.{shape_view}
use Rattle.smithy_model.proofs.mixin_order.take_in_order.Given as goal

-- the shapes so far
abbrev pub invariant-loop-turn : goal.invariant-loop-turn
invariant-loop-turn l =
    TakesInMore (map shape_view l.initial.shapes.items) l.initial.done.items l.initial.order.items (map shape_view l.shapes.items) l.done.items l.order.items

-- each turn goes on by one of those whose mixins are done
abbrev pub decreases-loop-turn : goal.decreases-loop-turn
decreases-loop-turn l = count_of_waiting l.done.items + length l.order.items - l.turn
