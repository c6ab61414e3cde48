use Rattle.std.proofs.Common.{map}
use Rattle.smithy_model.specs.Mixing.{TakesInMore}
use Rattle.smithy_model.specs.Views.{shape_view}
use Rattle.smithy_model.proofs.mixin_order.take_in_users.Given as goal

-- the shapes so far
abbrev pub invariant-loop-user : goal.invariant-loop-user
invariant-loop-user l =
    TakesInMore (map shape_view l.initial.shapes.items) l.initial.done.items l.initial.order.items (map shape_view l.shapes.items) l.done.items l.order.items
