use Rattle.std.proofs.Common.{take, map}
use Rattle.smithy_model.specs.Views.{member_view}
use Rattle.smithy_model_table.specs.Reaching.{held_targets}
use Rattle.smithy_model_table.specs.Views.{bindings_view}
use Rattle.smithy_model_table.specs.Visiting.{Visits}
use Rattle.smithy_model_table.proofs.reached.visit_members.Given as goal

-- the targets so far
abbrev pub invariant-loop-member : goal.invariant-loop-member
invariant-loop-member l =
    Visits l.initial.seen.items l.initial.order.items l.seen.items l.order.items
    (held_targets l.marks (bindings_view l.counting) (map member_view (take l.member-index l.members)))
