use Rattle.std.proofs.Common.{◌∙◌, sym}
use Rattle.smithy_model.specs.Views.{member_view}
use Rattle.smithy_model_table.specs.Views.{bindings_view}
use Rattle.smithy_model_table.proofs.Visited.{nothing_came}
use Rattle.smithy_model_table.proofs.Reachable.{member_held}
use Rattle.smithy_model_table.proofs.reached.visit_members.Goals as goal

pub loop-member-init : goal.loop-member-init
loop-member-init c = nothing_came c.args.seen.now.items c.args.order.now.items

pub loop-member-preserved : goal.loop-member-preserved
loop-member-preserved c =
    member_held c.args.marks.now (bindings_view c.args.counting) member_view c.args.members.now c.loop-member.member-index _ c.loop-member-test.true
    (sym c.is_left_out.ensures ∙ c.if-is_left_out.false) c.loop-member.invariant c.in_ok-visit.ensures
