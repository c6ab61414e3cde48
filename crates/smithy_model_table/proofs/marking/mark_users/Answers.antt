use Rattle.smithy_model.specs.Views.{model_view}
use Rattle.smithy_model_table.proofs.Fewest.{no_mark, marks_more}
use Rattle.smithy_model_table.proofs.marking.mark_users.Goals as goal

pub loop-user-init : goal.loop-user-init
loop-user-init c = no_mark (model_view c.args.model.now) c.args.marks.now.items c.args.order.now.items

pub loop-user-preserved : goal.loop-user-preserved
loop-user-preserved c = marks_more c.loop-user.invariant c.in_ok-mark.ensures
