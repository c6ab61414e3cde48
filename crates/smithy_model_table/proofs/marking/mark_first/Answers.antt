use Rattle.smithy_model.specs.Views.{model_view}
use Rattle.smithy_model_table.proofs.Fewest.{no_mark, marks_more}
use Rattle.smithy_model_table.proofs.marking.mark_first.Goals as goal

pub loop-number-init : goal.loop-number-init
loop-number-init c = no_mark (model_view c.args.model.now) c.args.marks.now.items c.args.order.now.items

pub loop-number-preserved : goal.loop-number-preserved
loop-number-preserved c = marks_more c.loop-number.invariant c.in_ok-mark.ensures
