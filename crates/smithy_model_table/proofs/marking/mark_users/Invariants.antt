use Rattle.smithy_model.specs.Views.{model_view}
use Rattle.smithy_model_table.specs.Marking.{Marks}
use Rattle.smithy_model_table.proofs.marking.mark_users.Given as goal

-- the marks so far
abbrev pub invariant-loop-user : goal.invariant-loop-user
invariant-loop-user l = Marks (model_view l.model) l.initial.marks.items l.initial.order.items l.marks.items l.order.items
