use Rattle.std.proofs.Common.{◌≡◌, List, ℕ, [], subst, rules}
use Rattle.smithy_model.specs.Views.{model_view}
use Rattle.smithy_model_table.specs.Marking.{Marks}
use Rattle.smithy_model_table.proofs.Fewest.{no_mark, marks_more}
use Rattle.smithy_model_table.proofs.marking.mark_in_order.Goals as goal

pub loop-turn-init : goal.loop-turn-init
loop-turn-init c = no_mark (model_view c.args.model.now) c.mark_first.new.marks.items c.mark_first.new.order.items

pub loop-turn-preserved : goal.loop-turn-preserved
loop-turn-preserved c = marks_more c.loop-turn.invariant c.in_ok-mark_users.ensures

pub returns : goal.returns
returns c =
    let empty : c.new-order.result.items ≡ [] = search rules in
    let first = subst (λ (os : List ℕ). Marks (model_view c.args.model.now) c.args.marks.now.items os c.mark_first.new.marks.items c.mark_first.new.order.items) empty
    c.in_ok-mark_first.ensures in
    (c.loop-turn.order.items, marks_more first c.loop-turn.invariant)
