use Rattle.smithy_model_table.proofs.Visited.{nothing_came}
use Rattle.smithy_model_table.proofs.Reachable.{number_more}
use Rattle.smithy_model_table.proofs.reached.visit_all.Goals as goal

pub loop-number-init : goal.loop-number-init
loop-number-init c = nothing_came c.args.seen.now.items c.args.order.now.items

pub loop-number-preserved : goal.loop-number-preserved
loop-number-preserved c =
    number_more c.args.numbers.now c.loop-number.number-index _ c.loop-number-test.true c.loop-number.invariant c.in_ok-visit.ensures
