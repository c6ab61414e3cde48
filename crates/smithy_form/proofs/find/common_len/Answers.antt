use Rattle.std.proofs.Common.{sym, ◌∙◌, arith}
use Rattle.smithy_form.proofs.NameOrder.{common_next}
use Rattle.smithy_form.proofs.find.common_len.Goals as goal

pub loop-at-preserved : goal.loop-at-preserved
loop-at-preserved c =
    let step = common_next c.loop-at.at c.args.a.now c.args.b.now c.loop-at-test.true c.if-at-b.true c.if-a-at.true in
    (omega (arith, c.loop-at-test.true), omega (arith, c.if-at-b.true), sym step ∙ c.loop-at.invariant.2)
