use Rattle.std.proofs.Common.{sym, ◌∙◌, arith}
use Rattle.smithy_form.proofs.PlaceLemmas.{begins_first, begins_behind}
use Rattle.smithy_form.proofs.find.begin_there.Goals as goal

pub returns-then-near-eq0 : goal.returns-then-near-eq0
returns-then-near-eq0 c =
    λ yes. begins_first c.args.at c.args.segment.now c.args.pairs.now c.index-pairs-near.result c.args.near c.requires c.if-near-eq0.true c.if-near-pairs.false
    c.index-pairs-near.is (sym c.is_before.ensures ∙ c.if-is_before.false)

pub returns : goal.returns
returns c =
    λ yes. begins_behind c.args.at c.args.segment.now c.args.pairs.now c.index-pairs-near.result c.index-pairs-near-2.result c.args.near c.requires
    (omega (arith, c.if-near-eq0.false)) c.if-near-pairs.false c.index-pairs-near.is (sym c.is_before.ensures ∙ c.if-is_before.false)
    c.index-pairs-near-2.is (sym c.is_before-2.ensures ∙ yes)
