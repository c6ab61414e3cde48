use Rattle.std.proofs.Common.{sym, ◌∙◌}
use Rattle.smithy_form.proofs.PlaceLemmas.{ends_there}
use Rattle.smithy_form.proofs.find.count_of.Goals as goal

pub returns-then-not-is_not_behind : goal.returns-then-not-is_not_behind
returns-then-not-is_not_behind c =
    ends_there c.args.at c.args.segment.now c.args.pairs.now c.index-pairs-count.result c.loop-count.count c.requires c.loop-count-test.true
    c.index-pairs-count.is (sym c.is_not_behind.ensures ∙ c.if-not-is_not_behind.true) c.loop-count.invariant.1
