use Rattle.std.proofs.Common.{◌≤◌, length, subst}
use Rattle.smithy_form.proofs.OrderLemmas.{alone, not_one, goes_past}
use Rattle.smithy_form.proofs.find.only_here.Goals as goal

pub returns-then-pairs-ne1 : goal.returns-then-pairs-ne1
returns-then-pairs-ne1 c = not_one c.args.at c.args.pairs.now c.requires.sorted c.if-pairs-ne1.true

pub returns-then-at-as_str : goal.returns-then-at-as_str
returns-then-at-as_str c =
    goes_past c.args.at c.args.pairs.now c.index-pairs-0.result (alone c.args.pairs.now c.index-pairs-0.result c.if-pairs-ne1.false c.index-pairs-0.is)
    (subst (λ name. c.args.at ≤ length name) c.as_str.ensures.value c.if-at-as_str.true) c.requires.sorted
