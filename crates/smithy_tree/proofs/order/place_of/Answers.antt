use Rattle.std.proofs.Common.{◌≡◌, ◌∙◌, ◌++◌, Equal, get_or, arith, sym}
use Rattle.smithy_tree.specs.Order.{label_cmp}
use Rattle.smithy_tree.proofs.Ordering.{blank, labelled_at, stands_at}
use Rattle.smithy_tree.proofs.order.place_of.Goals as goal

pub compare-requires-clause-other : goal.compare-requires-clause-other
compare-requires-clause-other c = labelled_at c.args.input.now c.args.side.now c.args.ordered.now c.loop-place.place blank (omega arith) c.requires.labels

pub returns-in-Equal-clause-place : goal.returns-in-Equal-clause-place
returns-in-Equal-clause-place c =
    let cmp = label_cmp c.args.order (c.args.input.now ++ c.args.side.now) in
    let equal : cmp c.args.slot (get_or c.args.ordered.now c.loop-place.place blank) ≡ Equal = sym c.compare.ensures ∙ c.in-Equal.is in
    stands_at cmp c.args.slot c.args.ordered.now c.loop-place.place blank (omega arith) equal c.loop-place.invariant.rest
