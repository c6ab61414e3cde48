use Rattle.std.proofs.Common.{arith, Some, sym, ◌∙◌, ap}
use Rattle.smithy_compare.specs.View.{path_of, found_path}
use Rattle.smithy_compare.specs.Private.Nodes.{node_tree}
use Rattle.smithy_compare.proofs.Walks.{begun, begun_below, alone, both, part_below}
use Rattle.smithy_compare.proofs.walk.+walk.Goals as goal

pub loop-label-init : goal.loop-label-init
loop-label-init t c = record {
  found = begun _ _ _ _ _ _ _ c.split-top.ensures.shows c.split-other_top.ensures.shows c.is.ensures c.if-not-is.false;
  below = begun_below _ _ _ c.split-top.ensures.shows;
  stand = (c.split-top.ensures.stands, c.split-other_top.ensures.stands);
}

pub returns-in-End : goal.returns-in-End
returns-in-End t c = sym (c.loop-label.invariant.found ∙ (rw c.in-End.is at c.next_pair.ensures.next))

pub returns-in-Alone : goal.returns-in-Alone
returns-in-Alone t c =
    ap Some c.in_ok-behind-in-Alone.ensures ∙ alone c.new-in-Alone.result c.new-in-Alone.ensures.items ∙ sym (c.loop-label.invariant.found ∙ (rw c.in-Alone.is at c.next_pair.ensures.next))

pub first_difference-requires : goal.first_difference-requires
first_difference-requires t c =
    let pair = rw c.in-Both.is at c.next_pair.ensures.next in
    let below = part_below _ _ _ _ (node_tree c.args.left.now) pair.0 c.loop-label.invariant.below in
    let stand = rw c.in-Both.is at c.next_pair.ensures.stands in
    (omega (arith, below.0, c.decreases), (stand.0.0, stand.1.0))

pub returns-in-Some : goal.returns-in-Some
returns-in-Some t c =
    let pair = rw c.in-Both.is at c.next_pair.ensures.next in
    let told = both _ _ _ _ _ _ _ _ (found_path c.in_ok-path-in-Both.field-0) pair.0 pair.1.1 pair.1.2 c.in_ok-path-in-Both.ensures in
    ap Some c.in_ok-behind-in-Both.ensures ∙ sym (c.loop-label.invariant.found ∙ told.1 (path_of c.in-Some.path) (ap found_path c.in-Some.is))

pub loop-label-smaller : goal.loop-label-smaller
loop-label-smaller t c =
    let pair = rw c.in-Both.is at c.next_pair.ensures.next in
    (part_below _ _ _ _ (node_tree c.args.left.now) pair.0 c.loop-label.invariant.below).2

pub loop-label-preserved : goal.loop-label-preserved
loop-label-preserved t c =
    let pair = rw c.in-Both.is at c.next_pair.ensures.next in
    let stand = rw c.in-Both.is at c.next_pair.ensures.stands in
    let told = both _ _ _ _ _ _ _ _ (found_path c.in_ok-path-in-Both.field-0) pair.0 pair.1.1 pair.1.2 c.in_ok-path-in-Both.ensures in
    record {
      found = c.loop-label.invariant.found ∙ told.0 (ap found_path c.in_default.is);
      below = (part_below _ _ _ _ (node_tree c.args.left.now) pair.0 c.loop-label.invariant.below).1;
      stand = (stand.0.1, stand.1.1);
    }
