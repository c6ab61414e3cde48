use Rattle.std.proofs.Common.{◌≡◌, ◌<◌}
use Rattle.smithy_compare.specs.FirstPath.{first_in, first_among}
use Rattle.smithy_compare.specs.Private.Nodes.{node_tree, parts_of}
use Rattle.smithy_compare.specs.Private.Standing.{PartsStand}
use Rattle.smithy_compare.proofs.Heights.{height, heights, count}
use Rattle.smithy_compare.proofs.walk.+walk.Given as goal

abbrev pub decreases-first_difference : goal.decreases-first_difference
decreases-first_difference l = height (node_tree l.left.now)

-- the values first differ where what is left of them does
abbrev pub invariant-loop-label : goal.invariant-loop-label
invariant-loop-label l = record {
  found : first_in (node_tree l.left) (node_tree l.right) ≡ first_among (parts_of l.parts) (parts_of l.other_parts);
  below : heights (parts_of l.parts) < height (node_tree l.left);
  stand : PartsStand l.parts × PartsStand l.other_parts;
}

abbrev pub decreases-loop-label : goal.decreases-loop-label
decreases-loop-label l = count (parts_of l.parts)
