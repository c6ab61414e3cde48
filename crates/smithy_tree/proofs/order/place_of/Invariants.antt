use Rattle.std.proofs.Common.{◌≡◌, ◌≤◌, ◌++◌, take, drop, length}
use Rattle.smithy_tree.specs.Order.{label_cmp, put_slot}
use Rattle.smithy_tree.proofs.order.place_of.Given as goal

-- the child stands behind those before this place
abbrev pub invariant-loop-place : goal.invariant-loop-place
invariant-loop-place l =
    let cmp = label_cmp l.order (l.input ++ l.side) in
    record {
      within : l.place ≤ length l.ordered;
      rest : put_slot cmp l.slot l.ordered ≡ take l.place l.ordered ++ put_slot cmp l.slot (drop l.place l.ordered);
    }
