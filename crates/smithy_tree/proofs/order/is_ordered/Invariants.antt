use Rattle.std.proofs.Common.{◌≡◌, ◌≤◌, ◌-◌, ◌++◌, [], take, get_or}
use Rattle.smithy_tree.specs.Order.{label_cmp, put_slots}
use Rattle.smithy_tree.proofs.Ordering.{AllBelow, blank}
use Rattle.smithy_tree.proofs.order.is_ordered.Given as goal

-- the children before this place are in order, and the last of them is behind the others
abbrev pub invariant-loop-place : goal.invariant-loop-place
invariant-loop-place l =
    let cmp = label_cmp l.order (l.input ++ l.side) in
    record {
      some : 1 ≤ l.place;
      done : put_slots cmp [] (take l.place l.slots) ≡ take l.place l.slots;
      below : AllBelow cmp (get_or l.slots (l.place - 1) blank) (take (l.place - 1) l.slots);
    }
