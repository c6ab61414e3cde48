use Rattle.std.proofs.Common.{◌≡◌, ◌++◌, [], drop}
use Rattle.smithy_tree.specs.Order.{label_cmp, put_slots, AreLabelled}
use Rattle.smithy_tree.proofs.order.by_moving.Given as goal

-- the children that are left come behind those in order
abbrev pub invariant-loop-slot : goal.invariant-loop-slot
invariant-loop-slot l =
    let cmp = label_cmp l.order (l.input ++ l.side) in
    record {
      labels : AreLabelled l.input l.side l.ordered.items;
      rest : put_slots cmp l.ordered.items (drop l.slot-index l.slots) ≡ put_slots cmp [] l.slots;
    }
