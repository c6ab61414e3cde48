use Rattle.std.proofs.Common.{◌≡◌, [], drop}
use Rattle.std.specs.Prelude.{map as mapped}
use Rattle.smithy_tree.specs.Order.{position_cmp, put_slots, second}
use Rattle.smithy_tree.proofs.Mapping.{AreMarked, IsPosition}
use Rattle.smithy_tree.proofs.in_maps.by_positions.Given as goal

-- the children that are left come behind those in the map
abbrev pub invariant-loop-slot : goal.invariant-loop-slot
invariant-loop-slot l =
    record {
      marked : AreMarked IsPosition l.map.entries;
      rest : put_slots position_cmp (mapped second l.map.entries) (drop l.slot-index l.slots) ≡ put_slots position_cmp [] l.slots;
    }
