use Rattle.std.proofs.Common.{◌≡◌, ◌++◌, ℕ, List, [], drop, Bor}
use Rattle.std.specs.Prelude.{map as mapped}
use Rattle.smithy_tree.specs.Order.{key_cmp, put_slots, second}
use Rattle.smithy_tree.proofs.Mapping.{AreMarked, IsKey}
use Rattle.smithy_tree.proofs.in_maps.by_keys.Given as goal

-- the children that are left come behind those in the map
abbrev pub invariant-loop-slot : goal.invariant-loop-slot
invariant-loop-slot l =
    let bytes = l.input ++ l.side in
    record {
      marked : AreMarked (IsKey (λ (k : Bor (List ℕ)). k.now) bytes) l.map.entries;
      rest : put_slots (key_cmp bytes) (mapped second l.map.entries) (drop l.slot-index l.slots) ≡ put_slots (key_cmp bytes) [] l.slots;
    }
