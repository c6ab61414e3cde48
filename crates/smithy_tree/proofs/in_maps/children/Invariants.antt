use Rattle.std.proofs.Common.{◌≡◌}
use Rattle.std.specs.Prelude.{map as mapped}
use Rattle.smithy_tree.specs.Order.{second}
use Rattle.smithy_tree.proofs.in_maps.children.Given as goal

abbrev pub invariant-loop-slot : goal.invariant-loop-slot
invariant-loop-slot g l = l.slots.items ≡ mapped second l.yielded
