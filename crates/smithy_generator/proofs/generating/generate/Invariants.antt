use Rattle.std.proofs.Common.{◌≡◌, ◌++◌, ◌-◌, ◌≤◌, codes}
use Rattle.smithy_generator.specs.Generated.{number_at, items_to}
use Rattle.smithy_generator.proofs.generating.generate.Given as goal

abbrev pub invariant-loop-made : goal.invariant-loop-made
invariant-loop-made l = record {
  items : l.text.items ≡ codes "{\"items\":[" ++ items_to l.seed l.made;
  number : l.x ≡ number_at l.seed l.made;
  within : l.made ≤ l.count;
}

abbrev pub decreases-loop-made : goal.decreases-loop-made
decreases-loop-made l = l.count - l.made
