use Rattle.std.proofs.Common.{◌≡◌, ◌<◌, ◌≤◌, ◌-◌, ℕ, true, false, length}
use Rattle.smithy_declarations.specs.Private.Order.{is_before, name_in}
use Rattle.smithy_declarations.proofs.names.position_of.Given as goal

abbrev pub invariant-loop-low : goal.invariant-loop-low
invariant-loop-low g l = record {
  upwards : l.low ≤ l.high;
  within : l.high ≤ length l.order;
  before : (i : ℕ) → i < l.low → is_before (name_in (g.N.Named.names l.named) l.order i) l.name ≡ true;
  after : (i : ℕ) → l.high ≤ i → i < length l.order → is_before (name_in (g.N.Named.names l.named) l.order i) l.name ≡ false;
}

abbrev pub decreases-loop-low : goal.decreases-loop-low
decreases-loop-low g l = l.high - l.low
