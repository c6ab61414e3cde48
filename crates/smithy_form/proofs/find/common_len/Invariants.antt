use Rattle.std.proofs.Common.{◌≡◌, ◌≤◌, ◌-◌, length, drop}
use Rattle.smithy_form.specs.Private.Order.{name_cmp}
use Rattle.smithy_form.proofs.find.common_len.Given as goal

abbrev pub invariant-loop-at : goal.invariant-loop-at
invariant-loop-at l = (l.at ≤ length l.a) × (l.at ≤ length l.b) × (name_cmp (drop l.at l.a) (drop l.at l.b) ≡ name_cmp l.a l.b)

abbrev pub decreases-loop-at : goal.decreases-loop-at
decreases-loop-at l = length l.a - l.at
