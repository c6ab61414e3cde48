use Rattle.std.proofs.Common.{◌≡◌, ◌≤◌, ◌-◌, length, drop}
use Rattle.smithy_form.specs.Private.Order.{least_repeated}
use Rattle.smithy_form.proofs.sorting.least_repeated.Given as goal

abbrev pub invariant-loop-at : goal.invariant-loop-at
invariant-loop-at l = (l.least ≡ least_repeated (drop (l.at - 1) l.pairs)) × (l.at ≤ length l.pairs)

abbrev pub decreases-loop-at : goal.decreases-loop-at
decreases-loop-at l = l.at
