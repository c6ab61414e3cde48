use Rattle.std.proofs.Common.{◌≡◌, length}
use Rattle.smithy_form.specs.Private.Order.{name_cmp}
use Rattle.smithy_form.proofs.find.compare_by_segments.Given as goal

abbrev pub invariant-loop-left : goal.invariant-loop-left
invariant-loop-left l = name_cmp l.left l.right ≡ name_cmp l.a l.b

abbrev pub decreases-loop-left : goal.decreases-loop-left
decreases-loop-left l = length l.left
