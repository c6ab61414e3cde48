use Rattle.std.proofs.Common.{◌≡◌, ◌≤◌, ◌-◌, length, true}
use Rattle.std.specs.List.{AllWithin}
use Rattle.smithy_form.specs.Private.Kept.{is_not_behind}
use Rattle.smithy_form.proofs.find.count_of.Given as goal

abbrev pub invariant-loop-count : goal.invariant-loop-count
invariant-loop-count l = (l.count ≤ length l.pairs) × AllWithin (λ p. is_not_behind l.at l.segment p ≡ true) l.pairs 0 l.count

abbrev pub decreases-loop-count : goal.decreases-loop-count
decreases-loop-count l = length l.pairs - l.count
