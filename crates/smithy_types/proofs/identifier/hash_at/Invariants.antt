use Rattle.std.proofs.Common.{◌≡◌, ◌+◌, ◌-◌, ◌≤◌, length, drop}
use Rattle.std.specs.List.{position_or_len}
use Rattle.smithy_types.specs.Identifier.{is_hash}
use Rattle.smithy_types.proofs.identifier.hash_at.Given as goal

-- none stands before the place that was reached
abbrev pub invariant-loop-at : goal.invariant-loop-at
invariant-loop-at l = record {
  within : l.at ≤ length l.text;
  same : l.at + position_or_len is_hash (drop l.at l.text) ≡ position_or_len is_hash l.text;
}

abbrev pub decreases-loop-at : goal.decreases-loop-at
decreases-loop-at l = length l.text - l.at
