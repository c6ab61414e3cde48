use Rattle.std.proofs.Common.{◌≡◌, ◌+◌, ◌-◌, ◌≤◌, length, drop}
use Rattle.std.specs.List.{position_or_len}
use Rattle.smithy_texts.specs.Decimal.{is_point}
use Rattle.smithy_texts.proofs.decimal_text.point_at.Given as goal

-- none stands before the place that was reached
abbrev pub invariant-loop-at : goal.invariant-loop-at
invariant-loop-at l = record {
  within : l.at ≤ length l.text;
  same : l.at + position_or_len is_point (drop l.at l.text) ≡ position_or_len is_point l.text;
}

abbrev pub decreases-loop-at : goal.decreases-loop-at
decreases-loop-at l = length l.text - l.at
