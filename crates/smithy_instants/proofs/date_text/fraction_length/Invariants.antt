use Rattle.std.proofs.Common.{◌≡◌, ◌+◌, ◌-◌, ◌≤◌, length, drop}
use Rattle.std.specs.Char.{is_ascii_digit}
use Rattle.std.specs.List.{prefix_len}
use Rattle.smithy_instants.specs.DateText.{fraction_length}
use Rattle.smithy_instants.proofs.date_text.fraction_length.Given as goal

-- the digits go on where the loop has come
abbrev pub invariant-loop-end : goal.invariant-loop-end
invariant-loop-end l = record {
  within : l.end ≤ length l.text;
  same : l.end + prefix_len is_ascii_digit (drop l.end l.text) ≡ fraction_length l.text;
}

abbrev pub decreases-loop-end : goal.decreases-loop-end
decreases-loop-end l = length l.text - l.end
