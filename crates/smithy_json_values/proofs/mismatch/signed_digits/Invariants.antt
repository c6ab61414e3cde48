use Rattle.std.proofs.Common.{◌≡◌, ◌+◌, ◌-◌, ◌≤◌, length, drop}
use Rattle.std.specs.List.{prefix_len}
use Rattle.smithy_json_values.specs.TypeMismatch.{is_signed_digit}
use Rattle.smithy_json_values.proofs.mismatch.signed_digits.Given as goal

-- the run goes on where the loop has come
abbrev pub invariant-loop-count : goal.invariant-loop-count
invariant-loop-count l = record {
  within : l.count ≤ length l.bytes;
  same_run : l.count + prefix_len is_signed_digit (drop l.count l.bytes) ≡ prefix_len is_signed_digit l.bytes;
}

abbrev pub decreases-loop-count : goal.decreases-loop-count
decreases-loop-count l = length l.bytes - l.count
