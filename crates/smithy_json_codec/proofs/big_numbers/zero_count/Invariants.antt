use Rattle.std.proofs.Common.{◌≡◌, ◌==◌, ◌+◌, ◌-◌, ◌≤◌, length, drop}
use Rattle.std.specs.List.{prefix_len}
use Rattle.smithy_json_grammar.specs.Ascii.{digit_zero}
use Rattle.smithy_json_codec.proofs.big_numbers.zero_count.Given as goal

-- zeros alone stand before the place that was reached
abbrev pub invariant-loop-count : goal.invariant-loop-count
invariant-loop-count l = record {
  within : l.count ≤ length l.digits;
  same : l.count + prefix_len (λ b. b == digit_zero) (drop l.count l.digits) ≡ prefix_len (λ b. b == digit_zero) l.digits;
}

abbrev pub decreases-loop-count : goal.decreases-loop-count
decreases-loop-count l = length l.digits - l.count
