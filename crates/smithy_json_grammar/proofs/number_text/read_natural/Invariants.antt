use Rattle.std.proofs.Common.{◌≡◌, ◌+◌, ◌-◌, ◌≤◌, length, drop}
use Rattle.smithy_json_grammar.specs.Private.Numeral.{digit_count, run_value}
use Rattle.smithy_json_grammar.proofs.number_text.read_natural.Given as goal

-- the run goes on where the loop has come, and the value behind its digits so far
abbrev pub invariant-loop-end : goal.invariant-loop-end
invariant-loop-end l = record {
  ordered : l.at ≤ l.end;
  within : l.end ≤ length l.input;
  same_run : l.at + digit_count (drop l.at l.input) ≡ l.end + digit_count (drop l.end l.input);
  same_value : run_value 0 (drop l.at l.input) ≡ run_value l.value (drop l.end l.input);
}

abbrev pub decreases-loop-end : goal.decreases-loop-end
decreases-loop-end l = length l.input - l.end
