use Rattle.std.proofs.Common.{◌≡◌, ◌+◌, ◌-◌, ◌≤◌, length, drop}
use Rattle.smithy_json_grammar.specs.Private.Numeral.{digit_count}
use Rattle.smithy_json_grammar.proofs.number_text.digit_run_end.Given as goal

-- the run goes on where the loop has come
abbrev pub invariant-loop-end : goal.invariant-loop-end
invariant-loop-end l = record {
  within : l.end ≤ length l.input;
  same_run : l.at + digit_count (drop l.at l.input) ≡ l.end + digit_count (drop l.end l.input);
}

abbrev pub decreases-loop-end : goal.decreases-loop-end
decreases-loop-end l = length l.input - l.end
