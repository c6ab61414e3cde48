use Rattle.std.proofs.Common.{◌≡◌, ◌+◌, ◌-◌, ◌≤◌, length, drop, false}
use Rattle.smithy_json_tokens.specs.TokenRules.{number_length}
use Rattle.smithy_json_tokens.proofs.token_scan.number_end.Given as goal

-- the run goes on where the loop has come
abbrev pub invariant-loop-end : goal.invariant-loop-end
invariant-loop-end l = record {
  within : l.end ≤ length l.input;
  same_run : l.at + number_length false (drop l.at l.input) ≡ l.end + number_length l.sign (drop l.end l.input);
}

abbrev pub decreases-loop-end : goal.decreases-loop-end
decreases-loop-end l = length l.input - l.end
