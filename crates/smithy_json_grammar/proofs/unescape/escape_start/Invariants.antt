use Rattle.std.proofs.Common.{◌≡◌, ◌+◌, ◌-◌, ◌≤◌, length, drop}
use Rattle.std.specs.List.{prefix_len}
use Rattle.smithy_json_grammar.specs.Private.Unescaping.{is_no_escape}
use Rattle.smithy_json_grammar.proofs.unescape.escape_start.Given as goal

-- the run goes on where the loop has come
abbrev pub invariant-loop-end : goal.invariant-loop-end
invariant-loop-end l = record {
  within : l.end ≤ length l.input;
  same_run : l.at + prefix_len is_no_escape (drop l.at l.input) ≡ l.end + prefix_len is_no_escape (drop l.end l.input);
}

abbrev pub decreases-loop-end : goal.decreases-loop-end
decreases-loop-end l = length l.input - l.end
