use Rattle.std.proofs.Common.{◌≡◌, ◌+◌, ◌-◌, ◌≤◌, length, drop}
use Rattle.smithy_json_tokens.specs.TokenRules.{text_length}
use Rattle.smithy_json_tokens.proofs.string_end.text_end_by_blocks.Given as goal

-- the text goes on where the loop has come
abbrev pub invariant-loop-end : goal.invariant-loop-end
invariant-loop-end l = record {
  within : l.end ≤ length l.input;
  same_text : l.at + text_length (drop l.at l.input) ≡ l.end + text_length (drop l.end l.input);
}

abbrev pub decreases-loop-end : goal.decreases-loop-end
decreases-loop-end l = length l.input - l.end
