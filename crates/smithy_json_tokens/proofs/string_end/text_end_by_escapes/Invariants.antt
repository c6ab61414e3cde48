use Rattle.std.proofs.Common.{◌≡◌, ◌+◌, ◌-◌, ◌≤◌, ◌<◌, length, drop, slice_index, false}
use Rattle.smithy_json_grammar.specs.Private.Chars.{is_plain}
use Rattle.smithy_json_tokens.specs.TokenRules.{text_length}
use Rattle.smithy_json_tokens.proofs.string_end.text_end_by_escapes.Given as goal

-- the text goes on where the loop has come, with a byte that doesn't stand for itself
abbrev pub invariant-loop-end : goal.invariant-loop-end
invariant-loop-end l = record {
  within : l.end ≤ length l.input;
  same_text : l.at + text_length (drop l.at l.input) ≡ l.end + text_length (drop l.end l.input);
  stops : l.end < length l.input → is_plain (slice_index l.input l.end) ≡ false;
}

abbrev pub decreases-loop-end : goal.decreases-loop-end
decreases-loop-end l = length l.input - l.end
