use Rattle.std.proofs.Common.{◌≡◌, ◌-◌, ◌≤◌, ◌<◌, false, length, slice_index}
use Rattle.smithy_json_grammar.specs.Private.Chars.{is_plain, closing_from}
use Rattle.smithy_json_grammar.proofs.string_text.closing_mark.Given as goal

-- the text goes on where the loop has come, with a byte that doesn't stand for itself
abbrev pub invariant-loop-end : goal.invariant-loop-end
invariant-loop-end l = record {
  further : l.at ≤ l.end;
  within : l.end ≤ length l.input;
  same_mark : closing_from l.input l.at ≡ closing_from l.input l.end;
  stops : l.end < length l.input → is_plain (slice_index l.input l.end) ≡ false;
}

abbrev pub decreases-loop-end : goal.decreases-loop-end
decreases-loop-end l = length l.input - l.end
