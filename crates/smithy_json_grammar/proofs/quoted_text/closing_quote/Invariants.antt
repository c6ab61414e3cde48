use Rattle.std.proofs.Common.{◌≡◌, ◌-◌, ◌≤◌, ◌<◌, true, false, length, slice_index}
use Rattle.smithy_json_grammar.specs.Stops.{is_stop}
use Rattle.smithy_json_grammar.specs.Private.Chars.{quoted_from}
use Rattle.smithy_json_grammar.proofs.quoted_text.closing_quote.Given as goal

-- the mark is the first from where the loop has come, where a mark or a backslash stands
abbrev pub invariant-loop-end : goal.invariant-loop-end
invariant-loop-end l = record {
  further : l.fn.at ≤ l.end;
  within : l.end ≤ length l.input;
  same_mark : quoted_from l.input l.fn.at ≡ quoted_from l.input l.end;
  stops : l.end < length l.input → is_stop false (slice_index l.input l.end) ≡ true;
}

abbrev pub decreases-loop-end : goal.decreases-loop-end
decreases-loop-end l = length l.input - l.end
