use Rattle.std.proofs.Common.{◌≡◌, ◌-◌, ◌≤◌, ◌++◌, length, drop}
use Rattle.std.specs.List.{prefix_len}
use Rattle.smithy_json.specs.Escape.{escaped}
use Rattle.smithy_json_grammar.specs.Private.Chars.{is_plain}
use Rattle.smithy_json.proofs.escape.push_from_stop.Given as goal

-- with what is left of the text, what was written is all that is to be written
abbrev pub invariant-loop-stop : goal.invariant-loop-stop
invariant-loop-stop g l = record {
  within : l.stop ≤ length l.text;
  stops : prefix_len is_plain (drop l.stop l.text) ≡ 0;
  all : g.T.AppendText.bytes l.out ++ escaped (drop l.stop l.text) ≡ g.T.AppendText.bytes l.fn.out ++ escaped l.text;
  longer : length (g.T.AppendText.bytes l.fn.out) ≤ length (g.T.AppendText.bytes l.out);
}

abbrev pub decreases-loop-stop : goal.decreases-loop-stop
decreases-loop-stop g l = length l.text - l.stop
