use Rattle.std.proofs.Common.{◌≡◌, ◌-◌, ◌≤◌, length, drop}
use Rattle.smithy_json_grammar.specs.StringText.{escapes_are_valid}
use Rattle.smithy_json_grammar.proofs.quoted_text.escapes_are_valid.Given as goal

-- the escapes from where the loop has come decide
abbrev pub invariant-loop-at : goal.invariant-loop-at
invariant-loop-at l = record {
  within : l.at ≤ length l.bytes;
  same : escapes_are_valid l.bytes ≡ escapes_are_valid (drop l.at l.bytes);
}

abbrev pub decreases-loop-at : goal.decreases-loop-at
decreases-loop-at l = length l.bytes - l.at
