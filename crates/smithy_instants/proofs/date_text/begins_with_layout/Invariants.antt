use Rattle.std.proofs.Common.{◌≡◌, ◌≤◌, length, drop}
use Rattle.smithy_instants.specs.DateText.{begins_with_layout}
use Rattle.smithy_instants.proofs.date_text.begins_with_layout.Given as goal

-- what comes decides
abbrev pub invariant-loop-at : goal.invariant-loop-at
invariant-loop-at l = record {
  within : l.at ≤ length l.text;
  same : begins_with_layout (drop l.at l.layout) (drop l.at l.text) ≡ begins_with_layout l.layout l.text;
}
