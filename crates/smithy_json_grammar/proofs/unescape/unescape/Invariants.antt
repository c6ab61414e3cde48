use Rattle.std.proofs.Common.{◌≡◌, ◌-◌, ◌≤◌, length, drop, string_bytes}
use Rattle.std.specs.Str.{IsCharBoundary}
use Rattle.smithy_json_grammar.specs.Unescape.{with_front, unescape}
use Rattle.smithy_json_grammar.proofs.unescape.unescape.Given as goal

-- the text so far comes before that of the rest
abbrev pub invariant-loop-text : goal.invariant-loop-text
invariant-loop-text l = record {
  within : l.at ≤ length l.value;
  boundary : IsCharBoundary l.value l.at;
  so_far : unescape l.value ≡ with_front (string_bytes l.text) (unescape (drop l.at l.value));
}

abbrev pub decreases-loop-text : goal.decreases-loop-text
decreases-loop-text l = length l.value - l.at
