use Rattle.std.proofs.Common.{◌≡◌, ◌-◌, ◌≤◌, ◌<◌, ℕ, true, length, slice_index}
use Rattle.smithy_json_grammar.specs.Ascii.{is_numeric}
use Rattle.smithy_json_grammar.proofs.number_run.number_run_end.Given as goal

-- each byte that was passed is one of numbers
abbrev pub invariant-loop-end : goal.invariant-loop-end
invariant-loop-end l = record {
  ordered : l.at ≤ l.end;
  within : l.end ≤ length l.input;
  pass : (k : ℕ) → l.at ≤ k → k < l.end → is_numeric (slice_index l.input k) ≡ true;
}

abbrev pub decreases-loop-end : goal.decreases-loop-end
decreases-loop-end l = length l.input - l.end
