use Rattle.std.proofs.Common.{Option}
use Rattle.smithy_json_tokens.specs.IteratorView.{cursor_of}
use Rattle.smithy_error_bodies.specs.Said.{Said}
use Rattle.smithy_error_bodies.specs.Private.JsonSteps.{fresh, state_of, reads, Tells}
use Rattle.smithy_error_bodies.proofs.json.read_object.Given as goal

-- what is told from here on is told from the first token on
abbrev pub invariant-loop-item : goal.invariant-loop-item
invariant-loop-item l = record {
  can : (goal.iterator-loop-item).can_next l.tokens;
  ends : (goal.iterator-loop-item).is_finite l.tokens;
  told : (r : Option Said) → Tells (reads (state_of l.reading)) (cursor_of l.tokens) r → Tells (reads fresh) (cursor_of l.initial.tokens) r;
}
