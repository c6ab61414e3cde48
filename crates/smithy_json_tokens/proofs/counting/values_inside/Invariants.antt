use Rattle.std.proofs.Common.{◌≤◌, ◌+◌, ℕ, Option}
use Rattle.std.specs.Iterator.{size}
use Rattle.smithy_json_tokens.specs.IteratorView.{cursor_of, bytes_left}
use Rattle.smithy_json_tokens.specs.ContainerSize.{values_inside, Tells}
use Rattle.smithy_json_tokens.proofs.CountedValues.{more_than}
use Rattle.smithy_json_tokens.proofs.counting.values_inside.Given as goal

-- what is told from here on is told from the first token on, with the number so far; and each token was a byte at least
abbrev pub invariant-loop-item : goal.invariant-loop-item
invariant-loop-item l =
    record {
      can : (goal.iterator-loop-item).can_next l.tokens;
      ends : (goal.iterator-loop-item).is_finite l.tokens;
      few : l.count + size (bytes_left l.tokens) ≤ size (bytes_left l.initial.tokens);
      shallow : l.within + size (bytes_left l.tokens) ≤ size (bytes_left l.initial.tokens);
      told : (r : Option ℕ) → Tells (values_inside l.within) (cursor_of l.tokens) r → Tells (values_inside 0) (cursor_of l.initial.tokens) (more_than l.count r);
    }
