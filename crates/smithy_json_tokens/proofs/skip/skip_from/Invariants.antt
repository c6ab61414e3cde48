use Rattle.std.proofs.Common.{◌≤◌, List, Result}
use Rattle.smithy_json_tokens.specs.Skipping.{Skips}
use Rattle.smithy_json_tokens.specs.declared.error.DeserializeError.{DeserializeError}
use Rattle.smithy_json_tokens.proofs.skip.skip_from.Given as goal

-- what is skipped from where the loop has come, is skipped from where it began
abbrev pub invariant-loop-item : goal.invariant-loop-item
invariant-loop-item g l =
    (goal.iterator-loop-item g).can_next l.tokens × (goal.iterator-loop-item g).is_finite l.tokens
    × (l.depth ≤ l.limit)
    × ((passed : List _) (result : Result (Unit {0}) DeserializeError) (t : _)
    → Skips g.T.IsToken.view g.T.IsToken.place g.I.Iterator.next_gives l.limit passed l.depth l.tokens result t
    → (all : List _) × Skips g.T.IsToken.view g.T.IsToken.place g.I.Iterator.next_gives l.limit all l.initial.depth l.initial.tokens result t)
