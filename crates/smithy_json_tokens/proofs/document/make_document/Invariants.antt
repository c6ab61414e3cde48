use Rattle.std.proofs.Common.{List, [], Result, vec_items}
use Rattle.smithy_types.specs.declared.document.Document.{Document}
use Rattle.smithy_json_tokens.specs.Private.Frames.{frames_view}
use Rattle.smithy_json_tokens.specs.declared.error.DeserializeError.{DeserializeError}
use Rattle.smithy_json_tokens.proofs.DocumentLaws.{MakesFrom}
use Rattle.smithy_json_tokens.proofs.document.make_document.Given as goal

-- what is made from where the loop has come, is made from where it began
abbrev pub invariant-loop-item : goal.invariant-loop-item
invariant-loop-item g l =
    (goal.iterator-loop-item g).can_next l.tokens × (goal.iterator-loop-item g).is_finite l.tokens
    × ((taken : List _) (result : Result Document DeserializeError) (t : _)
    → MakesFrom g.T.IsToken.view g.T.IsToken.place g.I.Iterator.next_gives (frames_view (vec_items l.frames)) taken l.tokens result t
    → (all : List _) × MakesFrom g.T.IsToken.view g.T.IsToken.place g.I.Iterator.next_gives [] all l.initial.tokens result t)
