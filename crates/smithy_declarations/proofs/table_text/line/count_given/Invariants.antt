use Rattle.std.proofs.Common.{◌≡◌, ◌≤◌, ◌+◌, drop, length}
use Rattle.smithy_declarations.specs.TableText.{given}
use Rattle.smithy_declarations.specs.Private.Words.{texts}
use Rattle.smithy_declarations.proofs.table_text.line.count_given.Given as goal

abbrev pub invariant-loop-word : goal.invariant-loop-word
invariant-loop-word l =
    (l.count + length (given (texts (drop l.word-index l.words)) l.name) ≡ length (given (texts l.words) l.name)) × (l.count ≤ l.word-index)
