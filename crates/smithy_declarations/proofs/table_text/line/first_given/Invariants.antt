use Rattle.std.proofs.Common.{◌≡◌, drop}
use Rattle.smithy_declarations.specs.TableText.{first_given}
use Rattle.smithy_declarations.specs.Private.Words.{texts}
use Rattle.smithy_declarations.proofs.table_text.line.first_given.Given as goal

abbrev pub invariant-loop-word : goal.invariant-loop-word
invariant-loop-word l = first_given (texts (drop l.word-index l.words)) l.name ≡ first_given (texts l.words) l.name
