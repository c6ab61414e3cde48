use Rattle.std.proofs.Common.{◌≡◌, drop, length, nat_le}
use Rattle.std.specs.List.{list_all}
use Rattle.smithy_declarations.specs.TableText.{given}
use Rattle.smithy_declarations.specs.Private.Words.{texts}
use Rattle.smithy_declarations.proofs.table_text.line.is_each_given_once.Given as goal

abbrev pub invariant-loop-name : goal.invariant-loop-name
invariant-loop-name l = list_all (λ name. nat_le (length (given (texts l.words) name)) 1) (texts (drop l.name-index l.names)) ≡ list_all (λ name. nat_le (length (given (texts l.words) name)) 1) (texts l.names)
