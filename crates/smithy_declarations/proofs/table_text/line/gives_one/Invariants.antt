use Rattle.std.proofs.Common.{◌≡◌, drop}
use Rattle.std.specs.List.{list_any}
use Rattle.std.specs.Option.{is_some}
use Rattle.smithy_declarations.specs.TableText.{text_of_option}
use Rattle.smithy_declarations.specs.Private.Words.{texts}
use Rattle.smithy_declarations.proofs.table_text.line.gives_one.Given as goal

abbrev pub invariant-loop-name : goal.invariant-loop-name
invariant-loop-name l = list_any (λ name. is_some (text_of_option name l.word)) (texts (drop l.name-index l.names)) ≡ list_any (λ name. is_some (text_of_option name l.word)) (texts l.names)
