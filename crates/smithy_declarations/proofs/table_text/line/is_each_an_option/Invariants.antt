use Rattle.std.proofs.Common.{◌≡◌, ◌||◌, drop}
use Rattle.std.specs.List.{list_all}
use Rattle.std.specs.Str.{bytes_eq}
use Rattle.smithy_declarations.specs.TableText.{gives_one}
use Rattle.smithy_declarations.specs.Private.Words.{texts}
use Rattle.smithy_declarations.proofs.table_text.line.is_each_an_option.Given as goal

abbrev pub invariant-loop-word : goal.invariant-loop-word
invariant-loop-word l = list_all (λ word. bytes_eq word l.flag || gives_one (texts l.names) word) (texts (drop l.word-index l.words)) ≡ list_all (λ word. bytes_eq word l.flag || gives_one (texts l.names) word) (texts l.words)
