use Rattle.std.proofs.Common.{◌≡◌, ◌+◌, drop}
use Rattle.std.specs.List.{count_by}
use Rattle.std.specs.Str.{bytes_eq}
use Rattle.smithy_declarations.specs.Private.Words.{texts}
use Rattle.smithy_declarations.proofs.table_text.line.count_equal.Given as goal

abbrev pub invariant-loop-word : goal.invariant-loop-word
invariant-loop-word l =
    l.count + count_by (λ w. bytes_eq w l.flag) (texts (drop l.word-index l.words)) ≡ count_by (λ w. bytes_eq w l.flag) (texts l.words)
