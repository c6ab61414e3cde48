use Rattle.std.proofs.Common.{sym, ◌∙◌, arith, true, false}
use Rattle.std.specs.List.{count_by}
use Rattle.std.specs.Str.{bytes_eq}
use Rattle.smithy_declarations.specs.Private.Words.{texts}
use Rattle.smithy_declarations.proofs.TableTextLemmas.{count_step}
use Rattle.smithy_declarations.proofs.table_text.line.count_equal.Goals as goal
use Rattle.smithy_declarations.proofs.table_text.line.count_equal.Goals.{then-eq, else-eq}

pub loop-word-preserved : goal.loop-word-preserved
loop-word-preserved c =
    let all = count_by (λ w. bytes_eq w c.args.flag.now) (texts c.args.words.now) in
    elim c.if-eq.branch [
      | then-eq w ↦ count_step (λ w. bytes_eq w c.args.flag.now) c.args.words.now c.loop-word.word-index _ c.loop-word.count c.if-eq.count all true (omega arith) (sym w.if-eq.true ∙ c.eq.ensures) c.loop-word.invariant w.count-is
      | else-eq w ↦ count_step (λ w. bytes_eq w c.args.flag.now) c.args.words.now c.loop-word.word-index _ c.loop-word.count c.if-eq.count all false (omega arith) (sym w.if-eq.false ∙ c.eq.ensures) c.loop-word.invariant (omega (arith, w.count-is))
    ]
