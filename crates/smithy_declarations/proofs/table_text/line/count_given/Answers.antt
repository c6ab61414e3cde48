use Rattle.std.proofs.Common.{sym, ap, ◌∙◌, arith, true, false, length}
use Rattle.std.specs.Option.{is_some}
use Rattle.smithy_declarations.specs.TableText.{given}
use Rattle.smithy_declarations.specs.Private.Words.{texts}
use Rattle.smithy_declarations.proofs.TableTextLemmas.{given_step, is_some-option_map}
use Rattle.smithy_declarations.proofs.table_text.line.count_given.Goals as goal
use Rattle.smithy_declarations.proofs.table_text.line.count_given.Goals.{then-is_some, else-is_some}

pub loop-word-preserved : goal.loop-word-preserved
loop-word-preserved c =
    let all = length (given (texts c.args.words.now) c.args.name.now) in
    let same = c.is_some.ensures ∙ sym (is_some-option_map (λ t. t.now) c.text_of_option.result) ∙ ap is_some c.text_of_option.ensures in
    elim c.if-is_some.branch [
      | then-is_some w ↦ (given_step c.args.name.now c.args.words.now c.loop-word.word-index _ c.loop-word.count c.if-is_some.count all true (omega arith) (sym w.if-is_some.true ∙ same) c.loop-word.invariant.0 w.count-is, omega (arith, w.count-is))
      | else-is_some w ↦ (given_step c.args.name.now c.args.words.now c.loop-word.word-index _ c.loop-word.count c.if-is_some.count all false (omega arith) (sym w.if-is_some.false ∙ same) c.loop-word.invariant.0 (omega (arith, w.count-is)), omega (arith, w.count-is))
    ]
