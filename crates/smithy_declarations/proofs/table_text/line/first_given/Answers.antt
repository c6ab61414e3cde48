use Rattle.std.proofs.Common.{ap, ◌∙◌, arith, Some}
use Rattle.smithy_declarations.specs.TableText.{first_given}
use Rattle.smithy_declarations.specs.Private.Words.{texts}
use Rattle.smithy_declarations.proofs.TableTextLemmas.{first_here, first_later, first_nowhere}
use Rattle.smithy_declarations.proofs.table_text.line.first_given.Goals as goal

pub returns-in-Some : goal.returns-in-Some
returns-in-Some c =
    ap Some c.in_ok-from_str.ensures.ok ∙ first_here c.args.name.now c.args.words.now c.loop-word.word-index _ c.in-Some.text.now (first_given (texts c.args.words.now) c.args.name.now) (omega arith) c.in-Some.ensures c.loop-word.invariant

pub loop-word-preserved : goal.loop-word-preserved
loop-word-preserved c =
    first_later c.args.name.now c.args.words.now c.loop-word.word-index _ (first_given (texts c.args.words.now) c.args.name.now) (omega arith) c.in_default.ensures c.loop-word.invariant

pub returns : goal.returns
returns c =
    first_nowhere c.args.name.now c.args.words.now c.loop-word.word-index (first_given (texts c.args.words.now) c.args.name.now) (omega arith) c.loop-word.invariant
