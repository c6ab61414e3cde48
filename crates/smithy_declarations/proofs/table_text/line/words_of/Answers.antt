use Rattle.std.proofs.Common.{sym, ap, ◌∙◌, lit<, Some, length}
use Rattle.std.proofs.lemmas.Iterator.Splits.{YieldsList-from_str_split}
use Rattle.std.proofs.lemmas.Iterator.Consumers.{YieldsList-turn, YieldsList-end}
use Rattle.smithy_declarations.specs.Private.Words.{texts}
use Rattle.smithy_declarations.proofs.TableTextLemmas.{texts_push, none_empty_push, words_parted, empty_word}
use Rattle.smithy_declarations.proofs.table_text.line.words_of.Goals as goal

pub loop-word-preserved : goal.loop-word-preserved
loop-word-preserved c = (
  texts_push c.push.new.self.items c.loop-word.words.items c.loop-word.yielded c.in-Some.word c.in_ok-push.ensures.items c.loop-word.invariant.0,
  none_empty_push c.loop-word.yielded c.in-Some.word c.loop-word.invariant.1 (sym c.is_empty.ensures ∙ c.if-is_empty.false),
)

pub returns : goal.returns
returns c =
    let t = YieldsList-end (YieldsList-from_str_split 32 c.args.text.now (lit< tt) (cc) (cc) (cc)) c.loop-word.yielded _ c.loop-word.yielded_by _ _ c.in-None.is c.next.ensures.steps in
    ap Some c.loop-word.invariant.0 ∙ words_parted c.args.text.now (texts c.loop-word.yielded) t.0 c.loop-word.invariant.1

pub returns-then-is_empty : goal.returns-then-is_empty
returns-then-is_empty c =
    let t = YieldsList-turn (YieldsList-from_str_split 32 c.args.text.now (lit< tt) (cc) (cc) (cc)) c.loop-word.yielded _ c.loop-word.yielded_by _ _ c.in-Some.word c.in-Some.is c.next.ensures.steps in
    empty_word c.args.text.now (length c.loop-word.yielded) c.in-Some.word.now t.0 t.1 (sym c.is_empty.ensures ∙ c.if-is_empty.true)
