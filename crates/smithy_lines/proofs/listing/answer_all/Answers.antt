use Rattle.std.proofs.Common.{sym, subst}
use Rattle.std.proofs.lemmas.Result.{err_from_is_err_and}
use Rattle.smithy_lines.specs.Lines.{HasNoFeed}
use Rattle.smithy_lines.specs.Private.SoFar.{IsRest}
use Rattle.smithy_lines.proofs.AnsweredLemmas.{rest_begun, early_closed}
use Rattle.smithy_lines.proofs.StreamLemmas.{held_all}
use Rattle.smithy_lines.proofs.listing.answer_all.Goals as goal

pub returns-in_err-at-clause-answered : goal.returns-in_err-at-clause-answered
returns-in_err-at-clause-answered g c =
    let new = c.new-batch.ensures in
    let begun = rest_begun (g.A.AnswerLine.answers c.args.answers.now) c.args.bytes.now c.new-batch.result (g.K.Sink.told c.args.out.now) new.text new.count new.refused in
    let p = err_from_is_err_and c.from_residual.result c.from_residual.ensures.1 in
    rw (p.1, p.2)
    (early_closed (g.A.AnswerLine.answers c.args.answers.now) c.args.bytes.now c.in_err-at.field-0.0 (g.K.Sink.told c.args.out.now) (g.K.Sink.told c.answer_ended.new.out) (c.in_err-at.ensures.answered c.args.bytes.now (g.K.Sink.told c.args.out.now) begun))

pub returns-clause-answered : goal.returns-clause-answered
returns-clause-answered g c =
    let answers = g.A.AnswerLine.answers c.args.answers.now in
    let bytes = c.args.bytes.now in
    let new = c.new-batch.ensures in
    let start = g.K.Sink.told c.args.out.now in
    let begun = rest_begun answers bytes c.new-batch.result start new.text new.count new.refused in
    let rest = c.after.result.now in
    c.answer_last.ensures.answered _ bytes rest start (subst HasNoFeed (sym c.after.ensures) c.in_ok-at.ensures.none) (held_all rest) (λ n answer refused says. says)
    (subst (λ left. IsRest answers bytes left c.answer_ended.new.batch start (g.K.Sink.told c.answer_ended.new.out)) (sym c.after.ensures) (c.in_ok-at.ensures.answered bytes start begun))
