use Rattle.std.proofs.Common.{[], refl}
use Rattle.std.proofs.lemmas.Result.{err_from_is_err_and}
use Rattle.smithy_outside.proofs.Moved.{gave_nothing}
use Rattle.smithy_lines.specs.Sources.{AnswersUpTo}
use Rattle.smithy_lines.proofs.StreamLemmas.{none_taken}
use Rattle.smithy_lines.proofs.each.answer_each.Goals as goal

pub returns-in_err-buffer-clause-answered : goal.returns-in_err-buffer-clause-answered
returns-in_err-buffer-clause-answered g c =
    let p = err_from_is_err_and c.from_residual.result c.from_residual.ensures.1 in
    let answers = g.A.AnswerLine in (
      [],
      gave_nothing (g.S.Source.told c.args.source.now),
      rw (p.1, p.2) ((refl, refl), none_taken (AnswersUpTo c.args.longest (answers.answers c.args.answers.now) (answers.refuses c.args.answers.now)) (g.S.Source.told c.args.source.now) (g.K.Sink.told c.args.out.now)),
    )
