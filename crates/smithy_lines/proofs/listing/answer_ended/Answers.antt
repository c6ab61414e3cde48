use Rattle.std.proofs.Common.{◌++◌, ◌∷◌, ◌+◌, drop, sym, ◌∙◌, ap, subst, arith}
use Rattle.std.proofs.lemmas.Result.{err_from_is_err_and}
use Rattle.smithy_lines.specs.Lines.{line_feed, HasNoFeed}
use Rattle.smithy_lines.proofs.AnsweredLemmas.{rest_line, line_ends}
use Rattle.smithy_lines.proofs.listing.answer_ended.Goals as goal

pub returns-in_err-answer_next-clause-answered : goal.returns-in_err-answer_next-clause-answered
returns-in_err-answer_next-clause-answered g c taken start rest =
    let answers = g.A.AnswerLine.answers c.args.answers.now in
    let bytes = c.args.bytes.now in
    let found = c.in-Some.ensures in
    let more = drop (c.loop-len.at + (c.in-Some.len + 1)) bytes in
    let w = c.loop-len.invariant.rest taken start rest in
    let p = err_from_is_err_and c.from_residual.result c.from_residual.ensures.1 in
    rw (p.1, p.2)
    (line_ends answers taken (drop c.loop-len.at bytes) c.part.result.now more c.loop-len.batch start (g.K.Sink.told c.loop-len.out) (g.K.Sink.told c.answer_next.new.out) c.in_err-answer_next.field-0.0 w
    (found.1 ∙ ap (λ l. l ++ line_feed ∷ more) (sym c.part.ensures)) (subst HasNoFeed (sym c.part.ensures) found.2)
    (c.in_err-answer_next.ensures w.done c.part.result.now start (λ n answer refused says. says) w.so_far))

pub loop-len-preserved : goal.loop-len-preserved
loop-len-preserved g c =
    let answers = g.A.AnswerLine.answers c.args.answers.now in
    let bytes = c.args.bytes.now in
    let found = c.in-Some.ensures in
    let more = drop (c.loop-len.at + (c.in-Some.len + 1)) bytes in
    record {
      within = omega (arith, found.0);
      rest = λ taken start rest.
          let w = c.loop-len.invariant.rest taken start rest in
          rest_line answers taken (drop c.loop-len.at bytes) c.part.result.now more c.loop-len.batch c.answer_next.new.batch start (g.K.Sink.told c.loop-len.out) (g.K.Sink.told c.answer_next.new.out) w
          (found.1 ∙ ap (λ l. l ++ line_feed ∷ more) (sym c.part.ensures)) (subst HasNoFeed (sym c.part.ensures) found.2)
          (c.in_ok-answer_next.ensures w.done c.part.result.now start (λ n answer refused says. says) w.so_far);
    }
