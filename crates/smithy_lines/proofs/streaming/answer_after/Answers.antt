use Rattle.std.proofs.Common.{[], drop, subst}
use Rattle.std.proofs.lemmas.Result.{err_from_is_err_and}
use Rattle.smithy_lines.proofs.AnsweredLemmas.{rest_ends, rest_sink, rest_passed}
use Rattle.smithy_lines.proofs.StreamLemmas.{nothing_held}
use Rattle.smithy_lines.specs.Private.SoFar.{IsHeld}
use Rattle.smithy_lines.proofs.streaming.answer_after.Goals as goal

pub returns-in_err-at-clause-answered : goal.returns-in_err-at-clause-answered
returns-in_err-at-clause-answered g c taken start serves w =
    let p = err_from_is_err_and c.from_residual.result c.from_residual.ensures.1 in
    rw (p.1, p.2) (c.in_err-at.ensures.answered taken start w)

pub returns-in_err-hold-clause-answered : goal.returns-in_err-hold-clause-answered
returns-in_err-hold-clause-answered g c taken start serves w =
    let answers = g.A.AnswerLine.answers c.args.answers.now in
    let p = err_from_is_err_and c.from_residual-in_err-hold.result c.from_residual-in_err-hold.ensures.1 in
    rw (p.1, p.2)
    (rest_ends answers taken (drop c.in_ok-at.at c.args.bytes.now) c.answer_ended.new.batch start (g.K.Sink.told c.answer_ended.new.out) (c.in_ok-at.ensures.answered taken start w))

pub returns-in_err-pass_on-clause-answered : goal.returns-in_err-pass_on-clause-answered
returns-in_err-pass_on-clause-answered g c taken start serves w =
    let answers = g.A.AnswerLine.answers c.args.answers.now in
    let told = c.in_err-pass_on.ensures.written in
    let p = err_from_is_err_and c.from_residual-in_err-pass_on.result c.from_residual-in_err-pass_on.ensures.1 in
    rw (p.1, p.2)
    (rest_sink answers taken (drop c.in_ok-at.at c.args.bytes.now) c.answer_ended.new.batch start (g.K.Sink.told c.answer_ended.new.out) (g.K.Sink.told c.pass_on.new.out) (c.in_ok-at.ensures.answered taken start w) told.0 told.1)

pub returns-clause-answered : goal.returns-clause-answered
returns-clause-answered g c taken start serves w =
    let answers = g.A.AnswerLine.answers c.args.answers.now in
    let rest = drop c.in_ok-at.at c.args.bytes.now in
    let told = c.in_ok-pass_on.ensures.written in
    record {
      line = rest;
      none = c.in_ok-at.ensures.none;
      no_answer_waits = told.0;
      is_held = subst (λ line. IsHeld c.args.longest c.hold.new.held.items line) c.after.ensures (c.in_ok-hold.ensures [] (nothing_held c.args.longest c.args.held.now.items c.requires));
      is_rest = rest_passed answers taken rest c.answer_ended.new.batch c.pass_on.new.batch start (g.K.Sink.told c.answer_ended.new.out) (g.K.Sink.told c.pass_on.new.out)
          (c.in_ok-at.ensures.answered taken start w) told.0 told.1 told.2 told.3 told.4;
      serves = serves;
    }
