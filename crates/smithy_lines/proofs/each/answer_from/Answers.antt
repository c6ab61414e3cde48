use Rattle.std.proofs.Common.{◌≡◌, ◌++◌, [], take, Ok, false, inr, refl, sym, ap, subst, rules, arith}
use Rattle.std.proofs.lemmas.Result.{err_from_is_err_and}
use Rattle.smithy_outside.specs.Outside.{Gave}
use Rattle.smithy_outside.proofs.Moved.{gave_nothing, gave_more}
use Rattle.smithy_outside.proofs.Faults.{no_fault_after, fault_after}
use Rattle.smithy_lines.specs.declared.answer.AnswerFault.TheVariants as answer_faults
use Rattle.smithy_lines.specs.Sources.{AnswersUpTo}
use Rattle.smithy_lines.specs.Private.SoFar.{IsHeld}
use Rattle.smithy_lines.proofs.AnsweredLemmas.{rest_ends}
use Rattle.smithy_lines.proofs.StreamLemmas.{gave_still, gave_none, stream_begun, ended_taken, ends_before_end, ends_at_end, no_read_fault, passed_since}
use Rattle.smithy_lines.proofs.each.answer_from.Goals as goal

pub loop-init : goal.loop-init
loop-init g c =
    let new = c.new-batch.ensures in
    let answers = g.A.AnswerLine in
    record {
      begun = (
        [],
        gave_nothing (g.S.Source.told c.args.source.now),
        stream_begun c.args.longest (answers.answers c.args.answers.now) (answers.refuses c.args.answers.now) _ c.new-batch.result (g.K.Sink.told c.args.out.now) c.new-held.ensures.items new.text new.count new.refused,
      );
      no_fault = (refl, refl);
      room = c.requires;
      passed_on = inr refl;
    }

pub returns-in_err-count-clause-answered : goal.returns-in_err-count-clause-answered
returns-in_err-count-clause-answered g c =
    let answers = AnswersUpTo c.args.longest (g.A.AnswerLine.answers c.args.answers.now) (g.A.AnswerLine.refuses c.args.answers.now) in
    let source = g.S.Source.told in
    let b = c.loop.invariant.begun in
    let p = err_from_is_err_and c.from_residual.result c.from_residual.ensures.1 in (
      b.0,
      gave_still b.0 (source c.args.source.now) (source c.loop.source) (source c.read.new.self) b.1 c.in_err-count.ensures.gave,
      rw (p.1, p.2) (
        fault_after (source c.args.source.now) (source c.loop.source) (source c.read.new.self) c.loop.invariant.no_fault c.in_err-count.ensures.counts,
        ended_taken answers c.args.longest b.0 c.loop.held.items c.loop.batch (g.K.Sink.told c.args.out.now) (g.K.Sink.told c.loop.out) b.2,
      ),
    )

pub returns-in_err-answer_last-clause-answered : goal.returns-in_err-answer_last-clause-answered
returns-in_err-answer_last-clause-answered g c =
    let answers = AnswersUpTo c.args.longest (g.A.AnswerLine.answers c.args.answers.now) (g.A.AnswerLine.refuses c.args.answers.now) in
    let source = g.S.Source.told in
    let b = c.loop.invariant.begun in
    let told = c.in_ok-count.ensures in
    let is_held = subst (λ l. IsHeld c.args.longest l b.2.line) (sym c.deref.ensures.value) b.2.is_held in
    let p = err_from_is_err_and c.from_residual-in_err-answer_last.result c.from_residual-in_err-answer_last.ensures.1 in (
      b.0,
      gave_none b.0 c.read.new.into c.in_ok-count.count (source c.args.source.now) (source c.loop.source) (source c.read.new.self) c.if-count-eq0.true b.1 told.gave,
      rw (p.1, p.2)
          (ends_at_end answers b.0 c.in_err-answer_last.field-0.0 (source c.args.source.now) (source c.read.new.self) (g.K.Sink.told c.args.out.now) (g.K.Sink.told c.answer_last.new.out)
          (no_fault_after (source c.args.source.now) (source c.loop.source) (source c.read.new.self) c.loop.invariant.no_fault told.counts)
          (told.end (ap Ok c.if-count-eq0.true) (search rules))
          (c.in_err-answer_last.ensures.answered c.args.longest b.0 b.2.line (g.K.Sink.told c.args.out.now) b.2.none is_held (b.2.serves c.deref.result.now b.2.line is_held) b.2.is_rest)),
    )

pub returns-then-count-eq0-clause-answered : goal.returns-then-count-eq0-clause-answered
returns-then-count-eq0-clause-answered g c =
    let source = g.S.Source.told in
    let b = c.loop.invariant.begun in
    let told = c.in_ok-count.ensures in
    let is_held = subst (λ l. IsHeld c.args.longest l b.2.line) (sym c.deref.ensures.value) b.2.is_held in (
      b.0,
      gave_none b.0 c.read.new.into c.in_ok-count.count (source c.args.source.now) (source c.loop.source) (source c.read.new.self) c.if-count-eq0.true b.1 told.gave,
      (
        told.end (ap Ok c.if-count-eq0.true) (search rules),
        no_fault_after (source c.args.source.now) (source c.loop.source) (source c.read.new.self) c.loop.invariant.no_fault told.counts,
        c.in_ok-answer_last.ensures.answered c.args.longest b.0 b.2.line (g.K.Sink.told c.args.out.now) b.2.none is_held (b.2.serves c.deref.result.now b.2.line is_held) b.2.is_rest,
      ),
    )

pub part-requires : goal.part-requires
part-requires g c = omega (arith, c.in_ok-count.ensures.bound)

pub returns-in_err-answer_piece-clause-answered : goal.returns-in_err-answer_piece-clause-answered
returns-in_err-answer_piece-clause-answered g c =
    let answers = AnswersUpTo c.args.longest (g.A.AnswerLine.answers c.args.answers.now) (g.A.AnswerLine.refuses c.args.answers.now) in
    let source = g.S.Source.told in
    let b = c.loop.invariant.begun in
    let told = c.in_ok-count.ensures in
    let p = err_from_is_err_and c.from_residual-in_err-answer_piece.result c.from_residual-in_err-answer_piece.ensures.1 in (
      b.0 ++ c.part.result.now,
      subst (λ l. Gave (b.0 ++ l) (source c.args.source.now) (source c.read.new.self)) (sym c.part.ensures)
          (gave_more b.0 (take c.in_ok-count.count c.read.new.into) (source c.args.source.now) (source c.loop.source) (source c.read.new.self) b.1 told.gave),
      rw (p.1, p.2)
          (ends_before_end answers (b.0 ++ c.part.result.now) c.in_err-answer_piece.field-0.0 (source c.args.source.now) (source c.read.new.self) (g.K.Sink.told c.args.out.now) (g.K.Sink.told c.answer_piece.new.out)
          (no_fault_after (source c.args.source.now) (source c.loop.source) (source c.read.new.self) c.loop.invariant.no_fault told.counts)
          (c.in_err-answer_piece.ensures.answered b.0 (g.K.Sink.told c.args.out.now) b.2)),
    )

pub loop-preserved : goal.loop-preserved
loop-preserved g c =
    let source = g.S.Source.told in
    let b = c.loop.invariant.begun in
    let told = c.in_ok-count.ensures in
    record {
      begun = (
        b.0 ++ c.part.result.now,
        subst (λ l. Gave (b.0 ++ l) (source c.args.source.now) (source c.read.new.self)) (sym c.part.ensures)
            (gave_more b.0 (take c.in_ok-count.count c.read.new.into) (source c.args.source.now) (source c.loop.source) (source c.read.new.self) b.1 told.gave),
        c.in_ok-answer_piece.ensures.answered b.0 (g.K.Sink.told c.args.out.now) b.2,
      );
      no_fault = no_fault_after (source c.args.source.now) (source c.loop.source) (source c.read.new.self) c.loop.invariant.no_fault told.counts;
      room = search rules;
      passed_on = passed_since (λ k. g.K.Sink.holds_back k ≡ false) c.args.out.now c.loop.out c.answer_piece.new.out c.in_ok-answer_piece.ensures.passed_on c.loop.invariant.passed_on;
    }

pub returns-clause-answered : goal.returns-clause-answered
returns-clause-answered g c =
    let answers = AnswersUpTo c.args.longest (g.A.AnswerLine.answers c.args.answers.now) (g.A.AnswerLine.refuses c.args.answers.now) in
    let source = g.S.Source.told in
    let b = c.loop.invariant.begun in (
      b.0,
      b.1,
      ends_before_end answers b.0 answer_faults.NoMemory (source c.args.source.now) (source c.loop.source) (g.K.Sink.told c.args.out.now) (g.K.Sink.told c.loop.out) c.loop.invariant.no_fault
          (rest_ends answers b.0 b.2.line c.loop.batch (g.K.Sink.told c.args.out.now) (g.K.Sink.told c.loop.out) b.2.is_rest),
    )

pub returns-in_err-count-clause-passed_on_before : goal.returns-in_err-count-clause-passed_on_before
returns-in_err-count-clause-passed_on_before g c =
    let p = err_from_is_err_and c.from_residual.result c.from_residual.ensures.1 in
    rw (p.1, p.2) (λ e. c.loop.invariant.passed_on)

pub returns-in_err-answer_last-clause-passed_on_before : goal.returns-in_err-answer_last-clause-passed_on_before
returns-in_err-answer_last-clause-passed_on_before g c =
    let p = err_from_is_err_and c.from_residual-in_err-answer_last.result c.from_residual-in_err-answer_last.ensures.1 in
    rw (p.1, p.2) (λ e. absurd (no_read_fault c.in_err-answer_last.field-0.0 e))

pub returns-in_err-answer_piece-clause-passed_on_before : goal.returns-in_err-answer_piece-clause-passed_on_before
returns-in_err-answer_piece-clause-passed_on_before g c =
    let p = err_from_is_err_and c.from_residual-in_err-answer_piece.result c.from_residual-in_err-answer_piece.ensures.1 in
    rw (p.1, p.2) (λ e. absurd (no_read_fault c.in_err-answer_piece.field-0.0 e))
