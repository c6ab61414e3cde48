use Rattle.std.proofs.Common.{◌≡◌, ◌+◌, ◌++◌, ◌∷◌, drop, sym, ◌∙◌, ap, subst, arith}
use Rattle.std.proofs.lemmas.Result.{err_from_is_err_and}
use Rattle.smithy_lines.specs.Lines.{line_feed, HasNoFeed}
use Rattle.smithy_lines.proofs.AnsweredLemmas.{rest_more, rest_line, line_ends}
use Rattle.smithy_lines.proofs.StreamLemmas.{line_goes_on, piece_ends, both_none, ends_in_piece}
use Rattle.smithy_lines.proofs.streaming.answer_piece.Goals as goal

pub returns-in_err-hold-clause-answered : goal.returns-in_err-hold-clause-answered
returns-in_err-hold-clause-answered g c taken start b =
    let p = err_from_is_err_and c.from_residual.result c.from_residual.ensures.1 in
    rw (p.1, p.2) (piece_ends (g.A.AnswerLine.answers c.args.answers.now) c.args.longest taken c.args.held.now.items c.args.piece.now c.args.batch.now start (g.K.Sink.told c.args.out.now) b)

pub returns-in_default-clause-answered : goal.returns-in_default-clause-answered
returns-in_default-clause-answered g c taken start b =
    line_goes_on (g.A.AnswerLine.answers c.args.answers.now) c.args.longest taken c.args.held.now.items c.hold.new.held.items c.args.piece.now c.args.batch.now start (g.K.Sink.told c.args.out.now) c.in_ok-hold.ensures c.in_default.ensures b

pub returns-in_err-hold-2-clause-answered : goal.returns-in_err-hold-2-clause-answered
returns-in_err-hold-2-clause-answered g c taken start b =
    let p = err_from_is_err_and c.from_residual-in_err-hold-2.result c.from_residual-in_err-hold-2.ensures.1 in
    rw (p.1, p.2) (piece_ends (g.A.AnswerLine.answers c.args.answers.now) c.args.longest taken c.args.held.now.items c.args.piece.now c.args.batch.now start (g.K.Sink.told c.args.out.now) b)

pub returns-in_err-answer_held-clause-answered : goal.returns-in_err-answer_held-clause-answered
returns-in_err-answer_held-clause-answered g c taken start b =
    let answers = g.A.AnswerLine.answers c.args.answers.now in
    let piece = c.args.piece.now in
    let found = c.in-Some.ensures in
    let line = b.line ++ c.part.result.now in
    let rest = drop (0 + (c.in-Some.len + 1)) piece in
    let w = rest_more answers taken b.line piece c.args.batch.now start (g.K.Sink.told c.args.out.now) b.is_rest in
    let cut : piece ≡ c.part.result.now ++ line_feed ∷ rest = found.1 ∙ ap (λ l. l ++ line_feed ∷ rest) (sym c.part.ensures) in
    let none = both_none b.line c.part.result.now b.none (subst HasNoFeed (sym c.part.ensures) found.2) in
    let p = err_from_is_err_and c.from_residual-in_err-answer_held.result c.from_residual-in_err-answer_held.ensures.1 in
    rw (p.1, p.2)
    (line_ends answers (taken ++ piece) (b.line ++ piece) line rest c.args.batch.now start (g.K.Sink.told c.args.out.now) (g.K.Sink.told c.answer_held.new.out) c.in_err-answer_held.field-0.0 w
    (ends_in_piece b.line piece c.part.result.now rest cut) none (c.in_err-answer_held.ensures.answered w.done line start (b.serves c.hold-2.new.held.items line (c.in_ok-hold-2.ensures b.line b.is_held)) w.so_far))

pub returns-clause-answered : goal.returns-clause-answered
returns-clause-answered g c taken start b =
    let answers = g.A.AnswerLine.answers c.args.answers.now in
    let piece = c.args.piece.now in
    let found = c.in-Some.ensures in
    let line = b.line ++ c.part.result.now in
    let rest = c.after.result.now in
    let w = rest_more answers taken b.line piece c.args.batch.now start (g.K.Sink.told c.args.out.now) b.is_rest in
    let same : drop (0 + (c.in-Some.len + 1)) piece ≡ rest = ap (λ n. drop n piece) (omega arith) ∙ sym c.after.ensures in
    let cut : piece ≡ c.part.result.now ++ line_feed ∷ rest = found.1 ∙ ap (λ l. l ++ line_feed ∷ drop (0 + (c.in-Some.len + 1)) piece) (sym c.part.ensures) ∙ ap (λ r. c.part.result.now ++ line_feed ∷ r) same in
    let none = both_none b.line c.part.result.now b.none (subst HasNoFeed (sym c.part.ensures) found.2) in
    c.answer_after.ensures.answered (taken ++ piece) start b.serves
    (rest_line answers (taken ++ piece) (b.line ++ piece) line rest c.args.batch.now c.answer_held.new.batch start (g.K.Sink.told c.args.out.now) (g.K.Sink.told c.answer_held.new.out) w
    (ends_in_piece b.line piece c.part.result.now rest cut) none (c.in_ok-answer_held.ensures.answered w.done line start (b.serves c.hold-2.new.held.items line (c.in_ok-hold-2.ensures b.line b.is_held)) w.so_far))
