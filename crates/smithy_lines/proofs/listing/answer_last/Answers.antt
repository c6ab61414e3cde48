use Rattle.std.proofs.Common.{◌≡◌, ◌++◌, ◌∷◌, [], length, sym, ap, subst, rules}
use Rattle.std.proofs.lemmas.List.{nil_from_length}
use Rattle.std.proofs.lemmas.Result.{err_from_is_err_and}
use Rattle.smithy_lines.specs.Answered.{AnswersAll, EndsIn}
use Rattle.smithy_lines.proofs.AnsweredLemmas.{rest_closed, none_left, one_left}
use Rattle.smithy_lines.proofs.StreamLemmas.{none_held, some_held}
use Rattle.smithy_lines.proofs.listing.answer_last.Goals as goal

pub returns-then-is_empty-clause-answered : goal.returns-then-is_empty-clause-answered
returns-then-is_empty-clause-answered g c longest taken rest start none is serves w =
    let answers = g.A.AnswerLine.answers c.args.answers.now in
    let empty : c.args.held.now ≡ [] = nil_from_length c.args.held.now (search rules) in
    let all = none_left taken rest w.done (rest_closed taken rest w.done w.cut) (none_held longest c.args.held.now rest is empty) in
    subst (λ lines. AnswersAll answers lines c.finish.result start (g.K.Sink.told c.finish.new.out)) (sym all) (c.finish.ensures.answered w.done start w.so_far)

pub returns-in_err-answer_next-clause-answered : goal.returns-in_err-answer_next-clause-answered
returns-in_err-answer_next-clause-answered g c longest taken rest start none is serves w =
    let answers = g.A.AnswerLine.answers c.args.answers.now in
    let some : c.args.held.now ≡ [] → ⊥ = λ empty. (let z = ap length empty in search rules) in
    let all = one_left taken rest w.done (rest_closed taken rest w.done w.cut) (some_held longest c.args.held.now rest is some) none in
    let p = err_from_is_err_and c.from_residual.result c.from_residual.ensures.1 in
    rw (p.1, p.2) (subst (λ lines. EndsIn answers lines c.in_err-answer_next.field-0.0 start (g.K.Sink.told c.answer_next.new.out)) (sym all) (c.in_err-answer_next.ensures w.done rest start serves w.so_far))

pub returns-clause-answered : goal.returns-clause-answered
returns-clause-answered g c longest taken rest start none is serves w =
    let answers = g.A.AnswerLine.answers c.args.answers.now in
    let some : c.args.held.now ≡ [] → ⊥ = λ empty. (let z = ap length empty in search rules) in
    let all = one_left taken rest w.done (rest_closed taken rest w.done w.cut) (some_held longest c.args.held.now rest is some) none in
    subst (λ lines. AnswersAll answers lines c.finish-2.result start (g.K.Sink.told c.finish-2.new.out)) (sym all)
    (c.finish-2.ensures.answered (w.done ++ rest ∷ []) start (c.in_ok-answer_next.ensures w.done rest start serves w.so_far))
