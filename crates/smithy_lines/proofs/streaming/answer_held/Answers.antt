use Rattle.std.proofs.lemmas.Result.{err_from_is_err_and}
use Rattle.smithy_lines.proofs.streaming.answer_held.Goals as goal

pub returns-in_err-answer_next-clause-answered : goal.returns-in_err-answer_next-clause-answered
returns-in_err-answer_next-clause-answered g c done whole start serves so =
    let p = err_from_is_err_and c.from_residual.result c.from_residual.ensures.1 in
    let ends = rw c.deref.ensures.value at c.in_err-answer_next.ensures in
    rw (p.1, p.2) (ends done whole start serves so)
