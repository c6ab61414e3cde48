use Rattle.std.proofs.Common.{◌++◌, ◌∷◌, [], refl}
use Rattle.std.proofs.lemmas.Result.{err_from_is_err_and}
use Rattle.smithy_lines.proofs.AnsweredLemmas.{so_far_more, so_far_passed, added_for, ends_for_memory, ends_for_sink, ends_before}
use Rattle.smithy_lines.specs.declared.answer.AnswerFault.TheVariants as faults
use Rattle.smithy_lines.proofs.batch.answer_next.Goals as goal

pub returns-in_err-add_answer : goal.returns-in_err-add_answer
returns-in_err-add_answer g c done whole start serves so =
    let p = err_from_is_err_and c.from_residual.result c.from_residual.ensures.1 in
    rw (p.1, p.2) (ends_before (g.A.AnswerLine.answers c.args.answers.now) done (whole ∷ []) (done ++ whole ∷ []) faults.NoMemory start (g.K.Sink.told c.args.out.now) refl (ends_for_memory (g.A.AnswerLine.answers c.args.answers.now) done c.args.batch.now start (g.K.Sink.told c.args.out.now) so))

pub returns-then-len-lt-BATCH : goal.returns-then-len-lt-BATCH
returns-then-len-lt-BATCH g c done whole start serves so =
    let answers = g.A.AnswerLine.answers c.args.answers.now in
    so_far_more answers done whole c.args.batch.now c.add_answer.new.batch start (g.K.Sink.told c.args.out.now) so (added_for answers c.args.line.now whole c.args.batch.now c.add_answer.new.batch serves c.in_ok-add_answer.ensures)

pub returns-in_err-write_batch : goal.returns-in_err-write_batch
returns-in_err-write_batch g c done whole start serves so =
    let answers = g.A.AnswerLine.answers c.args.answers.now in
    let added = added_for answers c.args.line.now whole c.args.batch.now c.add_answer.new.batch serves c.in_ok-add_answer.ensures in
    let more = so_far_more answers done whole c.args.batch.now c.add_answer.new.batch start (g.K.Sink.told c.args.out.now) so added in
    let p = err_from_is_err_and c.from_residual-in_err-write_batch.result c.from_residual-in_err-write_batch.ensures.1 in
    rw (p.1, p.2)
    (ends_for_sink answers (done ++ whole ∷ []) c.add_answer.new.batch start (g.K.Sink.told c.args.out.now) (g.K.Sink.told c.write_batch.new.out) more c.in_err-write_batch.ensures.0 c.in_err-write_batch.ensures.1)

pub returns : goal.returns
returns g c done whole start serves so =
    let answers = g.A.AnswerLine.answers c.args.answers.now in
    let added = added_for answers c.args.line.now whole c.args.batch.now c.add_answer.new.batch serves c.in_ok-add_answer.ensures in
    let more = so_far_more answers done whole c.args.batch.now c.add_answer.new.batch start (g.K.Sink.told c.args.out.now) so added in
    let told = c.in_ok-write_batch.ensures in
    so_far_passed answers (done ++ whole ∷ []) c.add_answer.new.batch c.write_batch.new.batch start (g.K.Sink.told c.args.out.now) (g.K.Sink.told c.write_batch.new.out) more
    told.0 told.1 told.2 told.3 told.4
