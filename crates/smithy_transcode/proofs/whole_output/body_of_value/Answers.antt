use Rattle.std.proofs.Common.{ap, ◌∙◌}
use Rattle.std.proofs.lemmas.Result.{err_from_is_err_and, IfOk-weaker}
use Rattle.smithy_value.proofs.WriteAnswers.{has_not_failed, memory_alone, ends_well, same_state}
use Rattle.smithy_transcode.proofs.whole_output.body_of_value.Goals as goal

-- a value that can be written is refused for want of memory alone
pub returns-in_err-write_tree-clause-err : goal.returns-in_err-write_tree-clause-err
returns-in_err-write_tree-clause-err g c =
    let p = err_from_is_err_and c.from_residual.result c.from_residual.ensures.1 in
    rw (p.1, p.2) (memory_alone _ _ _ _ _ _ c.in_err-write_tree.ensures.writes c.requires.sound (rw c.part.ensures.shows at c.requires.taken.1))

-- the bytes are those of the state that the value leads to, in which no container is open
pub returns-clause-ok : goal.returns-clause-ok
returns-clause-ok g c =
    let written = rw (← c.part.ensures.shows) at c.in_ok-write_tree.ensures.writes.ok in
    IfOk-weaker c.finish.result _ _ (λ out told state made. told.0 ∙ ap g.S.ShapeSerializer.out (same_state _ _ _ written made)) c.finish.ensures.ok

pub returns-clause-err : goal.returns-clause-err
returns-clause-err g c =
    let written = rw (← c.part.ensures.shows) at c.in_ok-write_tree.ensures.writes.ok in
    let told = c.finish.ensures in
    ends_well c.finish.result _ _ (has_not_failed _ _ c.in_ok-write_tree.ensures.writes.broken) told.failed told.refused
    (ap g.S.ShapeSerializer.open_in (same_state _ _ _ written c.requires.taken.1) ∙ c.requires.taken.2)
