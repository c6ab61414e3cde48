use Rattle.std.proofs.Common.{◌∙◌}
use Rattle.smithy_transcode_c.proofs.TaskLemmas.{task_prepared, task_refused}
use Rattle.smithy_transcode_c.proofs.smithy_transcode_prepare.Goals as goal

pub returns-in-Ok : goal.returns-in-Ok
returns-in-Ok c =
    task_prepared (record { root_name = c.args.root.now; from = c.args.from; to = c.args.to; action = c.args.action.now; version = c.args.version.now }) c.args.table.kept c.deref_mut.result.now
    c.prepare-prepared.new.self c.of.result.kept (c.deref_mut.ensures.value ∙ c.into_box-kept.ensures) c.of.ensures c.args.task.now c.in-Ok.number c.in-Ok.ensures.prepared

pub returns-in-Err : goal.returns-in-Err
returns-in-Err c =
    task_refused (record { root_name = c.args.root.now; from = c.args.from; to = c.args.to; action = c.args.action.now; version = c.args.version.now }) c.args.table.kept c.deref_mut.result.now
    c.prepare-prepared.new.self c.of.result.kept (c.deref_mut.ensures.value ∙ c.into_box-kept.ensures) c.of.ensures c.in-Err.refusal c.number.result c.args.task.now c.in-Err.ensures.refused c.number.ensures
