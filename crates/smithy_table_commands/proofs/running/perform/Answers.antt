use Rattle.std.proofs.Common.{inl, inr, List, ℕ, refl, subst}
use Rattle.smithy_table_commands.specs.RunAnswer.{SaysOf}
use Rattle.smithy_table_commands.specs.Views.{task_view}
use Rattle.smithy_table_commands.proofs.RunLemmas.{unloaded_before}
use Rattle.smithy_table_commands.proofs.running.perform.Goals as goal

pub returns-in-Err : goal.returns-in-Err
returns-in-Err g c = (
  c.in-Err.status,
  c.code.ensures,
  inl (
    c.in-Err.ensures.refused,
    (refl, refl),
    c.report.ensures.line (unloaded_before (g.F.Files.told c.args.files.now c.args.task.model.now) (g.F.Files.told c.load_model.new.files c.args.task.model.now)
        c.in-Err.status c.in-Err.ensures.refused),
  ),
)

pub returns : goal.returns
returns g c =
    let told = g.K.Sink.told in
    let err = g.E.Sink.told in
    let status = c.status_of-status.result in
    let task = task_view c.args.task in
    let says = subst (λ (text : List ℕ). SaysOf text task (told c.args.out.now) (told c.status_of-status.new.out) (g.K.Sink.holds_back c.args.out.now) (g.K.Sink.holds_back c.status_of-status.new.out)
    (err c.args.err.now) (err c.status_of-status.new.err) (g.E.Sink.holds_back c.status_of-status.new.err) status)
    c.deref.ensures.value c.status_of-status.ensures in
    (status, c.code-2.ensures, inr (c.in-Ok.text.items, c.in-Ok.ensures.loaded, c.in-Ok.ensures.well, says))
