use Rattle.std.proofs.Common.{inl, inr, List, map, refl, subst}
use Rattle.smithy_model_table.specs.declared.left.Left as kept
use Rattle.smithy_model_table.specs.Views.{left_view, wanted_view}
use Rattle.smithy_table_commands.specs.Status.{said}
use Rattle.smithy_outside.specs.Outside.{TookLine}
use Rattle.smithy_table_commands.proofs.RunLemmas.{refused_before}
use Rattle.smithy_table_commands.proofs.running.status_of.Goals as goal

pub returns-in-Err : goal.returns-in-Err
returns-in-Err g c =
    inl (c.in-Err.ensures.refused, (refl, refl), c.report.ensures.line (refused_before c.args.text.now (wanted_view c.args.task.wanted) c.in-Err.status c.in-Err.ensures.refused))

pub returns-in-Ok : goal.returns-in-Ok
returns-in-Ok g c =
    let made = c.in-Ok.ensures.table in
    inr (
      made.0,
      c.in-Ok.table.text.items,
      map left_view c.in-Ok.table.left.items,
      made.1,
      made.2,
      c.hand_out-status.ensures,
      subst (λ (left : List kept.Left). TookLine (said (map left_view left) c.hand_out-status.result) (g.E.Sink.told c.args.err.now) (g.E.Sink.told c.say.new.err) (g.E.Sink.holds_back c.say.new.err))
          c.deref.ensures.value c.say.ensures,
    )
