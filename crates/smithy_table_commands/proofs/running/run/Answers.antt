use Rattle.std.proofs.Common.{map, string_bytes, refl, sym}
use Rattle.smithy_table_commands.specs.Views.{task_view}
use Rattle.smithy_table_commands.proofs.RunLemmas.{of_task, of_no_task}
use Rattle.smithy_table_commands.proofs.running.run.Goals as goal

pub returns-in-Some : goal.returns-in-Some
returns-in-Some g c =
    let a = c.perform.ensures in
    of_task (map string_bytes c.args.words.now) (task_view c.in-Some.task) (g.F.Files.told c.args.files.now) (g.F.Files.told c.perform.new.files)
    (g.K.Sink.told c.args.out.now) (g.K.Sink.told c.perform.new.out) (g.E.Sink.told c.args.err.now) (g.E.Sink.told c.perform.new.err)
    (g.K.Sink.holds_back c.args.out.now) (g.K.Sink.holds_back c.perform.new.out) (g.E.Sink.holds_back c.perform.new.err) c.perform.result a.0 (sym c.in-Some.ensures) a.1 a.2

pub returns-in-None : goal.returns-in-None
returns-in-None g c =
    of_no_task (map string_bytes c.args.words.now) (g.F.Files.told c.args.files.now) (g.K.Sink.told c.args.out.now) (g.E.Sink.told c.args.err.now)
    (g.E.Sink.told c.report.new.err) (g.K.Sink.holds_back c.args.out.now) (g.E.Sink.holds_back c.report.new.err) c.code.result (sym c.in-None.ensures) c.code.ensures
    (c.report.ensures.line refl)
