use Rattle.std.proofs.Common.{List, ℕ, map, subst}
use Rattle.std.specs.Prelude.{flat_map}
use Rattle.smithy_model_table.specs.Views.{left_view}
use Rattle.smithy_outside.specs.Outside.{Took, TookPrefix}
use Rattle.smithy_outside.proofs.Written.{written_more, cut_short}
use Rattle.smithy_table_commands.specs.Status.{left_line, last_line}
use Rattle.smithy_table_commands.proofs.Told.{over_map}
use Rattle.smithy_table_commands.proofs.left_out.write_said.Goals as goal

pub returns-in_err-tell_left-clause-written : goal.returns-in_err-tell_left-clause-written
returns-in_err-tell_left-clause-written g c =
    let told = g.E.Sink.told in
    let front = c.in_err-tell_left.ensures in
    cut_short _ (flat_map left_line (map left_view c.args.left.now)) (last_line c.args.status) c.from_residual.result (told c.args.err.now) (told c.tell_left.new.err)
    c.from_residual.ensures.1 front.0
    (subst (λ (xs : List ℕ). TookPrefix xs (told c.args.err.now) (told c.tell_left.new.err)) (over_map left_line left_view c.args.left.now) front.1)

pub returns-clause-written : goal.returns-clause-written
returns-clause-written g c =
    let told = g.E.Sink.told in
    let front = c.in_ok-tell_left.ensures in
    written_more (flat_map left_line (map left_view c.args.left.now)) (last_line c.args.status) c.write_last.result (told c.args.err.now) (told c.tell_left.new.err)
    (told c.write_last.new.err) front.0
    (subst (λ (xs : List ℕ). Took xs (told c.args.err.now) (told c.tell_left.new.err)) (over_map left_line left_view c.args.left.now) front.1)
    c.write_last.ensures.written
