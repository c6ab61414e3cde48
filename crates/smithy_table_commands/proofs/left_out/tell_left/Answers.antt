use Rattle.smithy_model_table.specs.declared.left.Left as kept
use Rattle.smithy_model_table.specs.Views.{left_view}
use Rattle.smithy_table_commands.specs.Status.{left_line}
use Rattle.smithy_table_commands.proofs.Told.{one_more, one_failed}
use Rattle.smithy_table_commands.proofs.left_out.tell_left.Goals as goal

pub returns-in_err-write_left : goal.returns-in_err-write_left
returns-in_err-write_left g c =
    let told = g.E.Sink.told in
    let front = c.in_err-write_left.ensures in
    one_failed (λ (w : kept.Left). left_line (left_view w)) c.args.left.now c.loop-one.one-index _ _ c.from_residual.result c.loop-one-test.true
    (told c.args.err.now) (told c.loop-one.err) (told c.write_left.new.err) c.loop-one.invariant c.from_residual.ensures.1 front.0 front.1

pub loop-one-preserved : goal.loop-one-preserved
loop-one-preserved g c =
    let told = g.E.Sink.told in
    one_more (λ (w : kept.Left). left_line (left_view w)) c.args.left.now c.loop-one.one-index _ c.loop-one-test.true
    (told c.args.err.now) (told c.loop-one.err) (told c.write_left.new.err) c.loop-one.invariant c.in_ok-write_left.ensures
