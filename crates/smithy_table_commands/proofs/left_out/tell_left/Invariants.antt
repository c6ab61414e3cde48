use Rattle.std.proofs.Common.{take}
use Rattle.std.specs.Prelude.{flat_map}
use Rattle.smithy_model_table.specs.Views.{left_view}
use Rattle.smithy_table_commands.specs.Status.{left_line}
use Rattle.smithy_table_commands.proofs.Told.{TookWhole}
use Rattle.smithy_table_commands.proofs.left_out.tell_left.Given as goal

abbrev pub invariant-loop-one : goal.invariant-loop-one
invariant-loop-one g l = TookWhole (flat_map (λ w. left_line (left_view w)) (take l.one-index l.left)) (g.E.Sink.told l.initial.err) (g.E.Sink.told l.err)
