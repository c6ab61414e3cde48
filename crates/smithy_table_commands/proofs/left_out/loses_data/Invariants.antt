use Rattle.std.proofs.Common.{◌≡◌, map, drop}
use Rattle.smithy_model_table.specs.Views.{left_view}
use Rattle.smithy_table_commands.specs.RunAnswer.{loses_data}
use Rattle.smithy_table_commands.proofs.left_out.loses_data.Given as goal

abbrev pub invariant-loop-one : goal.invariant-loop-one
invariant-loop-one l = loses_data (map left_view (drop l.one-index l.left)) ≡ loses_data (map left_view l.left)
