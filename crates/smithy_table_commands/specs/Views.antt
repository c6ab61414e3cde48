-- What the types of the program stand for.
use Rattle.smithy_model_table.specs.Views.{wanted_view}
use Rattle.smithy_table_commands.specs.declared.task.Task as kept
use Rattle.smithy_table_commands.specs.Command.{Task}

abbrev pub task_view : kept.Task → Task
task_view t = record { model_path = t.model.now; wanted = wanted_view t.wanted; is_partial = t.is_partial }
