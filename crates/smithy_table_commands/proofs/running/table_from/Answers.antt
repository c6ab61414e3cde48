use Rattle.std.proofs.lemmas.Result.{err_from_is_err_and}
use Rattle.smithy_model.specs.Views.{model_view}
use Rattle.smithy_model_table.specs.Views.{wanted_view}
use Rattle.smithy_table_commands.proofs.RunLemmas.{model_refused, table_refused}
use Rattle.smithy_table_commands.proofs.running.table_from.Goals as goal

pub returns-clause-table : goal.returns-clause-table
returns-clause-table c = (model_view c.in_ok-model.model, c.in_ok-model.ensures.read, c.in_ok-table.ensures.table)

pub returns-in_err-model-clause-refused : goal.returns-in_err-model-clause-refused
returns-in_err-model-clause-refused c =
    let p = err_from_is_err_and c.from_residual.result c.from_residual.ensures.1 in
    rw (p.1, p.2) (model_refused c.args.text.now (wanted_view c.args.wanted) c.in_err-model.field-0.0 c.in_err-model.ensures.refused)

pub returns-in_err-table-clause-refused : goal.returns-in_err-table-clause-refused
returns-in_err-table-clause-refused c =
    let p = err_from_is_err_and c.from_residual-in_err-table.result c.from_residual-in_err-table.ensures.1 in
    rw (p.1, p.2) (table_refused c.args.text.now (wanted_view c.args.wanted) c.in_err-table.field-0.0
    (model_view c.in_ok-model.model, c.in_ok-model.ensures.read, c.in_err-table.ensures.refused))
