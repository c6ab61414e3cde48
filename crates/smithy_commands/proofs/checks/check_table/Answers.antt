use Rattle.std.proofs.lemmas.Result.{err_from_is_err_and}
use Rattle.smithy_commands.proofs.Refusals.{table_unloaded, root_missing}
use Rattle.smithy_commands.proofs.checks.check_table.Goals as goal

pub returns-in_err-shapes-clause-refused : goal.returns-in_err-shapes-clause-refused
returns-in_err-shapes-clause-refused g c =
    let told = g.F.Files.told in
    let path = c.args.table.now in
    let p = err_from_is_err_and c.from_residual.result c.from_residual.ensures.1 in
    rw (p.1, p.2) (table_unloaded c.args.root.now (told c.args.files.now path) (told c.load_table.new.files path) c.in_err-shapes.field-0.0 c.in_err-shapes.ensures.refused)

pub returns-in_err-found-clause-refused : goal.returns-in_err-found-clause-refused
returns-in_err-found-clause-refused g c =
    let told = g.F.Files.told in
    let path = c.args.table.now in
    let loaded = c.in_ok-shapes.ensures.table in
    let p = err_from_is_err_and c.from_residual-in_err-found.result c.from_residual-in_err-found.ensures.1 in
    rw (p.1, p.2)
    (root_missing c.args.root.now (told c.args.files.now path) (told c.load_table.new.files path) loaded.0 c.in_ok-shapes.shapes loaded.1 loaded.2 c.in_err-found.field-0.0
    c.in_err-found.ensures.refused)

pub returns-clause-passed : goal.returns-clause-passed
returns-clause-passed g c =
    let loaded = c.in_ok-shapes.ensures.table in
    let root = c.in_ok-found.ensures.root in
    record { text = loaded.0; loaded = loaded.1; accepted_as = loaded.2; is_root = record { named = root.0; structure = root.1 } }
