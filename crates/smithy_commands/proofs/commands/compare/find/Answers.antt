use Rattle.std.proofs.Common.{◌∙◌, arith}
use Rattle.std.proofs.lemmas.Result.{err_from_is_err_and}
use Rattle.smithy_commands.specs.Checks.{longest_input, IsRoot}
use Rattle.smithy_commands.specs.Compare.{compare_view}
use Rattle.smithy_commands.proofs.CompareLemmas.{loaded_before, table_fails, root_fails, first_fails, second_fails, last_fails}
use Rattle.smithy_commands.proofs.commands.compare.find.Goals as goal

pub returns-in_err-table-clause-refused : goal.returns-in_err-table-clause-refused
returns-in_err-table-clause-refused g c =
    let told = g.F.Files.told in
    let p = err_from_is_err_and c.from_residual.result c.from_residual.ensures.1 in
    rw (p.1, p.2) (table_fails (compare_view c.args.command) (told c.args.files.now) (told c.load_table.new.files) c.in_err-table.field-0.0 c.in_err-table.ensures.refused)

pub returns-in_err-root-clause-refused : goal.returns-in_err-root-clause-refused
returns-in_err-root-clause-refused g c =
    let told = g.F.Files.told in
    let loaded = c.in_ok-table.ensures.table in
    let p = err_from_is_err_and c.from_residual-in_err-root.result c.from_residual-in_err-root.ensures.1 in
    rw (p.1, p.2) (root_fails (compare_view c.args.command) (told c.args.files.now) (told c.load_table.new.files) loaded.0 c.in_ok-table.table loaded.1 loaded.2
    c.in_err-root.field-0.0 c.in_err-root.ensures.refused)

pub returns-in_err-first-clause-refused : goal.returns-in_err-first-clause-refused
returns-in_err-first-clause-refused g c =
    let told = g.F.Files.told in
    let path = c.args.command.first.path.now in
    let loaded = c.in_ok-table.ensures.table in
    let root = c.in_ok-root.ensures.root in
    let there : IsRoot c.args.command.root.now c.in_ok-table.table c.in_ok-root.root.0 = record { named = root.0; structure = root.1 } in
    let p = err_from_is_err_and c.from_residual-in_err-first.result c.from_residual-in_err-first.ensures.1 in
    rw (p.1, p.2) (first_fails (compare_view c.args.command) (told c.args.files.now) (told c.load_file.new.files) loaded.0 c.in_ok-table.table loaded.1 loaded.2 c.in_ok-root.root.0 there
    (told c.load_table.new.files path) c.in_err-first.field-0.0 (c.load_table.ensures.kept path) (c.load_table.ensures.steady path) (c.load_table.ensures.later path) c.in_err-first.ensures.refused)

pub returns-in_err-second-clause-refused : goal.returns-in_err-second-clause-refused
returns-in_err-second-clause-refused g c =
    let told = g.F.Files.told in
    let path1 = c.args.command.first.path.now in
    let path = c.args.command.second.path.now in
    let loaded = c.in_ok-table.ensures.table in
    let root = c.in_ok-root.ensures.root in
    let there : IsRoot c.args.command.root.now c.in_ok-table.table c.in_ok-root.root.0 = record { named = root.0; structure = root.1 } in
    let first = loaded_before longest_input c.in_ok-first.first.items (told c.args.files.now path1) (told c.load_table.new.files path1) (c.load_table.ensures.kept path1) c.in_ok-first.ensures.loaded in
    let one = c.load_table.ensures.later path in
    let two = c.load_file.ensures.later path in
    let p = err_from_is_err_and c.from_residual-in_err-second.result c.from_residual-in_err-second.ensures.1 in
    rw (p.1, p.2) (second_fails (compare_view c.args.command) (told c.args.files.now) (told c.load_file-2.new.files) loaded.0 c.in_ok-table.table loaded.1 loaded.2 c.in_ok-root.root.0 there
    c.in_ok-first.first.items first (told c.load_file.new.files path) c.in_err-second.field-0.0 (c.load_file.ensures.kept path ∙ c.load_table.ensures.kept path)
    (c.load_file.ensures.steady path ∙ c.load_table.ensures.steady path) (omega (arith, one, two)) c.in_err-second.ensures.refused)

pub returns-clause-refused : goal.returns-clause-refused
returns-clause-refused g c =
    let told = g.F.Files.told in
    let path1 = c.args.command.first.path.now in
    let path = c.args.command.second.path.now in
    let loaded = c.in_ok-table.ensures.table in
    let root = c.in_ok-root.ensures.root in
    let there : IsRoot c.args.command.root.now c.in_ok-table.table c.in_ok-root.root.0 = record { named = root.0; structure = root.1 } in
    let first = loaded_before longest_input c.in_ok-first.first.items (told c.args.files.now path1) (told c.load_table.new.files path1) (c.load_table.ensures.kept path1) c.in_ok-first.ensures.loaded in
    let second = loaded_before longest_input c.in_ok-second.second.items (told c.args.files.now path) (told c.load_file.new.files path)
    (c.load_file.ensures.kept path ∙ c.load_table.ensures.kept path) c.in_ok-second.ensures.loaded in
    last_fails (compare_view c.args.command) (told c.args.files.now) (told c.load_file-2.new.files) loaded.0 c.in_ok-table.table loaded.1 loaded.2 c.in_ok-root.root.0 there
    c.in_ok-first.first.items first c.in_ok-second.second.items second c.answer_of.result (rw (c.deref.ensures.value, c.deref-2.ensures.value) at c.answer_of.ensures.refused)
