use Rattle.std.proofs.Common.{map, rules}
use Rattle.std.proofs.lemmas.Result.{err_from_is_err_and}
use Rattle.smithy_declarations.specs.DeclViews.{decl_of}
use Rattle.smithy_commands.specs.Checks.{longest_table, IsLoaded}
use Rattle.smithy_commands.proofs.Refusals.{line_fails, build_fails}
use Rattle.smithy_commands.proofs.checks.load_table.Goals as goal

pub returns-in_err-declarations-clause-refused : goal.returns-in_err-declarations-clause-refused
returns-in_err-declarations-clause-refused g c =
    let told = g.F.Files.told in
    let loaded : IsLoaded longest_table c.deref.result.now (told c.args.files.now c.args.path.now) = rw c.deref.ensures.value (search rules) in
    let p = err_from_is_err_and c.from_residual-in_err-declarations.result c.from_residual-in_err-declarations.ensures.1 in
    rw (p.1, p.2) (line_fails (told c.args.files.now c.args.path.now) (told c.load.new.self c.args.path.now) c.deref.result.now
    c.in_err-declarations.field-0.0 loaded c.in_err-declarations.ensures.refused)

pub returns-in_err-build-clause-refused : goal.returns-in_err-build-clause-refused
returns-in_err-build-clause-refused g c =
    let told = g.F.Files.told in
    let loaded : IsLoaded longest_table c.deref.result.now (told c.args.files.now c.args.path.now) = rw c.deref.ensures.value (search rules) in
    let p = err_from_is_err_and c.from_residual-in_err-build.result c.from_residual-in_err-build.ensures.1 in
    rw (p.1, p.2) (build_fails (told c.args.files.now c.args.path.now) (told c.load.new.self c.args.path.now) c.deref.result.now
    (map decl_of c.in_ok-declarations.declarations.items) c.in_err-build.field-0.0 loaded c.in_ok-declarations.ensures.read c.in_err-build.ensures.refused)
