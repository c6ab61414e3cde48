use Rattle.std.proofs.Common.{map}
use Rattle.std.proofs.lemmas.Result.{err_from_is_err_and}
use Rattle.smithy_declarations.specs.DeclViews.{decl_of}
use Rattle.smithy_transcode_c.proofs.Tables.{line_refuses, build_refuses}
use Rattle.smithy_transcode_c.proofs.accept.Goals as goal

pub returns-in_err-declarations-clause-refused : goal.returns-in_err-declarations-clause-refused
returns-in_err-declarations-clause-refused c =
    let p = err_from_is_err_and c.from_residual.result c.from_residual.ensures.1 in
    rw (p.1, p.2) (line_refuses c.args.text.now c.in_err-declarations.field-0.0 c.in_err-declarations.ensures.refused)

pub returns-in_err-table-clause-refused : goal.returns-in_err-table-clause-refused
returns-in_err-table-clause-refused c =
    let p = err_from_is_err_and c.from_residual-in_err-table.result c.from_residual-in_err-table.ensures.1 in
    rw (p.1, p.2) (build_refuses c.args.text.now (map decl_of c.in_ok-declarations.declarations.items) c.in_err-table.field-0.0
    c.in_ok-declarations.ensures.read c.in_err-table.ensures.refused)
