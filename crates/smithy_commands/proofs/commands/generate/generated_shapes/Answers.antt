use Rattle.std.proofs.Common.{◌∙◌, sym, map}
use Rattle.std.proofs.lemmas.Result.{err_from_is_err_and}
use Rattle.smithy_declarations.specs.Acceptance.{build_of}
use Rattle.smithy_declarations.specs.DeclViews.{decl_of}
use Rattle.smithy_generator.specs.Generated.{generated_table}
use Rattle.smithy_generator.specs.GeneratedShapes.{generated_shapes}
use Rattle.smithy_generator.proofs.Tables.{table_is}
use Rattle.smithy_commands.proofs.Refusals.{table_of_declarations}
use Rattle.smithy_commands.proofs.GenLemmas.{accepted_alone, lines_alone, only_table}
use Rattle.smithy_commands.proofs.commands.generate.generated_shapes.Goals as goal

pub returns-clause-table : goal.returns-clause-table
returns-clause-table c =
    let read = rw c.table_text.ensures at c.in_ok-declarations.ensures.read in
    only_table c.in_ok-build.field-0 (table_of_declarations generated_table (map decl_of c.in_ok-declarations.declarations.items) read ∙ c.in_ok-build.ensures.built)

pub returns-in_err-declarations-clause-only_memory : goal.returns-in_err-declarations-clause-only_memory
returns-in_err-declarations-clause-only_memory c =
    let p = err_from_is_err_and c.from_residual.result c.from_residual.ensures.1 in
    rw (p.1, p.2) (lines_alone generated_table generated_shapes c.in_err-declarations.field-0.0 table_is (rw c.table_text.ensures at c.in_err-declarations.ensures.refused))

pub returns-in_err-build-clause-only_memory : goal.returns-in_err-build-clause-only_memory
returns-in_err-build-clause-only_memory c =
    let decls = map decl_of c.in_ok-declarations.declarations.items in
    let read = rw c.table_text.ensures at c.in_ok-declarations.ensures.read in
    let p = err_from_is_err_and c.from_residual-in_err-build.result c.from_residual-in_err-build.ensures.1 in
    rw (p.1, p.2) (accepted_alone (build_of decls) generated_shapes c.in_err-build.field-0.0 (sym (table_of_declarations generated_table decls read) ∙ table_is) c.in_err-build.ensures.refused)
