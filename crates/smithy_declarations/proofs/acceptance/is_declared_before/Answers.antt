use Rattle.std.proofs.Common.{sym, ◌∙◌, map}
use Rattle.std.specs.Str.{bytes_eq}
use Rattle.smithy_declarations.specs.DeclViews.{decl_of}
use Rattle.smithy_declarations.specs.Private.DeclNames.{declared_name}
use Rattle.smithy_declarations.proofs.AcceptanceLemmas.{declared_before, not_declared_before, is_declared-take}
use Rattle.smithy_declarations.proofs.acceptance.is_declared_before.Goals as goal

pub returns-in-Some : goal.returns-in-Some
returns-in-Some c =
    sym (is_declared-take decl_of c.args.decls.now c.args.position c.args.name.now
    ∙ declared_before (λ n. bytes_eq n c.args.name.now) (map declared_name c.args.decls.now) c.args.position c.in-Some.first c.in-Some.ensures)

pub returns-in-None : goal.returns-in-None
returns-in-None c =
    sym (is_declared-take decl_of c.args.decls.now c.args.position c.args.name.now
    ∙ not_declared_before (λ n. bytes_eq n c.args.name.now) (map declared_name c.args.decls.now) c.args.position c.in-None.ensures)
