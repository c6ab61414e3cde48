use Rattle.std.proofs.Common.{sym, ap, ◌∙◌, ◌&&◌, not, map}
use Rattle.std.specs.Option.{is_some}
use Rattle.smithy_declarations.specs.Acceptance.{is_declared}
use Rattle.smithy_declarations.specs.DeclViews.{decl_of}
use Rattle.smithy_declarations.proofs.AcceptanceLemmas.{declared_if, not_not}
use Rattle.smithy_declarations.proofs.acceptance.is_unknown.Goals as goal

pub returns-then-is_none : goal.returns-then-is_none
returns-then-is_none c =
    let declared = declared_if decl_of c.args.decls.now c.args.target.now c.position_of.result c.position_of.ensures in
    let simple = ap is_some (sym c.simple_target.ensures) ∙ c.if-is_none.ensures in
    sym (ap (λ b. not b && not (is_declared (map decl_of c.args.decls.now) c.args.target.now)) simple ∙ ap not (declared ∙ c.is_none-then-is_none.ensures) ∙ not_not c.is_none-then-is_none.result)
