use Rattle.std.proofs.Common.{List, ℕ, map, subst}
use Rattle.std.proofs.lemmas.Result.{IfOk-weaker}
use Rattle.smithy_model.specs.Views.{model_view}
use Rattle.smithy_declarations.specs.DeclViews.{decl_of}
use Rattle.smithy_model_table.specs.Declaring.{Names}
use Rattle.smithy_model_table.specs.Outcomes.{AreParts}
use Rattle.smithy_model_table.specs.Views.{names_view, left_view}
use Rattle.smithy_model_table.proofs.table.declare_reached.Goals as goal

pub returns : goal.returns
returns c =
    let m = model_view c.args.model.now in
    let marks = c.args.marks.now in
    let order = c.in_ok-order.order.items in
    IfOk-weaker c.declare_all.result _ _
    (λ d parts. (
      order,
      c.in_ok-order.ensures,
      subst (λ (ns : Names). AreParts m marks ns order (map decl_of d.decls.items) (map left_view d.left.items)) c.in_ok-names.ensures
          (subst (λ (ns : List ℕ). AreParts m marks (names_view c.in_ok-names.names) ns (map decl_of d.decls.items) (map left_view d.left.items)) c.deref.ensures.value parts),
    )) c.declare_all.ensures
