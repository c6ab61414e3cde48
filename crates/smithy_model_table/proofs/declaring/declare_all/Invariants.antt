use Rattle.std.proofs.Common.{map, take}
use Rattle.smithy_model.specs.Views.{model_view}
use Rattle.smithy_model_table.specs.Outcomes.{AreParts}
use Rattle.smithy_model_table.specs.Views.{names_view, left_view}
use Rattle.smithy_declarations.specs.DeclViews.{decl_of}
use Rattle.smithy_model_table.proofs.declaring.declare_all.Given as goal

-- what became of the shapes so far
abbrev pub invariant-loop-number : goal.invariant-loop-number
invariant-loop-number l =
    AreParts (model_view l.model) l.marks (names_view l.names) (take l.number-index l.order) (map decl_of l.decls.items) (map left_view l.left.items)
