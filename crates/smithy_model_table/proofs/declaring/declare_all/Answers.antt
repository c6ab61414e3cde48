use Rattle.std.proofs.Common.{map, option_map}
use Rattle.std.specs.Prelude.{option_to_list}
use Rattle.smithy_model.specs.Views.{model_view}
use Rattle.smithy_model_table.specs.Views.{names_view, left_view}
use Rattle.smithy_declarations.specs.DeclViews.{decl_of}
use Rattle.smithy_model_table.proofs.OutcomeLemmas.{part_kept}
use Rattle.smithy_model_table.proofs.declaring.declare_all.Goals as goal

pub loop-number-preserved : goal.loop-number-preserved
loop-number-preserved c =
    part_kept (model_view c.args.model.now) c.args.marks.now (names_view c.args.names.now) c.args.order.now c.loop-number.number-index
    (map decl_of c.loop-number.decls.items) (map decl_of c.add_decl.new.decls.items) (option_to_list (option_map decl_of c.in_ok-decl.decl))
    (map left_view c.loop-number.left.items) (map left_view c.declare_shape.new.left.items) c.loop-number-test.true c.loop-number.invariant
    c.in_ok-decl.ensures c.in_ok-add_decl.ensures
