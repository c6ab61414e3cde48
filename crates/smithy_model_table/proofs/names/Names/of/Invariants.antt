use Rattle.std.proofs.Common.{◌≡◌, map, take}
use Rattle.smithy_model.specs.Views.{model_view, shape_view}
use Rattle.smithy_model_table.specs.Naming.{name_of_shape}
use Rattle.smithy_model_table.proofs.names.Names.of.Given as goal

-- the names so far
abbrev pub invariant-loop-shape : goal.invariant-loop-shape
invariant-loop-shape l = map (λ t. t.now) l.names.items ≡ map (name_of_shape (model_view l.model)) (map shape_view (take l.shape-index l.model.shapes.items))
