use Rattle.std.proofs.Common.{map, take}
use Rattle.smithy_model.specs.Views.{shape_view}
use Rattle.smithy_model_table.specs.Roles.{AreShared}
use Rattle.smithy_model_table.proofs.names.shared_names.Given as goal

-- the names so far
abbrev pub invariant-loop-shape : goal.invariant-loop-shape
invariant-loop-shape l = AreShared (map shape_view (take l.shape-index l.model.shapes.items)) l.there l.shared
