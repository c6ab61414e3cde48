use Rattle.std.proofs.Common.{◌≡◌, map, take}
use Rattle.smithy_model.specs.Reading.{ids_of}
use Rattle.smithy_model.specs.Views.{shape_view}
use Rattle.smithy_model_table.proofs.finding.shape_ids.Given as goal

-- the ids so far
abbrev pub invariant-loop-shape : goal.invariant-loop-shape
invariant-loop-shape l = map (λ t. t.now) l.ids.items ≡ ids_of (map shape_view (take l.shape-index l.model.shapes.items))
