use Rattle.std.proofs.Common.{◌≡◌, map, take, Some}
use Rattle.smithy_model.specs.Reading.{shapes_among}
use Rattle.smithy_model.specs.Views.{entry_view, form_view, shape_view}
use Rattle.smithy_model.proofs.parts.read_shapes.Given as goal

-- what was read so far
abbrev pub invariant-loop-id : goal.invariant-loop-id
invariant-loop-id l = shapes_among (form_view l.format) (map entry_view (take l.id-index l.entries)) ≡ Some (map shape_view l.shapes.items)
