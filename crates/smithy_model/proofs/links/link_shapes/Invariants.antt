use Rattle.smithy_model.specs.Reading.{IsShapeNumbered}
use Rattle.smithy_model.specs.Views.{shape_view, numbers_view}
use Rattle.smithy_model.proofs.Zip.{AreChanged}
use Rattle.smithy_model.proofs.links.link_shapes.Given as goal

-- those so far
abbrev pub invariant-loop-number : goal.invariant-loop-number
invariant-loop-number l = AreChanged (IsShapeNumbered (numbers_view l.numbers)) shape_view l.number l.initial.shapes.items l.shapes.items
