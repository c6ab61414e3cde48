use Rattle.std.proofs.Common.{◌≡◌, map, take}
use Rattle.smithy_model.specs.Reading.{ids_of}
use Rattle.smithy_model.specs.Views.{shape_view, numbers_view}
use Rattle.smithy_model.proofs.numbers.Numbers.of.Given as goal

-- the ids so far
abbrev pub invariant-loop-shape : goal.invariant-loop-shape
invariant-loop-shape l = numbers_view l.numbers ≡ ids_of (map shape_view (take l.shape-index l.shapes))
