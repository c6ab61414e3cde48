use Rattle.std.proofs.Common.{◌≡◌, map}
use Rattle.smithy_model.specs.Mixins.{uses_of}
use Rattle.smithy_model.specs.Mixing.{TakesIn, count_of_waiting}
use Rattle.smithy_model.specs.Views.{shape_view}
use Rattle.smithy_model.proofs.mixins.take_in_all.Given as goal

-- the shapes so far
abbrev pub invariant-loop : goal.invariant-loop
invariant-loop l = record {
  mixed : TakesIn (map shape_view l.initial.shapes.items) (map shape_view l.shapes.items) l.initial.done.items l.done.items;
  uses : uses_of (map shape_view l.shapes.items) ≡ uses_of (map shape_view l.initial.shapes.items);
}

-- each turn but the last takes some in
abbrev pub decreases-loop : goal.decreases-loop
decreases-loop l = count_of_waiting l.done.items
