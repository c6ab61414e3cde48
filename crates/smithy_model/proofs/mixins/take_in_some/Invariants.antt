use Rattle.std.proofs.Common.{◌≡◌, ◌<◌, ◌≤◌, ℕ, map, true, false}
use Rattle.smithy_model.specs.Mixins.{uses_of}
use Rattle.smithy_model.specs.Mixing.{TakesIn, IsSettledAt, count_of_waiting}
use Rattle.smithy_model.specs.Views.{shape_view}
use Rattle.smithy_model.proofs.mixins.take_in_some.Given as goal

-- the shapes so far, which are those at first where none was found
abbrev pub invariant-loop-number : goal.invariant-loop-number
invariant-loop-number l = record {
  mixed : TakesIn (map shape_view l.initial.shapes.items) (map shape_view l.shapes.items) l.initial.done.items l.done.items;
  uses : uses_of (map shape_view l.shapes.items) ≡ uses_of (map shape_view l.initial.shapes.items);
  no_more : count_of_waiting l.done.items ≤ count_of_waiting l.initial.done.items;
  fewer : l.found ≡ true → count_of_waiting l.done.items < count_of_waiting l.initial.done.items;
  same : l.found ≡ false → (l.shapes ≡ l.initial.shapes) × (l.done ≡ l.initial.done);
  held_up : l.found ≡ false → (k : ℕ) → k < l.number → IsSettledAt (map shape_view l.initial.shapes.items) l.initial.done.items k;
}
