use Rattle.std.proofs.Common.{◌≡◌, List, map, take}
use Rattle.std.specs.List.{fold, AllZip}
use Rattle.smithy_model.specs.Model.{Shape}
use Rattle.smithy_model.specs.Mixins.{nothing, with_mixin, IsDone}
use Rattle.smithy_model.specs.Placing.{ArePlaces}
use Rattle.smithy_model.specs.Views.{member_view, shape_view, gathered_view}
use Rattle.smithy_model.proofs.mixins.gather.Given as goal

-- what the mixins so far have
abbrev pub invariant-loop-id : goal.invariant-loop-id
invariant-loop-id l = record {
  so_far : (mixins : List Shape) × AllZip (IsDone (map shape_view l.shapes) l.done) (map (λ t. t.now) (take l.id-index l.shape.mixins.items)) mixins
      × (gathered_view l.gathered ≡ fold with_mixin nothing mixins);
  places : ArePlaces (map member_view l.gathered.members.items) l.gathered.places;
}
