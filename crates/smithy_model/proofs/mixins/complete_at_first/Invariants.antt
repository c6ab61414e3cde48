use Rattle.std.proofs.Common.{◌≡◌, map, take}
use Rattle.std.specs.Prelude.{not}
use Rattle.smithy_model.specs.Model.{Shape}
use Rattle.smithy_model.specs.Mixins.{takes_mixins}
use Rattle.smithy_model.specs.Views.{shape_view}
use Rattle.smithy_model.proofs.mixins.complete_at_first.Given as goal

abbrev pub invariant-loop-shape : goal.invariant-loop-shape
invariant-loop-shape l = l.done.items ≡ map (λ (s : Shape). not (takes_mixins s)) (map shape_view (take l.shape-index l.shapes))
