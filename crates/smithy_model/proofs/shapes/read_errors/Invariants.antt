use Rattle.std.proofs.Common.{◌≡◌, map, take}
use Rattle.smithy_model.specs.Shapes.{reference_to}
use Rattle.smithy_model.specs.Views.{reference_view}
use Rattle.smithy_model.proofs.shapes.read_errors.Given as goal

-- those so far
abbrev pub invariant-loop-id : goal.invariant-loop-id
invariant-loop-id l =
    map reference_view l.errors.items ≡ map reference_to (map (λ t. t.now) (take l.id-index l.id-items))
