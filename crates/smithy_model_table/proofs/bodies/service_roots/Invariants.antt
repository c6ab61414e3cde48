use Rattle.std.proofs.Common.{◌≡◌, map, take, flat_map}
use Rattle.smithy_model.specs.Views.{model_view, operation_view}
use Rattle.smithy_model_table.specs.Wanted.{bodies_of}
use Rattle.smithy_model_table.proofs.bodies.service_roots.Given as goal

-- the bodies so far
abbrev pub invariant-loop-operation : goal.invariant-loop-operation
invariant-loop-operation l =
    l.roots.items ≡ flat_map (bodies_of (model_view l.fn.model)) (map operation_view (take l.operation-index l.model.operations.items))
