use Rattle.std.proofs.Common.{◌≡◌, map, take}
use Rattle.smithy_model.specs.Model.{Operation}
use Rattle.smithy_model.specs.Views.{operation_view}
use Rattle.smithy_model_table.proofs.finding.operation_ids.Given as goal

-- the ids so far
abbrev pub invariant-loop-operation : goal.invariant-loop-operation
invariant-loop-operation l = map (λ t. t.now) l.ids.items ≡ map (λ (o : Operation). o.id) (map operation_view (take l.operation-index l.model.operations.items))
