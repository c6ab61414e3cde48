use Rattle.std.proofs.Common.{map, take}
use Rattle.smithy_model.specs.Views.{operation_view}
use Rattle.smithy_model_table.specs.Roles.{AreNamedBy}
use Rattle.smithy_model_table.proofs.roles.Roles.of.Given as goal

-- the operations so far
abbrev pub invariant-loop-operation : goal.invariant-loop-operation
invariant-loop-operation l = AreNamedBy (map operation_view (take l.operation-index l.model.operations.items)) l.roles
