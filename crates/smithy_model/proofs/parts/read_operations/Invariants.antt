use Rattle.std.proofs.Common.{◌≡◌, map, take, Some}
use Rattle.smithy_model.specs.Reading.{operations_among}
use Rattle.smithy_model.specs.Views.{entry_view, form_view, operation_view}
use Rattle.smithy_model.proofs.parts.read_operations.Given as goal

-- what was read so far
abbrev pub invariant-loop-id : goal.invariant-loop-id
invariant-loop-id l = operations_among (form_view l.format) (map entry_view (take l.id-index l.entries)) ≡ Some (map operation_view l.operations.items)
