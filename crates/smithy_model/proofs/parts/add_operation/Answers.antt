use Rattle.std.proofs.Common.{◌≡◌, true, Some, rules}
use Rattle.json.specs.Value.{value_view}
use Rattle.smithy_model.specs.Objects.{Entry}
use Rattle.smithy_model.specs.Reading.{is_operation}
use Rattle.smithy_model.specs.Shapes.{operation_in}
use Rattle.smithy_model.specs.Faults.{RefusesOperations}
use Rattle.smithy_model.specs.Views.{form_view, operation_view}
use Rattle.smithy_model.proofs.AllSome.{one_added}
use Rattle.smithy_model.proofs.parts.add_operation.Goals as goal

pub returns-in_ok-push-in-Some : goal.returns-in_ok-push-in-Some
returns-in_ok-push-in-Some c =
    let form = form_view c.args.format in
    let passes : is_operation (form_view c.args.format) (value_view c.args.spec.now) ≡ true = search rules in
    let found : operation_in (form_view c.args.format) (c.args.id.now, value_view c.args.spec.now) ≡ Some (operation_view c.in-Some.operation) = search rules in
    one_added (λ (e : Entry). is_operation form e.1) (operation_in form) (RefusesOperations form) operation_view (c.args.id.now, value_view c.args.spec.now) c.in-Some.operation c.args.operations.now.items _
    passes found c.in_ok-push-in-Some.ensures.items
