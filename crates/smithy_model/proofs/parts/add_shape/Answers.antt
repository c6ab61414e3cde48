use Rattle.std.proofs.Common.{◌≡◌, true, Some, rules}
use Rattle.json.specs.Value.{value_view}
use Rattle.smithy_model.specs.Objects.{Entry}
use Rattle.smithy_model.specs.Reading.{is_of_values}
use Rattle.smithy_model.specs.Shapes.{shape_in}
use Rattle.smithy_model.specs.Faults.{RefusesShapes}
use Rattle.smithy_model.specs.Views.{form_view, shape_view}
use Rattle.smithy_model.proofs.AllSome.{one_added}
use Rattle.smithy_model.proofs.parts.add_shape.Goals as goal

pub returns-in_ok-push-in-Some : goal.returns-in_ok-push-in-Some
returns-in_ok-push-in-Some c =
    let form = form_view c.args.format in
    let passes : is_of_values (form_view c.args.format) (value_view c.args.spec.now) ≡ true = search rules in
    let found : shape_in (form_view c.args.format) (c.args.id.now, value_view c.args.spec.now) ≡ Some (shape_view c.in-Some.shape) = search rules in
    one_added (λ (e : Entry). is_of_values form e.1) (shape_in form) (RefusesShapes form) shape_view (c.args.id.now, value_view c.args.spec.now) c.in-Some.shape c.args.shapes.now.items _
    passes found c.in_ok-push-in-Some.ensures.items
