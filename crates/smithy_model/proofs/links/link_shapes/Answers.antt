use Rattle.std.proofs.Common.{◌<◌, ◌≤◌, length, refl, rules}
use Rattle.std.proofs.lemmas.Result.{err_from_is_err_and}
use Rattle.smithy_model.specs.Reading.{IsShapeNumbered}
use Rattle.smithy_model.specs.Linking.{is_target_of}
use Rattle.smithy_model.specs.Views.{shape_view, numbers_view}
use Rattle.smithy_model.proofs.Zip.{one_changed, all_linked, one_missing}
use Rattle.smithy_model.proofs.links.link_shapes.Goals as goal

pub loop-number-init : goal.loop-number-init
loop-number-init c = refl

pub returns-in_err-link_shape : goal.returns-in_err-link_shape
returns-in_err-link_shape c =
    let p = err_from_is_err_and c.from_residual.result c.from_residual.ensures.1 in
    let within : c.loop-number.number < length c.loop-number.shapes.items = search rules in
    rw (p.1, p.2)
    (one_missing (numbers_view c.args.numbers.now) IsShapeNumbered is_target_of shape_view c.loop-number.number c.args.shapes.now.items c.loop-number.shapes.items c.index_mut.result.now
    c.in_err-link_shape.field-0.0 c.loop-number.invariant within c.index_mut.ensures.value c.in_err-link_shape.ensures.refused)

pub loop-number-preserved : goal.loop-number-preserved
loop-number-preserved c =
    let within : c.loop-number.number < length c.loop-number.shapes.items = search rules in
    one_changed (IsShapeNumbered (numbers_view c.args.numbers.now)) shape_view c.loop-number.number c.args.shapes.now.items c.loop-number.shapes.items c.index_mut.result.now c.link_shape.new.shape
    c.loop-number.invariant within c.index_mut.ensures.value c.in_ok-link_shape.ensures.linked

pub returns : goal.returns
returns c =
    let enough : length c.args.shapes.now.items ≤ c.loop-number.number = search rules in
    all_linked (numbers_view c.args.numbers.now) IsShapeNumbered is_target_of shape_view c.loop-number.number c.args.shapes.now.items c.loop-number.shapes.items c.loop-number.invariant enough
