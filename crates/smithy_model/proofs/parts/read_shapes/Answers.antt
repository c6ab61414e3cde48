use Rattle.std.proofs.Common.{map}
use Rattle.std.proofs.lemmas.Result.{err_from_is_err_and}
use Rattle.smithy_model.specs.Objects.{Entry}
use Rattle.smithy_model.specs.Reading.{is_of_values}
use Rattle.smithy_model.specs.Shapes.{shape_in}
use Rattle.smithy_model.specs.Views.{entry_view, form_view, shape_view}
use Rattle.smithy_model.proofs.AllSome.{among_more}
use Rattle.smithy_model.proofs.Refusals.{shapes_refused}
use Rattle.smithy_model.proofs.parts.read_shapes.Goals as goal

pub returns-in_err-add_shape : goal.returns-in_err-add_shape
returns-in_err-add_shape c =
    let p = err_from_is_err_and c.from_residual.result c.from_residual.ensures.1 in
    rw (p.1, p.2) (record {
      read = tt;
      refused = shapes_refused (form_view c.args.format) c.args.entries.now c.loop-id.id-index c.loop-id-item.result c.loop-id-test.true c.loop-id-item.is
          c.in_err-add_shape.field-0.0 c.in_err-add_shape.ensures.refused;
    })

pub loop-id-preserved : goal.loop-id-preserved
loop-id-preserved c =
    let form = form_view c.args.format in
    let more = c.in_ok-add_shape.ensures.read in
    rw (more.2)
    (among_more (λ (e : Entry). is_of_values form e.1) (shape_in form) entry_view c.args.entries.now c.loop-id.id-index c.loop-id-item.result
    (map shape_view c.loop-id.shapes.items) more.0 c.loop-id-test.true c.loop-id-item.is c.loop-id.invariant more.1)
