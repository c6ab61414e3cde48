use Rattle.std.proofs.Common.{◌<◌, ◌≤◌, length, refl, rules}
use Rattle.std.proofs.lemmas.Result.{err_from_is_err_and}
use Rattle.smithy_model.specs.Reading.{IsOperationNumbered}
use Rattle.smithy_model.specs.Faults.{has_structure}
use Rattle.smithy_model.specs.Views.{operation_view, numbers_view}
use Rattle.smithy_model.proofs.Zip.{one_changed, all_linked, one_missing}
use Rattle.smithy_model.proofs.references.link_operations.Goals as goal

pub loop-place-init : goal.loop-place-init
loop-place-init c = refl

pub returns-in_err-link_operation : goal.returns-in_err-link_operation
returns-in_err-link_operation c =
    let p = err_from_is_err_and c.from_residual.result c.from_residual.ensures.1 in
    let within : c.loop-place.place < length c.loop-place.operations.items = search rules in
    rw (p.1, p.2)
    (one_missing (numbers_view c.args.numbers.now) IsOperationNumbered has_structure operation_view c.loop-place.place c.args.operations.now.items c.loop-place.operations.items c.index_mut.result.now
    c.in_err-link_operation.field-0.0 c.loop-place.invariant within c.index_mut.ensures.value c.in_err-link_operation.ensures.refused)

pub loop-place-preserved : goal.loop-place-preserved
loop-place-preserved c =
    let within : c.loop-place.place < length c.loop-place.operations.items = search rules in
    one_changed (IsOperationNumbered (numbers_view c.args.numbers.now)) operation_view c.loop-place.place c.args.operations.now.items c.loop-place.operations.items c.index_mut.result.now c.link_operation.new.operation
    c.loop-place.invariant within c.index_mut.ensures.value c.in_ok-link_operation.ensures.linked

pub returns : goal.returns
returns c =
    let enough : length c.args.operations.now.items ≤ c.loop-place.place = search rules in
    all_linked (numbers_view c.args.numbers.now) IsOperationNumbered has_structure operation_view c.loop-place.place c.args.operations.now.items c.loop-place.operations.items c.loop-place.invariant enough
