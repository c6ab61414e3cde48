use Rattle.std.proofs.Common.{◌<◌, ◌≤◌, length, refl, rules}
use Rattle.std.proofs.lemmas.Result.{err_from_is_err_and}
use Rattle.smithy_model.specs.Reading.{IsReferenceNumbered}
use Rattle.smithy_model.specs.Faults.{refers_to}
use Rattle.smithy_model.specs.Views.{reference_view, numbers_view}
use Rattle.smithy_model.proofs.Zip.{one_changed, all_linked, one_missing}
use Rattle.smithy_model.proofs.references.link_errors.Goals as goal

pub loop-place-init : goal.loop-place-init
loop-place-init c = refl

pub returns-in_err-link_reference : goal.returns-in_err-link_reference
returns-in_err-link_reference c =
    let p = err_from_is_err_and c.from_residual.result c.from_residual.ensures.1 in
    let within : c.loop-place.place < length c.loop-place.errors.items = search rules in
    rw (p.1, p.2)
    (one_missing (numbers_view c.args.numbers.now) IsReferenceNumbered refers_to reference_view c.loop-place.place c.args.errors.now.items c.loop-place.errors.items c.index_mut.result.now
    c.in_err-link_reference.field-0.0 c.loop-place.invariant within c.index_mut.ensures.value c.in_err-link_reference.ensures.refused)

pub loop-place-preserved : goal.loop-place-preserved
loop-place-preserved c =
    let within : c.loop-place.place < length c.loop-place.errors.items = search rules in
    one_changed (IsReferenceNumbered (numbers_view c.args.numbers.now)) reference_view c.loop-place.place c.args.errors.now.items c.loop-place.errors.items c.index_mut.result.now c.link_reference.new.given
    c.loop-place.invariant within c.index_mut.ensures.value c.in_ok-link_reference.ensures.linked

pub returns : goal.returns
returns c =
    let enough : length c.args.errors.now.items ≤ c.loop-place.place = search rules in
    all_linked (numbers_view c.args.numbers.now) IsReferenceNumbered refers_to reference_view c.loop-place.place c.args.errors.now.items c.loop-place.errors.items c.loop-place.invariant enough
