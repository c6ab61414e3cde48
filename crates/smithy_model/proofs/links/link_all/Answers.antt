use Rattle.std.proofs.Common.{◌<◌, ◌≤◌, length, refl, rules}
use Rattle.std.proofs.lemmas.Result.{err_from_is_err_and}
use Rattle.smithy_model.specs.Reading.{IsNumbered}
use Rattle.smithy_model.specs.Faults.{is_target}
use Rattle.smithy_model.specs.Views.{member_view, numbers_view}
use Rattle.smithy_model.proofs.Zip.{one_changed, all_linked, one_missing}
use Rattle.smithy_model.proofs.links.link_all.Goals as goal

pub loop-place-init : goal.loop-place-init
loop-place-init c = refl

pub returns-in_err-link : goal.returns-in_err-link
returns-in_err-link c =
    let p = err_from_is_err_and c.from_residual.result c.from_residual.ensures.1 in
    let within : c.loop-place.place < length c.loop-place.members.items = search rules in
    rw (p.1, p.2)
    (one_missing (numbers_view c.args.numbers.now) IsNumbered is_target member_view c.loop-place.place c.args.members.now.items c.loop-place.members.items c.index_mut.result.now
    c.in_err-link.field-0.0 c.loop-place.invariant within c.index_mut.ensures.value c.in_err-link.ensures.refused)

pub loop-place-preserved : goal.loop-place-preserved
loop-place-preserved c =
    let within : c.loop-place.place < length c.loop-place.members.items = search rules in
    one_changed (IsNumbered (numbers_view c.args.numbers.now)) member_view c.loop-place.place c.args.members.now.items c.loop-place.members.items c.index_mut.result.now c.link.new.member
    c.loop-place.invariant within c.index_mut.ensures.value c.in_ok-link.ensures.linked

pub returns : goal.returns
returns c =
    let enough : length c.args.members.now.items ≤ c.loop-place.place = search rules in
    all_linked (numbers_view c.args.numbers.now) IsNumbered is_target member_view c.loop-place.place c.args.members.now.items c.loop-place.members.items c.loop-place.invariant enough
