use Rattle.std.proofs.Common.{◌≤◌, length, arith, ap, ◌∙◌, inr, refl, rules}
use Rattle.std.specs.Prelude.{not}
use Rattle.std.proofs.lemmas.Grind.{common_steps}
use Rattle.smithy_shapes.specs.Site.{site_of, kind_at}
use Rattle.smithy_cbor_codec.specs.Cursor.{cursor_of, reading_settings_of}
use Rattle.smithy_cbor_values.specs.Settings.{without_limits}
use Rattle.smithy_cbor_values.specs.Standing.{mark_with}
use Rattle.smithy_cbor_codec.specs.Private.MemberSteps.{StepsTo}
use Rattle.smithy_cbor_codec.proofs.DeserializerLemmas.{goes_ahead, not_missing, stays_inside}
use Rattle.smithy_cbor_codec.proofs.MemberStepLemmas.{steps_to, leaves_at, map_closes, cannot_step, members_shut}
use Rattle.smithy_cbor_codec.proofs.PassedEntryLemmas.{value_place, end_place}
use Rattle.smithy_wire.proofs.ContainerAnswers.{stepped, stuck}
use Rattle.smithy_wire.specs.Walking.{cursor_of as walk_cursor, gone_on_to}
use Rattle.smithy_cbor_codec.proofs.deserializer.CborDeserializer.step_from.Goals as goal

pub leave-requires-then-may_leave_at-clause-within : goal.leave-requires-then-may_leave_at-clause-within
leave-requires-then-may_leave_at-clause-within c =
    let next = rw (c.in-Ok-Some-End.field-0-is, c.in-Ok-Some-End.field-0-0-is) at c.in-Ok-Some-End.ensures in
    let old = cursor_of c.args.self.now in
    (end_place (not (reading_settings_of c.args.self.now).dispatch_null_members) (kind_at (site_of c.args.schema.now)) old.input c.end_depth.result c.args.at (mark_with old.inner.mark.due) c.in-Ok-Some-End.end c.requires.within next).1

pub returns-then-ends_empty-clause-steps : goal.returns-then-ends_empty-clause-steps
returns-then-ends_empty-clause-steps c =
    let o = reading_settings_of c.args.self.now in
    let old = cursor_of c.args.self.now in
    let new = walk_cursor c.leave.new.self in
    let site = site_of c.args.schema.now in
    let ended = c.ends_empty.ensures.0 c.if-ends_empty.true in
    let left = c.leave.ensures in
    stepped _ _ _ site old new c.args.at _
    (goes_ahead _ old new _ c.args.at c.requires.sound left.at left.input c.requires.ahead c.requires.within)
    (leaves_at o old new c.args.at site c.requires.place c.args.at (inr (ended.0, (ended.1.1, refl), ended.1.0, ended.1.2)) left.input left.at left.outer left.due left.failed c.requires.sound)

pub returns-in-Ok-Some-Pair-clause-steps : goal.returns-in-Ok-Some-Pair-clause-steps
returns-in-Ok-Some-Pair-clause-steps c =
    let next = rw (c.in-Ok-Some-Pair.field-0-is, c.in-Ok-Some-Pair.field-0-0-is) at c.in-Ok-Some-Pair.ensures in
    let o = reading_settings_of c.args.self.now in
    let old = cursor_of c.args.self.now in
    let new = walk_cursor c.go_on.new.self in
    let site = site_of c.args.schema.now in
    let value = c.in-Ok-Some-Pair.value in
    let place = value_place (not o.dispatch_null_members) (kind_at site) old.input c.end_depth.result c.args.at (mark_with old.inner.mark.due) _ value (mark_with c.in-Ok-Some-Pair.due) next in
    let gone = c.go_on.ensures.gone ∙ ap (λ f. gone_on_to old value f) c.frame.ensures in
    let leads : StepsTo c.step_to-step.result site c.as_str.result.now = c.step_to-step.ensures in
    stepped _ _ _ site old new c.args.at c.step_to-step.result
    (goes_ahead _ old new c.step_to-step.result value c.requires.sound (ap (λ x. x.at) c.go_on.ensures.gone) (ap (λ x. x.input) c.go_on.ensures.gone) (omega (arith, c.requires.ahead, place.0)) place.1)
    (steps_to o old new c.args.at site c.requires.place value c.as_str.result.now c.in-Ok-Some-Pair.due c.step_to-step.result c.end_depth.result c.end_depth.ensures c.requires.inside c.requires.sound gone (rw c.as_str.ensures.value next) leads)

pub returns-then-may_leave_at-clause-steps : goal.returns-then-may_leave_at-clause-steps
returns-then-may_leave_at-clause-steps c =
    let next = rw (c.in-Ok-Some-End.field-0-is, c.in-Ok-Some-End.field-0-0-is) at c.in-Ok-Some-End.ensures in
    let o = reading_settings_of c.args.self.now in
    let old = cursor_of c.args.self.now in
    let new = walk_cursor c.leave-then-may_leave_at.new.self in
    let site = site_of c.args.schema.now in
    let end = c.in-Ok-Some-End.end in
    let left = c.leave-then-may_leave_at.ensures in
    let place = end_place (not o.dispatch_null_members) (kind_at site) old.input c.end_depth.result c.args.at (mark_with old.inner.mark.due) end c.requires.within next in
    stepped _ _ _ site old new c.args.at _
    (goes_ahead _ old new _ end c.requires.sound left.at left.input (omega (arith, c.requires.ahead, place.0)) place.1)
    (leaves_at o old new c.args.at site c.requires.place end
    (map_closes o old new c.args.at site c.requires.place end c.end_depth.result c.end_depth.ensures next (c.may_leave_at.ensures.0 c.if-may_leave_at.true))
    left.input left.at left.outer left.due left.failed c.requires.sound)

pub returns-else-may_leave_at-clause-steps : goal.returns-else-may_leave_at-clause-steps
returns-else-may_leave_at-clause-steps c =
    let next = rw (c.in-Ok-Some-End.field-0-is, c.in-Ok-Some-End.field-0-0-is) at c.in-Ok-Some-End.ensures in
    let within : c.args.self.now.walk.position ≤ length c.args.self.now.walk.input.now = search rules in
    let o = reading_settings_of c.args.self.now in
    let old = cursor_of c.args.self.now in
    let new = walk_cursor c.refuse.new.self in
    let site = site_of c.args.schema.now in
    let end = c.in-Ok-Some-End.end in
    let inside = stays_inside c.may_leave_at.result _ c.may_leave_at.ensures c.if-may_leave_at.false in
    let full = not_missing c.ends_empty.result _ _ c.ends_empty.ensures c.if-ends_empty.false in
    stuck _ _ _ site old new c.args.at _ c.refuse.ensures.error c.refuse.ensures.stays within c.requires.sound
    (members_shut o old new c.args.at site c.requires.place end c.end_depth.result c.end_depth.ensures next inside full)
    (members_shut (without_limits o) old new c.args.at site c.requires.place end c.end_depth.result c.end_depth.ensures next inside full)

pub returns-in-Ok-None-clause-steps : goal.returns-in-Ok-None-clause-steps
returns-in-Ok-None-clause-steps c =
    let nothing = rw c.in-Ok-None.field-0-is at c.in-Ok-None.ensures in
    let within : c.args.self.now.walk.position ≤ length c.args.self.now.walk.input.now = search rules in
    let o = reading_settings_of c.args.self.now in
    let old = cursor_of c.args.self.now in
    let new = walk_cursor c.refuse-in-Ok-None.new.self in
    let site = site_of c.args.schema.now in
    let full = not_missing c.ends_empty.result _ _ c.ends_empty.ensures c.if-ends_empty.false in
    stuck _ _ _ site old new c.args.at _ c.refuse-in-Ok-None.ensures.error c.refuse-in-Ok-None.ensures.stays within c.requires.sound
    (cannot_step o old new c.args.at site c.requires.place c.end_depth.result c.end_depth.ensures nothing full)
    (cannot_step (without_limits o) old new c.args.at site c.requires.place c.end_depth.result c.end_depth.ensures nothing full)

pub leave-requires-clause-within : goal.leave-requires-clause-within
leave-requires-clause-within c = grind (arith, common_steps)

pub leave-requires-clause-inside : goal.leave-requires-clause-inside
leave-requires-clause-inside c = grind (arith, common_steps)

pub next_present-requires : goal.next_present-requires
next_present-requires c = grind (arith, common_steps)

pub go_on-requires : goal.go_on-requires
go_on-requires c = grind (arith, common_steps)

pub leave-requires-then-may_leave_at-clause-inside : goal.leave-requires-then-may_leave_at-clause-inside
leave-requires-then-may_leave_at-clause-inside c = grind (arith, common_steps)
