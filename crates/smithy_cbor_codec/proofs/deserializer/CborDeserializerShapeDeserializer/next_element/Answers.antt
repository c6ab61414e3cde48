use Rattle.std.proofs.Common.{◌≡◌, ◌≤◌, length, true, false, sym, ap, ◌∙◌, rules, arith}
use Rattle.std.proofs.lemmas.Grind.{common_steps}
use Rattle.smithy_schema.specs.Reading.{depth}
use Rattle.smithy_cbor_codec.specs.Cursor.{cursor_of, reading_settings_of}
use Rattle.smithy_cbor_values.specs.Settings.{without_limits}
use Rattle.smithy_cbor_values.specs.Standing.{FollowsInside, mark_with}
use Rattle.smithy_cbor_codec.proofs.DeserializerLemmas.{element_steps, list_left, list_stuck, list_shut, stays_inside}
use Rattle.smithy_cbor_codec.proofs.PassedEntryLemmas.{over_place}
use Rattle.smithy_wire.proofs.ListAnswers.{list_goes_on, list_refuses}
use Rattle.smithy_wire.specs.Walking.{cursor_of as walk_cursor, gone_on_to}
use Rattle.smithy_cbor_codec.proofs.deserializer.CborDeserializerShapeDeserializer.next_element.Goals as goal

-- an element was left unread
pub returns-then-self-2-clause-goes_on : goal.returns-then-self-2-clause-goes_on
returns-then-self-2-clause-goes_on c =
    let within : c.args.self.now.walk.position ≤ length c.args.self.now.walk.input.now = search rules in
    list_refuses _ _ _ (cursor_of c.args.self.now) c.if-self.false _ _ c.refuse-then-self-2.ensures.error c.refuse-then-self-2.ensures.stays within
    (λ undue t p list. absurd (let both : true ≡ false = sym c.if-self-2.true ∙ undue in cc))

pub returns-in-Some-Entry-clause-goes_on : goal.returns-in-Some-Entry-clause-goes_on
returns-in-Some-Entry-clause-goes_on c =
    let o = reading_settings_of c.args.self.now in
    let old = cursor_of c.args.self.now in
    let within : c.args.self.now.walk.position ≤ length c.args.self.now.walk.input.now = search rules in
    let next = rw c.in-Some-Entry.field-0-is at c.in-Some-Entry.ensures in
    let gone = c.go_on.ensures.gone ∙ ap (λ f. gone_on_to old old.at f) c.frame.ensures in
    list_goes_on _ _ _ old c.if-self.false _ old.at true c.if-self-2.false (ap (λ n. n.at) c.go_on.ensures.gone) (ap (λ n. n.input) c.go_on.ensures.gone) (omega arith) within
    (λ t p list. element_steps o old t p list (walk_cursor c.go_on.new.self) c.in-Some-Entry.due c.requires.within c.if-self.false gone next)

pub returns-then-may_leave_at-clause-goes_on : goal.returns-then-may_leave_at-clause-goes_on
returns-then-may_leave_at-clause-goes_on c =
    let o = reading_settings_of c.args.self.now in
    let old = cursor_of c.args.self.now in
    let next = rw c.in-Some-End.field-0-is at c.in-Some-End.ensures in
    let within : c.args.self.now.walk.position ≤ length c.args.self.now.walk.input.now = search rules in
    let place = over_place old.input old.at (mark_with old.inner.mark.due) c.in-Some-End.end within next in
    let follows : FollowsInside o.enforce_strictness (depth old) old.input c.in-Some-End.end = c.may_leave_at.ensures.0 c.if-may_leave_at.true in
    let left = c.leave.ensures in
    list_goes_on _ _ _ old c.if-self.false _ c.in-Some-End.end false c.if-self-2.false left.at left.input place.0 place.1
    (λ t p list. list_left o old t p list (walk_cursor c.leave.new.self) c.in-Some-End.end left.input left.at left.outer left.due left.failed c.if-self.false next follows)

pub returns-else-may_leave_at-clause-goes_on : goal.returns-else-may_leave_at-clause-goes_on
returns-else-may_leave_at-clause-goes_on c =
    let o = reading_settings_of c.args.self.now in
    let old = cursor_of c.args.self.now in
    let within : c.args.self.now.walk.position ≤ length c.args.self.now.walk.input.now = search rules in
    let next = rw c.in-Some-End.field-0-is at c.in-Some-End.ensures in
    let shut = stays_inside c.may_leave_at.result _ c.may_leave_at.ensures c.if-may_leave_at.false in
    list_refuses _ _ _ old c.if-self.false _ _ c.refuse-in-Some-End.ensures.error c.refuse-in-Some-End.ensures.stays within
    (λ undue t p list. (list_shut o old t p list c.in-Some-End.end next shut, list_shut (without_limits o) old t p list c.in-Some-End.end next shut))

pub returns-in-None-clause-goes_on : goal.returns-in-None-clause-goes_on
returns-in-None-clause-goes_on c =
    let o = reading_settings_of c.args.self.now in
    let old = cursor_of c.args.self.now in
    let within : c.args.self.now.walk.position ≤ length c.args.self.now.walk.input.now = search rules in
    let none = c.in-None.ensures in
    list_refuses _ _ _ old c.if-self.false _ _ c.refuse-in-None.ensures.error c.refuse-in-None.ensures.stays within
    (λ undue t p list. (list_stuck o old t p list none.0 (λ e over follows. none.1 e over), list_stuck (without_limits o) old t p list none.0 (λ e over follows. none.1 e over)))

pub leave-requires-clause-within : goal.leave-requires-clause-within
leave-requires-clause-within c = grind (arith, common_steps)

pub entry_or_end-requires : goal.entry_or_end-requires
entry_or_end-requires c = grind (arith, common_steps)

pub go_on-requires : goal.go_on-requires
go_on-requires c = grind (arith, common_steps)

pub leave-requires-clause-inside : goal.leave-requires-clause-inside
leave-requires-clause-inside c = grind (arith, common_steps)
