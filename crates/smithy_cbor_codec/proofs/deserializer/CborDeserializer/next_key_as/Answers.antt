use Rattle.std.proofs.Common.{◌≡◌, ◌≤◌, length, ap, ◌∙◌, arith, rules}
use Rattle.std.proofs.lemmas.Grind.{common_steps}
use Rattle.std.specs.Cow.{cow_str_bytes}
use Rattle.smithy_cbor_codec.specs.Cursor.{cursor_of, reading_settings_of}
use Rattle.smithy_cbor_values.specs.Settings.{without_limits}
use Rattle.smithy_cbor_values.specs.Standing.{mark_with}
use Rattle.smithy_cbor_codec.proofs.DeserializerLemmas.{goes_ahead, entry_steps, map_left, map_stuck, map_shut, stays_inside}
use Rattle.smithy_cbor_codec.proofs.EntryLemmas.{key_ahead, key_text}
use Rattle.smithy_cbor_codec.proofs.PassedEntryLemmas.{over_place}
use Rattle.smithy_cbor_codec.proofs.MapAnswers.{map_goes_on, map_refuses}
use Rattle.smithy_cbor_codec.proofs.SpanLemmas.{borrowed_text}
use Rattle.smithy_wire.specs.Walking.{cursor_of as walk_cursor, gone_on_to}
use Rattle.smithy_cbor_codec.proofs.deserializer.CborDeserializer.next_key_as.Goals as goal

pub returns-in-Ok-clause-goes_on : goal.returns-in-Ok-clause-goes_on
returns-in-Ok-clause-goes_on g c =
    let found = rw (c.in-Ok-Some-Pair.field-0-is, c.in-Ok-Some-Pair.field-0-0-is) at c.in-Ok-Some-Pair.ensures in
    let key = found.found in
    let old = cursor_of c.args.self.now in
    let new = walk_cursor c.go_on.new.self in
    let due = mark_with old.inner.mark.due in
    let text = cow_str_bytes c.in-Ok-Some-Pair.text in
    let value = c.in-Ok-Some-Pair.value in
    let ahead = key_ahead old.input old.at due text value (mark_with c.in-Ok-Some-Pair.due) key in
    let gone = c.go_on.ensures.gone ∙ ap (λ f. gone_on_to old value f) c.frame.ensures in
    let means = c.in-Ok.ensures old.input old.at found.borrowed (key_text old.input old.at due text value (mark_with c.in-Ok-Some-Pair.due) key) in
    map_goes_on _ _ _ (g.K.TextPiece.bytes_of old.input) old c.if-self-2.false new _
    (goes_ahead _ old new _ value c.if-self.false (ap (λ x. x.at) c.go_on.ensures.gone) (ap (λ x. x.input) c.go_on.ensures.gone) (omega (arith, ahead)) key.1.1.0)
    (λ t p map. entry_steps (reading_settings_of c.args.self.now) old t p map new (g.K.TextPiece.bytes_of old.input c.in-Ok.key) value c.in-Ok-Some-Pair.due c.requires.within c.if-self.false gone (rw means.0 key))

pub returns-in-Ok-clause-placed : goal.returns-in-Ok-clause-placed
returns-in-Ok-clause-placed g c =
    let found = rw (c.in-Ok-Some-Pair.field-0-is, c.in-Ok-Some-Pair.field-0-0-is) at c.in-Ok-Some-Pair.ensures in
    let old = cursor_of c.args.self.now in
    (c.in-Ok.ensures old.input old.at found.borrowed (key_text old.input old.at (mark_with old.inner.mark.due) _ c.in-Ok-Some-Pair.value (mark_with c.in-Ok-Some-Pair.due) found.found)).1

pub returns-in-Ok-clause-between : goal.returns-in-Ok-clause-between
returns-in-Ok-clause-between g c =
    let found = rw (c.in-Ok-Some-Pair.field-0-is, c.in-Ok-Some-Pair.field-0-0-is) at c.in-Ok-Some-Pair.ensures in
    let old = cursor_of c.args.self.now in
    let at : (walk_cursor c.go_on.new.self).at ≡ c.in-Ok-Some-Pair.value = ap (λ x. x.at) c.go_on.ensures.gone in
    rw at (c.in-Ok.ensures old.input old.at found.borrowed (key_text old.input old.at (mark_with old.inner.mark.due) _ c.in-Ok-Some-Pair.value (mark_with c.in-Ok-Some-Pair.due) found.found)).2

pub returns-then-may_leave_at-clause-goes_on : goal.returns-then-may_leave_at-clause-goes_on
returns-then-may_leave_at-clause-goes_on g c =
    let over = rw (c.in-Ok-Some-End.field-0-is, c.in-Ok-Some-End.field-0-0-is) at c.in-Ok-Some-End.ensures.found in
    let old = cursor_of c.args.self.now in
    let new = walk_cursor c.leave.new.self in
    let end = c.in-Ok-Some-End.end in
    let within : c.args.self.now.walk.position ≤ length c.args.self.now.walk.input.now = search rules in
    let place = over_place old.input old.at (mark_with old.inner.mark.due) end within over in
    map_goes_on _ _ _ (g.K.TextPiece.bytes_of old.input) old c.if-self-2.false new _ (goes_ahead _ old new _ end c.if-self.false c.leave.ensures.at c.leave.ensures.input place.0 place.1)
    (λ t p map. map_left (reading_settings_of c.args.self.now) old t p map new end
    c.leave.ensures.input c.leave.ensures.at c.leave.ensures.outer c.leave.ensures.due c.leave.ensures.failed c.if-self.false over (c.may_leave_at.ensures.0 c.if-may_leave_at.true))

pub returns-else-may_leave_at-clause-goes_on : goal.returns-else-may_leave_at-clause-goes_on
returns-else-may_leave_at-clause-goes_on g c =
    let over = rw (c.in-Ok-Some-End.field-0-is, c.in-Ok-Some-End.field-0-0-is) at c.in-Ok-Some-End.ensures.found in
    let old = cursor_of c.args.self.now in
    let o = reading_settings_of c.args.self.now in
    let within : c.args.self.now.walk.position ≤ length c.args.self.now.walk.input.now = search rules in
    let shut = stays_inside c.may_leave_at.result _ c.may_leave_at.ensures c.if-may_leave_at.false in
    map_refuses _ _ _ (g.K.TextPiece.bytes_of old.input) old c.if-self-2.false _ _ c.refuse-in-Ok-Some-End.ensures.error c.refuse-in-Ok-Some-End.ensures.stays within c.if-self.false
    (λ t p map. map_shut o old t p map c.in-Ok-Some-End.end over shut) (λ t p map. map_shut (without_limits o) old t p map c.in-Ok-Some-End.end over shut)

pub returns-in-Ok-None-clause-goes_on : goal.returns-in-Ok-None-clause-goes_on
returns-in-Ok-None-clause-goes_on g c =
    let missing = rw c.in-Ok-None.field-0-is at c.in-Ok-None.ensures.found in
    let old = cursor_of c.args.self.now in
    let o = reading_settings_of c.args.self.now in
    let within : c.args.self.now.walk.position ≤ length c.args.self.now.walk.input.now = search rules in
    map_refuses _ _ _ (g.K.TextPiece.bytes_of old.input) old c.if-self-2.false _ _ c.refuse-in-Ok-None.ensures.error c.refuse-in-Ok-None.ensures.stays within c.if-self.false
    (λ t p map. map_stuck o old t p map missing) (λ t p map. map_stuck (without_limits o) old t p map missing)

pub of_text-requires : goal.of_text-requires
of_text-requires g c = λ is.
    let found = rw (c.in-Ok-Some-Pair.field-0-is, c.in-Ok-Some-Pair.field-0-0-is) at c.in-Ok-Some-Pair.ensures in
    let old = cursor_of c.args.self.now in
    let ends = borrowed_text old.input _ old.at c.in-Ok-Some-Pair.value _ found.borrowed
    (key_text old.input old.at (mark_with old.inner.mark.due) (cow_str_bytes c.in-Ok-Some-Pair.text) c.in-Ok-Some-Pair.value (mark_with c.in-Ok-Some-Pair.due) found.found) is in
    omega (arith, ends.inside)

pub leave-requires-clause-within : goal.leave-requires-clause-within
leave-requires-clause-within g c = grind (arith, common_steps)

pub next_in_map-requires : goal.next_in_map-requires
next_in_map-requires g c = grind (arith, common_steps)

pub go_on-requires : goal.go_on-requires
go_on-requires g c = grind (arith, common_steps)

pub leave-requires-clause-inside : goal.leave-requires-clause-inside
leave-requires-clause-inside g c = grind (arith, common_steps)
