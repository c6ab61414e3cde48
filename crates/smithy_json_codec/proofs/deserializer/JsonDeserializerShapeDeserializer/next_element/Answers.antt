use Rattle.std.proofs.Common.{◌≡◌, ◌≤◌, length, true, false, sym, ◌∙◌, ap, rules, arith}
use Rattle.std.proofs.lemmas.Grind.{common_steps}
use Rattle.smithy_json_codec.specs.Cursor.{cursor_of, reading_settings_of}
use Rattle.smithy_json_values.specs.Settings.{without_limits}
use Rattle.smithy_json_values.specs.Private.BytePlaces.{separated_ahead}
use Rattle.smithy_json_codec.proofs.ContainerEnds.{list_left}
use Rattle.smithy_json_codec.proofs.DeserializerLemmas.{element_steps, list_stuck}
use Rattle.smithy_wire.proofs.ListAnswers.{list_goes_on, list_refuses}
use Rattle.smithy_wire.specs.Walking.{cursor_of as walk_cursor, gone_on_to}
use Rattle.smithy_json_codec.proofs.deserializer.JsonDeserializerShapeDeserializer.next_element.Goals as goal

-- an element was left unread
pub returns-then-self-2-clause-goes_on : goal.returns-then-self-2-clause-goes_on
returns-then-self-2-clause-goes_on c =
    let within : c.args.self.now.walk.position ≤ length c.args.self.now.walk.input.now = search rules in
    list_refuses _ _ _ (cursor_of c.args.self.now) c.if-self.false _ _ c.refuse-then-self-2.ensures.error c.refuse-then-self-2.ensures.stays within
    (λ undue t p list. absurd (let both : true ≡ false = sym c.if-self-2.true ∙ undue in cc))

pub returns-in-Some-Element-clause-goes_on : goal.returns-in-Some-Element-clause-goes_on
returns-in-Some-Element-clause-goes_on c =
    let o = reading_settings_of c.args.self.now in
    let old = cursor_of c.args.self.now in
    let at = c.in-Some-Element.at in
    let begins = rw c.in-Some-Element.field-0-is at c.in-Some-Element.ensures in
    let ahead = separated_ahead old.input old.inner.mark.entered old.at at begins.0 in
    let within : at ≤ length c.args.self.now.walk.input.now = grind (arith, common_steps) in
    let gone = c.go_on.ensures.gone ∙ ap (gone_on_to old at) c.frame.ensures in
    list_goes_on _ _ _ old c.if-self.false _ at true c.if-self-2.false (ap (λ n. n.at) c.go_on.ensures.gone) (ap (λ n. n.input) c.go_on.ensures.gone) ahead within
    (λ t p list. element_steps o old (walk_cursor c.go_on.new.self) t p at list c.requires.within c.if-self.false gone begins)

pub returns-in-Some-End-clause-goes_on : goal.returns-in-Some-End-clause-goes_on
returns-in-Some-End-clause-goes_on c =
    let o = reading_settings_of c.args.self.now in
    let old = cursor_of c.args.self.now in
    let closes = rw c.in-Some-End.field-0-is at c.in-Some-End.ensures in
    let left = c.leave.ensures in
    list_goes_on _ _ _ old c.if-self.false _ c.in-Some-End.end false c.if-self-2.false left.at left.input closes.0.0 closes.0.1
    (λ t p list. list_left o old (walk_cursor c.leave.new.self) t p list c.if-self.false c.depth.result c.depth.ensures c.in-Some-End.end closes left.input left.at left.outer left.due left.failed)

pub returns-in-None-clause-goes_on : goal.returns-in-None-clause-goes_on
returns-in-None-clause-goes_on c =
    let o = reading_settings_of c.args.self.now in
    let old = cursor_of c.args.self.now in
    let within : c.args.self.now.walk.position ≤ length c.args.self.now.walk.input.now = search rules in
    list_refuses _ _ _ old c.if-self.false _ _ c.refuse-in-None.ensures.error c.refuse-in-None.ensures.stays within (λ undue t p list. (
      list_stuck o old t p list c.depth.result c.depth.ensures c.in-None.ensures,
      list_stuck (without_limits o) old t p list c.depth.result c.depth.ensures c.in-None.ensures,
    ))

pub leave-requires-clause-within : goal.leave-requires-clause-within
leave-requires-clause-within c = grind (arith, common_steps)

pub leave-requires-clause-inside : goal.leave-requires-clause-inside
leave-requires-clause-inside c = grind (arith, common_steps)

pub next_in_list-requires : goal.next_in_list-requires
next_in_list-requires c = grind (arith, common_steps)

pub go_on-requires : goal.go_on-requires
go_on-requires c = grind (arith, common_steps)
