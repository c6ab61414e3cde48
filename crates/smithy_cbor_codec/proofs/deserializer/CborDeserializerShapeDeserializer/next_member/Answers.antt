use Rattle.std.proofs.Common.{◌≡◌, ◌≤◌, length, true, false, rules, arith}
use Rattle.std.proofs.lemmas.Grind.{common_steps}
use Rattle.smithy_schema.specs.declared.error.SerdeError.TheVariants.{InvalidInput}
use Rattle.smithy_cbor_codec.specs.Cursor.{cursor_of, reading_settings_of}
use Rattle.smithy_cbor_values.specs.Settings.{without_limits}
use Rattle.smithy_wire.proofs.ScalarReads.{conducts}
use Rattle.smithy_wire.proofs.ContainerAnswers.{steps_undue, steps_behind, steps_past}
use Rattle.smithy_cbor_codec.proofs.DeserializerLemmas.{skip_place, skips_not, skips_same, skips_here}
use Rattle.smithy_cbor_codec.proofs.deserializer.CborDeserializerShapeDeserializer.next_member.Goals as goal

pub returns-then-not-self-clause-goes_on : goal.returns-then-not-self-clause-goes_on
returns-then-not-self-clause-goes_on c =
    let undue : c.args.self.now.walk.due ≡ false = search rules in
    steps_undue _ _ _ _ _ (cursor_of c.args.self.now) _ _ undue c.step_from.ensures.steps (λ deep. absurd (c.step_from.ensures.shallow deep))

pub returns-in-Ok-Some-clause-goes_on : goal.returns-in-Ok-Some-clause-goes_on
returns-in-Ok-Some-clause-goes_on c =
    let due : c.args.self.now.walk.due ≡ true = search rules in
    let o = reading_settings_of c.args.self.now in
    let old = cursor_of c.args.self.now in
    let held = c.end_depth.result in
    let end = c.in-Ok-Some.end in
    let skipped = rw c.in-Ok-Some.field-0-is at c.in-Ok-Some.ensures in
    let from = c.step_from-in-Ok-Some.ensures in
    steps_behind _ _ _ _ _ old _ _ end due (skips_here o old held c.end_depth.ensures end skipped) (λ e. skips_same o old held c.end_depth.ensures end e skipped)
    (λ e. skips_same (without_limits o) old held c.end_depth.ensures end e skipped) from.steps (λ deep. absurd (from.shallow deep)) (λ deep. absurd (from.shallow deep))

-- nothing that can be skipped was left unread
pub returns-in-Ok-None-clause-goes_on : goal.returns-in-Ok-None-clause-goes_on
returns-in-Ok-None-clause-goes_on c =
    let due : c.args.self.now.walk.due ≡ true = search rules in
    let sound : c.args.self.now.walk.failed ≡ false = search rules in
    let within : c.args.self.now.walk.position ≤ length c.args.self.now.walk.input.now = search rules in
    let o = reading_settings_of c.args.self.now in
    let old = cursor_of c.args.self.now in
    let none = rw c.in-Ok-None.field-0-is at c.in-Ok-None.ensures in
    rw c.refuse-in-Ok-None.ensures.error
    (steps_past _ _ _ _ _ old _ _ due (conducts old _ InvalidInput c.refuse-in-Ok-None.ensures.stays within sound (λ h. cc) tt) (((λ h. cc), λ h. cc), λ h. cc) tt
    (λ fault e skips. absurd (skips_not o old c.end_depth.result c.end_depth.ensures none e skips))
    (λ strict fault e skips. absurd (skips_not (without_limits o) old c.end_depth.result c.end_depth.ensures none e skips)) (λ deep. cc) (λ deep. cc))

pub step_from-requires-in-Ok-Some-clause-ahead : goal.step_from-requires-in-Ok-Some-clause-ahead
step_from-requires-in-Ok-Some-clause-ahead c = (skip_place c.args.self.now.walk.input.now c.args.self.now.walk.position c.end_depth.result c.in-Ok-Some.end (rw c.in-Ok-Some.field-0-is at c.in-Ok-Some.ensures)).0

pub step_from-requires-clause-ahead : goal.step_from-requires-clause-ahead
step_from-requires-clause-ahead c = grind (arith, common_steps)

pub step_from-requires-clause-within : goal.step_from-requires-clause-within
step_from-requires-clause-within c = grind (arith, common_steps)

pub step_from-requires-clause-sound : goal.step_from-requires-clause-sound
step_from-requires-clause-sound c = grind (arith, common_steps)

pub step_from-requires-clause-inside : goal.step_from-requires-clause-inside
step_from-requires-clause-inside c = grind (arith, common_steps)

pub step_from-requires-clause-place : goal.step_from-requires-clause-place
step_from-requires-clause-place c = grind (arith, common_steps)

pub skipped_end-requires : goal.skipped_end-requires
skipped_end-requires c = grind (arith, common_steps)

pub step_from-requires-in-Ok-Some-clause-within : goal.step_from-requires-in-Ok-Some-clause-within
step_from-requires-in-Ok-Some-clause-within c = grind (arith, common_steps)

pub step_from-requires-in-Ok-Some-clause-sound : goal.step_from-requires-in-Ok-Some-clause-sound
step_from-requires-in-Ok-Some-clause-sound c = grind (arith, common_steps)

pub step_from-requires-in-Ok-Some-clause-inside : goal.step_from-requires-in-Ok-Some-clause-inside
step_from-requires-in-Ok-Some-clause-inside c = grind (arith, common_steps)

pub step_from-requires-in-Ok-Some-clause-place : goal.step_from-requires-in-Ok-Some-clause-place
step_from-requires-in-Ok-Some-clause-place c = grind (arith, common_steps)
