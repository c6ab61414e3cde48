use Rattle.std.proofs.Common.{◌≡◌, ◌≤◌, length, rules, sym, ◌∙◌, arith}
use Rattle.std.proofs.lemmas.Grind.{common_steps}
use Rattle.smithy_schema.specs.declared.error.SerdeError.TheVariants.{InvalidInput}
use Rattle.smithy_cbor_codec.specs.Cursor.{cursor_of, reading_settings_of}
use Rattle.smithy_cbor_values.specs.Settings.{without_limits}
use Rattle.smithy_cbor_values.specs.Laws.{lawful}
use Rattle.smithy_wire.proofs.PassingAnswers.{value_skipped, none_skipped}
use Rattle.smithy_wire.proofs.ScalarReads.{was_ready}
use Rattle.smithy_cbor_codec.proofs.DeserializerLemmas.{skips_not, skips_here}
use Rattle.smithy_cbor_codec.proofs.deserializer.CborDeserializerShapeDeserializer.skip_value.Goals as goal

pub returns-in-Ok-Some-clause-skips : goal.returns-in-Ok-Some-clause-skips
returns-in-Ok-Some-clause-skips c =
    let same : c.ready.new.self ≡ c.args.self.now.walk = c.in_ok-ready.ensures.ok in
    let was = was_ready c.args.self.now.walk.failed c.args.self.now.walk.due (sym c.in_ok-ready.was ∙ c.ready.ensures.answer) in
    let o = reading_settings_of c.args.self.now in
    let old = cursor_of c.args.self.now in
    let skips = skips_here o old c.end_depth.result (rw same at c.end_depth.ensures) c.in-Ok-Some.end (rw (c.in-Ok-Some.field-0-is, same) at c.in-Ok-Some.ensures) in
    value_skipped _ _ _ old was.0 _ was.1 _ c.in-Ok-Some.end (lawful o) (rw same at c.pass.ensures.passed) skips

pub returns-in-Ok-None-clause-skips : goal.returns-in-Ok-None-clause-skips
returns-in-Ok-None-clause-skips c =
    let same : c.ready.new.self ≡ c.args.self.now.walk = c.in_ok-ready.ensures.ok in
    let was = was_ready c.args.self.now.walk.failed c.args.self.now.walk.due (sym c.in_ok-ready.was ∙ c.ready.ensures.answer) in
    let within : c.args.self.now.walk.position ≤ length c.args.self.now.walk.input.now = search rules in
    let o = reading_settings_of c.args.self.now in
    let old = cursor_of c.args.self.now in
    let held = rw same at c.end_depth.ensures in
    let none = rw (c.in-Ok-None.field-0-is, same) at c.in-Ok-None.ensures in
    none_skipped _ _ _ old was.0 _ was.1 _ _ InvalidInput c.refuse.ensures.error (rw same at c.refuse.ensures.stays) within (λ h. cc) tt (((λ h. cc), λ h. cc), λ h. cc)
    (skips_not o old c.end_depth.result held none) (λ invalid. skips_not (without_limits o) old c.end_depth.result held none) (λ deep. cc)

pub skipped_end-requires : goal.skipped_end-requires
skipped_end-requires c = grind (arith, common_steps)

pub pass-requires : goal.pass-requires
pass-requires c = grind (arith, common_steps)
