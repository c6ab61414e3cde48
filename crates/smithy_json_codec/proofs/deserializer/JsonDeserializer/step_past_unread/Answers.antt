use Rattle.std.proofs.Common.{◌≤◌, length, arith, refl, sym, ap, subst, ◌∙◌, Err, rules}
use Rattle.std.proofs.lemmas.Grind.{common_steps}
use Rattle.smithy_schema.specs.declared.error.SerdeError.TheVariants.{TooDeep}
use Rattle.smithy_schema.specs.declared.step.Step.{Step}
use Rattle.smithy_schema.specs.Reading.{depth}
use Rattle.smithy_json_codec.specs.Cursor.{cursor_of, reading_settings_of}
use Rattle.smithy_json_values.specs.Settings.{without_limits}
use Rattle.smithy_json_values.specs.Standing.{json_grammar}
use Rattle.smithy_json_codec.proofs.DeserializerLemmas.{error_of, skip_reads, skip_narrow, skip_invalid, skip_deep, skips_not, skips_never, skips_same, skips_here}
use Rattle.smithy_json_codec.proofs.MemberStepLemmas.{reaches_behind, too_deep_behind}
use Rattle.smithy_json_values.specs.Deepest.{OpensTooDeep}
use Rattle.smithy_json_values.proofs.SkipStepOpeners.{reader_reaches}
use Rattle.smithy_json_values.specs.Private.Skipping.{skip_refusal}
use Rattle.smithy_wire.proofs.ContainerAnswers.{steps_behind, steps_past}
use Rattle.smithy_wire.proofs.ScalarReads.{conducts}
use Rattle.smithy_wire.specs.Walking.{cursor_of as walk_cursor}
use Rattle.smithy_json_codec.proofs.deserializer.JsonDeserializer.step_past_unread.Goals as goal

pub returns-in-Ok-clause-goes_on : goal.returns-in-Ok-clause-goes_on
returns-in-Ok-clause-goes_on c =
    let o = reading_settings_of c.args.self.now in
    let old = cursor_of c.args.self.now in
    let end = c.in-Ok.end in
    let max = c.args.self.now.settings.max_depth in
    let skipped = rw c.input.ensures at c.in-Ok.ensures.ok in
    let from = c.step_from.ensures.steps in
    steps_behind _ _ _ _ _ old _ _ end c.requires.due (skips_here o old c.depth.result c.depth.ensures refl end skipped) (λ e. skips_same o old c.depth.result _ c.depth.ensures end e skipped)
    (λ e. skips_same (without_limits o) old c.depth.result _ c.depth.ensures end e skipped) from
    (λ deep. reaches_behind (json_grammar o) old.input max c.depth.result old.at end skipped max (depth old) (from.deep deep)) (λ deep. refl)

pub returns-in-Err-clause-goes_on : goal.returns-in-Err-clause-goes_on
returns-in-Err-clause-goes_on c =
    let o = reading_settings_of c.args.self.now in
    let old = cursor_of c.args.self.now in
    let new = walk_cursor c.refuse.new.self in
    let fault = c.in-Err.fault in
    let within : c.args.self.now.walk.position ≤ length c.args.self.now.walk.input.now = search rules in
    let told = c.in-Err.ensures in
    let reads = skip_reads fault in
    rw (c.refuse.ensures.error ∙ c.refusal.ensures)
    (steps_past _ _ _ _ _ old new (Err (skip_refusal fault)) c.requires.due (conducts old new (skip_refusal fault) c.refuse.ensures.stays within c.requires.sound reads.0 reads.1) (skip_narrow _ fault) tt
    (λ refused e skips. absurd (skips_not o old c.depth.result c.depth.ensures refl (rw c.input.ensures at told.refused) e skips))
    (λ always invalid e skips. absurd (skips_never o old c.depth.result c.depth.ensures (rw c.input.ensures at (told.none_without_limits (ap Err (skip_invalid Step fault invalid)))) e skips))
    (λ deep. reader_reaches o old c.depth.result c.args.self.now.settings.max_depth c.depth.ensures (rw c.input.ensures at (told.deep (ap Err (skip_deep fault (error_of (skip_refusal fault) TooDeep deep))))))
    (λ deep. refl))

pub returns-in-Err-clause-too_deep : goal.returns-in-Err-clause-too_deep
returns-in-Err-clause-too_deep c = λ deep. (
  c.args.self.now.walk.position,
  omega arith,
  subst (λ n. OpensTooDeep (json_grammar (reading_settings_of c.args.self.now)) c.args.self.now.settings.max_depth n c.args.self.now.walk.input.now c.args.self.now.walk.position) c.depth.ensures
      (rw c.input.ensures at (c.in-Err.ensures.too_deep (ap Err (skip_deep c.in-Err.fault (sym (c.refuse.ensures.error ∙ c.refusal.ensures) ∙ error_of c.refuse.result TooDeep deep))))),
)

pub returns-in-Ok-clause-too_deep : goal.returns-in-Ok-clause-too_deep
returns-in-Ok-clause-too_deep c = λ deep.
    too_deep_behind (json_grammar (reading_settings_of c.args.self.now)) c.args.self.now.walk.input.now c.args.self.now.settings.max_depth c.depth.result c.args.self.now.walk.position c.in-Ok.end (rw c.input.ensures at c.in-Ok.ensures.ok)
    (OpensTooDeep (json_grammar (reading_settings_of c.args.self.now)) c.args.self.now.settings.max_depth (depth (cursor_of c.args.self.now)) c.args.self.now.walk.input.now) (c.step_from.ensures.too_deep deep)

pub skipped_end-requires-clause-shallow : goal.skipped_end-requires-clause-shallow
skipped_end-requires-clause-shallow c = grind (arith, common_steps)

pub skipped_end-requires-clause-within : goal.skipped_end-requires-clause-within
skipped_end-requires-clause-within c = grind (arith, common_steps)

pub step_from-requires-clause-ahead : goal.step_from-requires-clause-ahead
step_from-requires-clause-ahead c = grind (arith, common_steps)

pub step_from-requires-clause-within : goal.step_from-requires-clause-within
step_from-requires-clause-within c = grind (arith, common_steps)

pub step_from-requires-clause-sound : goal.step_from-requires-clause-sound
step_from-requires-clause-sound c = grind (arith, common_steps)

pub step_from-requires-clause-inside : goal.step_from-requires-clause-inside
step_from-requires-clause-inside c = grind (arith, common_steps)

pub step_from-requires-clause-place : goal.step_from-requires-clause-place
step_from-requires-clause-place c = grind (arith, common_steps)
