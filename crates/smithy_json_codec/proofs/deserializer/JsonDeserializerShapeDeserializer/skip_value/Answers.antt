use Rattle.std.proofs.Common.{◌≡◌, ◌≤◌, length, refl, rules, sym, ap, subst, ◌∙◌, Err, arith}
use Rattle.std.proofs.lemmas.Grind.{common_steps}
use Rattle.smithy_schema.specs.declared.error.SerdeError.TheVariants.{TooDeep}
use Rattle.smithy_json_codec.specs.Cursor.{cursor_of, reading_settings_of}
use Rattle.smithy_json_codec.proofs.DeserializerLemmas.{error_of, skips_here, skips_not, skips_never, skip_reads, skip_narrow, skip_takes_no_memory, skip_invalid, skip_deep}
use Rattle.smithy_json_values.specs.Deepest.{OpensTooDeep}
use Rattle.smithy_json_values.specs.Standing.{json_grammar}
use Rattle.smithy_json_values.specs.Laws.{lawful}
use Rattle.smithy_json_values.specs.Private.Skipping.{skip_refusal}
use Rattle.smithy_json_values.proofs.SkipStepOpeners.{reader_reaches}
use Rattle.smithy_wire.proofs.PassingAnswers.{value_skipped, none_skipped}
use Rattle.smithy_wire.proofs.ScalarReads.{was_ready}
use Rattle.smithy_json_codec.proofs.deserializer.JsonDeserializerShapeDeserializer.skip_value.Goals as goal

pub returns-in-Ok-clause-skips : goal.returns-in-Ok-clause-skips
returns-in-Ok-clause-skips c =
    let same : c.ready.new.self ≡ c.args.self.now.walk = c.in_ok-ready.ensures.ok in
    let was = was_ready c.args.self.now.walk.failed c.args.self.now.walk.due (sym c.in_ok-ready.was ∙ c.ready.ensures.answer) in
    let o = reading_settings_of c.args.self.now in
    let old = cursor_of c.args.self.now in
    let skips = skips_here o old c.depth.result (rw same at c.depth.ensures) refl c.in-Ok.end (rw (c.input.ensures, same) at c.in-Ok.ensures.ok) in
    value_skipped _ _ _ old was.0 _ was.1 _ c.in-Ok.end (lawful o) (rw same at c.pass.ensures.passed) skips

pub returns-in-Err-clause-skips : goal.returns-in-Err-clause-skips
returns-in-Err-clause-skips c =
    let same : c.ready.new.self ≡ c.args.self.now.walk = c.in_ok-ready.ensures.ok in
    let was = was_ready c.args.self.now.walk.failed c.args.self.now.walk.due (sym c.in_ok-ready.was ∙ c.ready.ensures.answer) in
    let within : c.args.self.now.walk.position ≤ length c.args.self.now.walk.input.now = search rules in
    let o = reading_settings_of c.args.self.now in
    let old = cursor_of c.args.self.now in
    let fault = c.in-Err.fault in
    let held = rw same at c.depth.ensures in
    let told = c.in-Err.ensures in
    let reads = skip_reads fault in
    none_skipped _ _ _ old was.0 _ was.1 _ _ (skip_refusal fault) (c.refuse.ensures.error ∙ c.refusal.ensures) (rw same at c.refuse.ensures.stays) within reads.0 reads.1
    (skip_narrow _ fault) (skips_not o old c.depth.result held refl (rw (c.input.ensures, same) at told.refused))
    (λ invalid. skips_never o old c.depth.result held (rw (c.input.ensures, same) at (told.none_without_limits (ap Err (skip_invalid (Unit {0}) fault invalid)))))
    (λ deep. (
      reader_reaches o old c.depth.result c.args.self.now.settings.max_depth held (rw (c.input.ensures, same) at (told.deep (ap Err (skip_deep fault (error_of (skip_refusal fault) TooDeep deep))))),
      refl,
    ))

pub returns-in-Err-clause-none_without_limits : goal.returns-in-Err-clause-none_without_limits
returns-in-Err-clause-none_without_limits c =
    let same : c.ready.new.self ≡ c.args.self.now.walk = c.in_ok-ready.ensures.ok in
    λ invalid due. skips_never (reading_settings_of c.args.self.now) (cursor_of c.args.self.now) c.depth.result (rw same at c.depth.ensures)
    (rw (c.input.ensures, same) at (c.in-Err.ensures.none_without_limits (ap Err (skip_invalid (Unit {0}) c.in-Err.fault (rw (c.refuse.ensures.error ∙ c.refusal.ensures) at invalid)))))

pub returns-in-Err-clause-memory : goal.returns-in-Err-clause-memory
returns-in-Err-clause-memory c = rw (c.refuse.ensures.error ∙ c.refusal.ensures) (skip_takes_no_memory _ c.in-Err.fault)

pub returns-in-Err-clause-too_deep : goal.returns-in-Err-clause-too_deep
returns-in-Err-clause-too_deep c = λ deep.
    let same : c.ready.new.self ≡ c.args.self.now.walk = c.in_ok-ready.ensures.ok in
    let held = rw same at c.depth.ensures in
    subst (λ n. OpensTooDeep (json_grammar (reading_settings_of c.args.self.now)) c.args.self.now.settings.max_depth n c.args.self.now.walk.input.now c.args.self.now.walk.position) held
    (rw (c.input.ensures, same) at (c.in-Err.ensures.too_deep (ap Err (skip_deep c.in-Err.fault (sym (c.refuse.ensures.error ∙ c.refusal.ensures) ∙ error_of c.refuse.result TooDeep deep)))))

pub skipped_end-requires-clause-shallow : goal.skipped_end-requires-clause-shallow
skipped_end-requires-clause-shallow c = grind (arith, common_steps)

pub skipped_end-requires-clause-within : goal.skipped_end-requires-clause-within
skipped_end-requires-clause-within c = grind (arith, common_steps)

pub pass-requires : goal.pass-requires
pass-requires c = grind (arith, common_steps)
