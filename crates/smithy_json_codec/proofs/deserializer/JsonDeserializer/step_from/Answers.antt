use Rattle.std.proofs.Common.{◌≡◌, ◌≤◌, length, Err, false, true, arith, sym, ap, ◌∙◌, refl, rules, inr}
use Rattle.std.proofs.lemmas.Grind.{common_steps}
use Rattle.smithy_schema.specs.declared.error.SerdeError.TheVariants.{TooDeep}
use Rattle.smithy_schema.specs.declared.step.Step.{Step}
use Rattle.smithy_schema.specs.Reading.{depth}
use Rattle.smithy_declarations.specs.Table.{IsStructure}
use Rattle.smithy_shapes.specs.Site.{site_of, kind_at}
use Rattle.smithy_json_codec.specs.Cursor.{cursor_of, reading_settings_of}
use Rattle.smithy_json_values.specs.Settings.{without_limits}
use Rattle.smithy_json_values.specs.Standing.{json_grammar}
use Rattle.smithy_json_codec.specs.Private.MemberSteps.{EndsEmpty, StepsTo, passing}
use Rattle.smithy_json_codec.specs.Private.PassedEntries.{NoSkip, NoSkipWithin, entry_refusal}
use Rattle.smithy_json_codec.proofs.DeserializerLemmas.{shallow_kept, error_of, goes_ahead, entry_reads, entry_narrow, entry_refused, entry_invalid, entry_deep}
use Rattle.smithy_json_codec.proofs.PassedEntryLemmas.{value_place, end_place}
use Rattle.smithy_json_codec.proofs.MemberStepLemmas.{mark_is_unnamed, null_is_unkept, skips_within, skips_lifted, unskipped_within, unskipped_lifted, steps_to, leaves_at, bracket_closes, cannot_step}
use Rattle.smithy_wire.proofs.ContainerAnswers.{stepped}
use Rattle.smithy_wire.proofs.ScalarReads.{conducts}
use Rattle.smithy_wire.specs.Walking.{cursor_of as walk_cursor, gone_on_to}
use Rattle.smithy_json_codec.proofs.deserializer.JsonDeserializer.step_from.Goals as goal
use Rattle.smithy_json_codec.proofs.deserializer.JsonDeserializer.step_from.Goals.{else-ends_empty-via-then-ends_empty+else-is_structure, else-ends_empty-via-else-ends_empty}

pub returns-then-is_structure-clause-steps : goal.returns-then-is_structure-clause-steps
returns-then-is_structure-clause-steps c =
    let o = reading_settings_of c.args.self.now in
    let old = cursor_of c.args.self.now in
    let new = walk_cursor c.leave.new.self in
    let site = site_of c.args.schema.now in
    let end = length c.args.self.now.walk.input.now in
    let ended = c.ends_empty.ensures.0 c.if-ends_empty.true in
    let left = c.leave.ensures in
    stepped _ _ _ site old new c.args.at _
    (goes_ahead _ old new _ end c.requires.sound left.at left.input (omega (arith, c.requires.ahead, c.requires.within)) (omega arith))
    (leaves_at o old new c.args.at site end (inr (c.is_structure.ensures.0 c.if-is_structure.true, ended.1, ended.0, ended.2)) left.input left.at left.outer left.due left.failed c.requires.sound)

pub returns-in-Ok-Member-clause-steps : goal.returns-in-Ok-Member-clause-steps
returns-in-Ok-Member-clause-steps c =
    let o = reading_settings_of c.args.self.now in
    let old = cursor_of c.args.self.now in
    let new = walk_cursor c.go_on.new.self in
    let site = site_of c.args.schema.now in
    let held = c.args.self.now.settings.max_depth in
    let value = c.in-Ok-Member.value in
    let comes = rw (c.input.ensures, c.in-Ok-Member.field-0-is) at c.in-Ok-Member.ensures.ok in
    let place = value_place (json_grammar o) (passing o site) held c.depth.result c.args.self.now.walk.input.now c.args.at c.args.self.now.walk.inner.mark.entered comes.0 value comes.2 in
    let next = rw (c.input.ensures, c.depth.ensures) at (rw c.in-Ok-Member.field-0-is at c.in-Ok-Member.ensures.ok) in
    let leads : StepsTo c.step_to-step.result o site c.as_str.result.now = c.step_to-step.ensures in
    stepped _ _ _ site old new c.args.at c.step_to-step.result
    (goes_ahead _ old new c.step_to-step.result value c.requires.sound (ap (λ x. x.at) c.go_on.ensures.gone) (ap (λ x. x.input) c.go_on.ensures.gone) (omega (arith, c.requires.ahead, place.0)) place.1)
    (steps_to o old new c.args.at site c.requires.place (passing o site) (mark_is_unnamed o (kind_at site) c.requires.place) (null_is_unkept o site c.requires.place)
    held (skips_within o old.input (depth old) held refl refl) value next.0 c.as_str.result.now c.step_to-step.result c.requires.inside c.requires.sound
    (c.go_on.ensures.gone ∙ ap (gone_on_to old value) c.frame.ensures) (rw c.as_str.ensures.value next.1) next.2 leads)

pub returns-in-Ok-End-clause-steps : goal.returns-in-Ok-End-clause-steps
returns-in-Ok-End-clause-steps c =
    let o = reading_settings_of c.args.self.now in
    let old = cursor_of c.args.self.now in
    let new = walk_cursor c.leave-in-Ok-End.new.self in
    let site = site_of c.args.schema.now in
    let held = c.args.self.now.settings.max_depth in
    let end = c.in-Ok-End.end in
    let left = c.leave-in-Ok-End.ensures in
    let comes = rw (c.input.ensures, c.in-Ok-End.field-0-is) at c.in-Ok-End.ensures.ok in
    let place = end_place (json_grammar o) (passing o site) held c.depth.result c.args.self.now.walk.input.now c.args.at c.args.self.now.walk.inner.mark.entered end comes.0 in
    let next = rw (c.input.ensures, c.depth.ensures) at (rw c.in-Ok-End.field-0-is at c.in-Ok-End.ensures.ok) in
    stepped _ _ _ site old new c.args.at _
    (goes_ahead _ old new _ end c.requires.sound left.at left.input (omega (arith, c.requires.ahead, place.0)) place.1)
    (leaves_at o old new c.args.at site end
    (bracket_closes o old new c.args.at site c.requires.place (passing o site) (mark_is_unnamed o (kind_at site) c.requires.place) (null_is_unkept o site c.requires.place)
    held (skips_within o old.input (depth old) held refl refl) end next)
    left.input left.at left.outer left.due left.failed c.requires.sound)

pub returns-in-Err-clause-steps : goal.returns-in-Err-clause-steps
returns-in-Err-clause-steps c =
    let o = reading_settings_of c.args.self.now in
    let old = cursor_of c.args.self.now in
    let new = walk_cursor c.refuse.new.self in
    let site = site_of c.args.schema.now in
    let fault = c.in-Err.fault in
    let held = c.args.self.now.settings.max_depth in
    let shallow : c.depth.result ≤ held = grind (arith, common_steps) in
    let within : c.args.self.now.walk.position ≤ length c.args.self.now.walk.input.now = search rules in
    let told = c.in-Err.ensures in
    let reads = entry_reads fault in
    let full : IsStructure (kind_at site) → EndsEmpty o.enforce_strictness c.args.at old → ⊥ = λ structure ended. elim c.else-ends_empty.branch [
      | else-ends_empty-via-then-ends_empty+else-is_structure w ↦ let clash : true ≡ false = sym (w.is_structure.ensures.1 structure) ∙ w.if-is_structure.false in cc
      | else-ends_empty-via-else-ends_empty w ↦ let clash : true ≡ false = sym (c.ends_empty.ensures.1 ended) ∙ w.if-ends_empty.false in cc
    ] in
    rw (c.refuse.ensures.error ∙ c.refusal.ensures) (record {
      conduct = conducts old new (entry_refusal fault) c.refuse.ensures.stays within c.requires.sound reads.0 reads.1;
      narrow = entry_narrow _ fault;
      ok = tt;
      refused = λ refused.
          cannot_step o old new c.args.at site c.requires.place (passing o site) (mark_is_unnamed o (kind_at site) c.requires.place) (null_is_unkept o site c.requires.place)
          held (skips_within o old.input (depth old) held refl refl) (shallow_kept o (depth old) refl (rw c.depth.ensures at shallow))
          (NoSkipWithin (json_grammar o) held (depth old) old.input) (unskipped_within o old.input (depth old) held refl refl) (rw (c.input.ensures, c.depth.ensures) at (told.refused (entry_refused fault refused))) full;
      none_without_limits = λ invalid.
          cannot_step (without_limits o) old new c.args.at site c.requires.place (passing o site) (mark_is_unnamed o (kind_at site) c.requires.place) (null_is_unkept o site c.requires.place)
          held (skips_lifted o old.input (depth old) held) refl
          (NoSkip (json_grammar o) (depth old) old.input) (unskipped_lifted o old.input (depth old)) (rw (c.input.ensures, c.depth.ensures) at (told.none_without_limits (ap Err (entry_invalid Step fault invalid)))) full;
      deep = λ deep. rw (c.input.ensures, c.depth.ensures) at (told.deep (ap Err (entry_deep fault (error_of (entry_refusal fault) TooDeep deep))));
    })

pub returns-in-Err-clause-too_deep : goal.returns-in-Err-clause-too_deep
returns-in-Err-clause-too_deep c = λ deep.
    rw (c.input.ensures, c.depth.ensures) at (c.in-Err.ensures.too_deep (ap Err (entry_deep c.in-Err.fault (sym (c.refuse.ensures.error ∙ c.refusal.ensures) ∙ error_of c.refuse.result TooDeep deep))))

pub next_present-requires-clause-shallow : goal.next_present-requires-clause-shallow
next_present-requires-clause-shallow c = grind (arith, common_steps)

pub leave-requires-clause-within : goal.leave-requires-clause-within
leave-requires-clause-within c = grind (arith, common_steps)

pub leave-requires-clause-inside : goal.leave-requires-clause-inside
leave-requires-clause-inside c = grind (arith, common_steps)

pub next_present-requires-clause-within : goal.next_present-requires-clause-within
next_present-requires-clause-within c = grind (arith, common_steps)

pub go_on-requires : goal.go_on-requires
go_on-requires c = grind (arith, common_steps)

pub leave-requires-in-Ok-End-clause-within : goal.leave-requires-in-Ok-End-clause-within
leave-requires-in-Ok-End-clause-within c = grind (arith, common_steps)

pub leave-requires-in-Ok-End-clause-inside : goal.leave-requires-in-Ok-End-clause-inside
leave-requires-in-Ok-End-clause-inside c = grind (arith, common_steps)
