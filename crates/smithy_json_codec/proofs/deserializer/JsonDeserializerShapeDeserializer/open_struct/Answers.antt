use Rattle.std.proofs.Common.{◌≡◌, ◌≤◌, ℕ, length, true, false, refl, sym, ◌∙◌, subst, rules, arith}
use Rattle.std.proofs.lemmas.Grind.{common_steps}
use Rattle.smithy_schema.specs.Errors.{TellsType}
use Rattle.smithy_schema.specs.Reading.{depth, in_structure}
use Rattle.smithy_declarations.specs.Table.{IsStructure}
use Rattle.smithy_shapes.specs.Site.{site_of, kind_at}
use Rattle.smithy_json_values.specs.Tokens.{IsOverBy}
use Rattle.smithy_json_codec.specs.Cursor.{cursor_of, reading_settings_of, inside_of, missing_frame}
use Rattle.smithy_json_values.specs.Settings.{without_limits}
use Rattle.smithy_json_values.specs.Laws.{lawful}
use Rattle.smithy_json_values.proofs.TypeLemmas.{members_told}
use Rattle.smithy_wire.proofs.ScalarReads.{was_ready}
use Rattle.smithy_wire.proofs.ContainerAnswers.{opens_none, opens_one}
use Rattle.smithy_json_codec.proofs.ReaderLemmas.{opens_members, opens_no_members}
use Rattle.smithy_json_codec.proofs.DeserializerLemmas.{over_opens, not_over}
use Rattle.smithy_json_codec.proofs.deserializer.JsonDeserializerShapeDeserializer.open_struct.Goals as goal
use Rattle.smithy_json_codec.proofs.deserializer.JsonDeserializerShapeDeserializer.open_struct.Goals.{else-is_over-via-then-is_over+else-is_structure, else-is_over-via-else-is_over}

pub returns-then-is_structure-clause-opens : goal.returns-then-is_structure-clause-opens
returns-then-is_structure-clause-opens c =
    let same : c.ready.new.self ≡ c.args.self.now.walk = c.in_ok-ready.ensures.ok in
    let was = was_ready c.args.self.now.walk.failed c.args.self.now.walk.due (sym c.in_ok-ready.was ∙ c.ready.ensures.answer) in
    let within : c.args.self.now.walk.position ≤ length c.args.self.now.walk.input.now = search rules in
    let o = reading_settings_of c.args.self.now in
    let old = cursor_of c.args.self.now in
    let end = length c.args.self.now.walk.input.now in
    opens_one _ _ _ _ _ _ old was.0 was.1 within end missing_frame (λ h. h, λ h. h)
    (over_opens o old c.args.schema.now.shapes.now c.args.schema.now.place end (c.is_structure.ensures.0 c.if-is_structure.true) ((rw same at c.is_over.ensures).0 c.if-is_over.true))
    _ _ _ _ (lawful o) (omega arith) refl c.args.self.now.limit c.missing.ensures (rw same at c.enter.ensures.enters)

pub returns-in-Some-clause-opens : goal.returns-in-Some-clause-opens
returns-in-Some-clause-opens c =
    let same : c.ready.new.self ≡ c.args.self.now.walk = c.in_ok-ready.ensures.ok in
    let was = was_ready c.args.self.now.walk.failed c.args.self.now.walk.due (sym c.in_ok-ready.was ∙ c.ready.ensures.answer) in
    let within : c.args.self.now.walk.position ≤ length c.args.self.now.walk.input.now = search rules in
    let o = reading_settings_of c.args.self.now in
    let old = cursor_of c.args.self.now in
    let ends : c.in-Some.inside ≤ length c.args.self.now.walk.input.now = grind (arith, common_steps) in
    opens_one _ _ _ _ _ _ old was.0 was.1 within c.in-Some.inside (inside_of in_structure false) (λ h. h, λ h. h)
    (opens_members o old.input c.args.schema.now.shapes.now c.args.schema.now.place c.requires.place (depth old) old.at c.in-Some.inside (rw same at c.in-Some.ensures.found))
    _ _ _ _ (lawful o) ends refl c.args.self.now.limit c.frame.ensures (rw same at c.enter-in-Some.ensures.enters)

pub returns-in-None-clause-opens : goal.returns-in-None-clause-opens
returns-in-None-clause-opens c =
    let same : c.ready.new.self ≡ c.args.self.now.walk = c.in_ok-ready.ensures.ok in
    let was = was_ready c.args.self.now.walk.failed c.args.self.now.walk.due (sym c.in_ok-ready.was ∙ c.ready.ensures.answer) in
    let within : c.args.self.now.walk.position ≤ length c.args.self.now.walk.input.now = search rules in
    let o = reading_settings_of c.args.self.now in
    let old = cursor_of c.args.self.now in
    let none = rw same at c.in-None.ensures.none in
    let tells = subst (λ b. TellsType b c.no_object-error.result)
    (members_told o _ _ _ c.requires.place c.is_structure-in-None.result c.is_structure-in-None.ensures (rw same at c.in-None.ensures.other)) (rw same at c.no_object-error.ensures.told) in
    let is_no_end : IsStructure (kind_at (site_of c.args.schema.now)) → (e : ℕ) → IsOverBy o.enforce_strictness old.input old.at e → ⊥ = λ structure e over. elim c.else-is_over.branch [
      | else-is_over-via-then-is_over+else-is_structure w ↦ let clash : true ≡ false = sym (w.is_structure.ensures.1 structure) ∙ w.if-is_structure.false in cc
      | else-is_over-via-else-is_over w ↦ not_over _ c.args.self.now.walk.input.now c.args.self.now.walk.position e c.is_over.result (rw same at c.is_over.ensures) w.if-is_over.false over
    ] in
    rw c.refuse.ensures.error
    (opens_none _ _ _ _ _ _ old was.0 was.1 within _ c.no_object-error.result (rw same at c.refuse.ensures.stays) c.no_object-error.ensures.fault tells
    (opens_no_members o old.input c.args.schema.now.shapes.now c.args.schema.now.place c.requires.place (depth old) old.at none is_no_end)
    (opens_no_members (without_limits o) old.input c.args.schema.now.shapes.now c.args.schema.now.place c.requires.place (depth old) old.at none is_no_end))

pub enter-requires : goal.enter-requires
enter-requires c = grind (arith, common_steps)

pub byte_end-requires-clause-within : goal.byte_end-requires-clause-within
byte_end-requires-clause-within c = grind (arith, common_steps)

pub byte_end-requires-clause-plain : goal.byte_end-requires-clause-plain
byte_end-requires-clause-plain c = grind (arith, common_steps)

pub enter-requires-in-Some : goal.enter-requires-in-Some
enter-requires-in-Some c = grind (arith, common_steps)
