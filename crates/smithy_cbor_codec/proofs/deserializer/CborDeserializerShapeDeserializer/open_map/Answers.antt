use Rattle.std.proofs.Common.{◌≡◌, ◌≤◌, length, refl, sym, ◌∙◌, rules, arith}
use Rattle.std.proofs.lemmas.Grind.{common_steps}
use Rattle.smithy_schema.specs.Reading.{depth, in_map}
use Rattle.smithy_schema.specs.declared.error.SerdeError.TheVariants.{InvalidInput}
use Rattle.smithy_cbor_codec.specs.Cursor.{cursor_of, reading_settings_of, inside_of}
use Rattle.smithy_cbor_values.specs.Settings.{without_limits}
use Rattle.smithy_cbor_values.specs.Laws.{lawful}
use Rattle.smithy_wire.proofs.ScalarReads.{was_ready}
use Rattle.smithy_wire.proofs.ContainerAnswers.{opens_none, opens_one}
use Rattle.smithy_cbor_codec.proofs.ReaderLemmas.{opens_map, opens_no_map}
use Rattle.smithy_cbor_codec.proofs.deserializer.CborDeserializerShapeDeserializer.open_map.Goals as goal

pub returns-in-Some-clause-opens : goal.returns-in-Some-clause-opens
returns-in-Some-clause-opens c =
    let same : c.ready.new.self ≡ c.args.self.now.walk = c.in_ok-ready.ensures.ok in
    let was = was_ready c.args.self.now.walk.failed c.args.self.now.walk.due (sym c.in_ok-ready.was ∙ c.ready.ensures.answer) in
    let within : c.args.self.now.walk.position ≤ length c.args.self.now.walk.input.now = search rules in
    let o = reading_settings_of c.args.self.now in
    let old = cursor_of c.args.self.now in
    let ends : c.in-Some.opening.inside ≤ length c.args.self.now.walk.input.now = grind (arith, common_steps) in
    opens_one _ _ _ _ _ _ old was.0 was.1 within c.in-Some.opening.inside (inside_of in_map c.in-Some.opening.due) (λ h. h, λ h. h)
    (opens_map o old.input c.args._schema.now.shapes.now c.args._schema.now.place c.requires.place (depth old) old.at c.in-Some.opening.inside c.in-Some.opening.due (rw same at c.in-Some.ensures.found))
    _ _ _ _ (lawful o) ends refl c.args.self.now.limit c.frame.ensures (rw same at c.enter.ensures.enters)

pub returns-in-None-clause-opens : goal.returns-in-None-clause-opens
returns-in-None-clause-opens c =
    let same : c.ready.new.self ≡ c.args.self.now.walk = c.in_ok-ready.ensures.ok in
    let was = was_ready c.args.self.now.walk.failed c.args.self.now.walk.due (sym c.in_ok-ready.was ∙ c.ready.ensures.answer) in
    let within : c.args.self.now.walk.position ≤ length c.args.self.now.walk.input.now = search rules in
    let o = reading_settings_of c.args.self.now in
    let old = cursor_of c.args.self.now in
    let none = rw same at c.in-None.ensures.none in
    rw c.refuse.ensures.error
    (opens_none _ _ _ _ _ _ old was.0 was.1 within _ InvalidInput (rw same at c.refuse.ensures.stays) tt refl
    (opens_no_map o old.input c.args._schema.now.shapes.now c.args._schema.now.place c.requires.place (depth old) old.at none)
    (opens_no_map (without_limits o) old.input c.args._schema.now.shapes.now c.args._schema.now.place c.requires.place (depth old) old.at none))

pub enter-requires : goal.enter-requires
enter-requires c = grind (arith, common_steps)

pub map_at-requires : goal.map_at-requires
map_at-requires c = grind (arith, common_steps)
