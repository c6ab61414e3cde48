use Rattle.std.proofs.Common.{◌≡◌, ◌≤◌, length, true, false, rules, arith}
use Rattle.std.proofs.lemmas.Grind.{common_steps}
use Rattle.smithy_schema.specs.Reading.{null_is_due}
use Rattle.smithy_json_codec.specs.Cursor.{cursor_of, reading_settings_of}
use Rattle.smithy_json_values.specs.Standing.{json_relations}
use Rattle.smithy_json_values.specs.Laws.{lawful}
use Rattle.smithy_wire.proofs.PassingAnswers.{null_read, null_refused, no_null_due}
use Rattle.smithy_json_codec.proofs.deserializer.JsonDeserializerShapeDeserializer.read_null.Goals as goal

pub returns-then-not-is_null-clause-reads : goal.returns-then-not-is_null-clause-reads
returns-then-not-is_null-clause-reads c =
    let old = cursor_of c.args.self.now in
    let within : c.args.self.now.walk.position ≤ length c.args.self.now.walk.input.now = search rules in
    let undue : null_is_due (json_relations (reading_settings_of c.args.self.now)) old ≡ false = search rules in
    no_null_due _ _ _ old c.if-self.false undue within

pub returns-in-Some-clause-reads : goal.returns-in-Some-clause-reads
returns-in-Some-clause-reads c =
    let o = reading_settings_of c.args.self.now in
    let old = cursor_of c.args.self.now in
    let due : null_is_due (json_relations o) old ≡ true = search rules in
    null_read _ _ _ old c.if-self.false _ c.in-Some.end (lawful o) due c.pass.ensures.passed c.in-Some.ensures.found

pub returns-in-None-clause-reads : goal.returns-in-None-clause-reads
returns-in-None-clause-reads c =
    let old = cursor_of c.args.self.now in
    let within : c.args.self.now.walk.position ≤ length c.args.self.now.walk.input.now = search rules in
    null_refused _ _ _ old c.if-self.false _ _ c.refuse-in-None.ensures.error c.refuse-in-None.ensures.stays within (λ due. (c.in-None.ensures.none, c.in-None.ensures.none))

pub null_end-requires : goal.null_end-requires
null_end-requires c = grind (arith, common_steps)

pub pass-requires : goal.pass-requires
pass-requires c = grind (arith, common_steps)
