use Rattle.std.proofs.Common.{◌≡◌, ◌≤◌, length, true, false, sym, ◌∙◌, rules, arith}
use Rattle.std.proofs.lemmas.Grind.{common_steps}
use Rattle.smithy_schema.specs.Reading.{null_is_due}
use Rattle.smithy_cbor_codec.specs.Cursor.{cursor_of, reading_settings_of}
use Rattle.smithy_cbor_values.specs.Standing.{cbor_relations}
use Rattle.smithy_cbor_values.specs.Laws.{lawful}
use Rattle.smithy_wire.proofs.PassingAnswers.{null_read, null_refused}
use Rattle.smithy_cbor_codec.proofs.deserializer.CborDeserializerShapeDeserializer.read_null.Goals as goal

pub returns-then-not-is_null-clause-reads : goal.returns-then-not-is_null-clause-reads
returns-then-not-is_null-clause-reads c =
    let old = cursor_of c.args.self.now in
    let within : c.args.self.now.walk.position ≤ length c.args.self.now.walk.input.now = search rules in
    let undue : null_is_due (cbor_relations (reading_settings_of c.args.self.now)) old ≡ false = search rules in
    null_refused _ _ _ old c.if-self.false _ _ c.refuse-then-not-is_null.ensures.error c.refuse-then-not-is_null.ensures.stays within
    (λ due. absurd (let both : true ≡ false = sym due ∙ undue in cc))

pub returns-in-Some-clause-reads : goal.returns-in-Some-clause-reads
returns-in-Some-clause-reads c =
    let o = reading_settings_of c.args.self.now in
    let old = cursor_of c.args.self.now in
    let due : null_is_due (cbor_relations o) old ≡ true = search rules in
    null_read _ _ _ old c.if-self.false _ c.in-Some.end (lawful o) due c.pass.ensures.passed (rw c.end_depth.ensures at c.in-Some.ensures.found)

pub returns-in-None-clause-reads : goal.returns-in-None-clause-reads
returns-in-None-clause-reads c =
    let old = cursor_of c.args.self.now in
    let within : c.args.self.now.walk.position ≤ length c.args.self.now.walk.input.now = search rules in
    let none = rw c.end_depth.ensures at c.in-None.ensures.none in
    null_refused _ _ _ old c.if-self.false _ _ c.refuse-in-None.ensures.error c.refuse-in-None.ensures.stays within (λ due. (none, none))

pub pass-requires : goal.pass-requires
pass-requires c = grind (arith, common_steps)

pub null_end-requires : goal.null_end-requires
null_end-requires c = grind (arith, common_steps)
