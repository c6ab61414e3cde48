use Rattle.std.proofs.Common.{◌≡◌, ◌≤◌, length, sym, ◌∙◌, refl, rules, arith}
use Rattle.std.proofs.lemmas.Grind.{common_steps}
use Rattle.smithy_shapes.specs.Site.{site_of}
use Rattle.smithy_cbor_codec.specs.Cursor.{cursor_of, reading_settings_of}
use Rattle.smithy_cbor_codec.proofs.DeserializerLemmas.{skips_here, skips_not}
use Rattle.smithy_cbor_codec.proofs.DocumentReads.{document_uncarried, no_document_lies, document_wants_memory}
use Rattle.smithy_wire.proofs.ScalarReads.{was_ready}
use Rattle.smithy_cbor_codec.proofs.deserializer.CborDeserializerShapeDeserializer.read_document.Goals as goal

pub returns-in-Ok-true-clause-read : goal.returns-in-Ok-true-clause-read
returns-in-Ok-true-clause-read c =
    let same : c.ready.new.self ≡ c.args.self.now.walk = c.in_ok-ready.ensures.ok in
    let was = was_ready c.args.self.now.walk.failed c.args.self.now.walk.due (sym c.in_ok-ready.was ∙ c.ready.ensures.answer) in
    let within : c.args.self.now.walk.position ≤ length c.args.self.now.walk.input.now = search rules in
    rw c.refuse.ensures.error
    (document_uncarried (reading_settings_of c.args.self.now) refl c.args.self.now.settings.max_depth (cursor_of c.args.self.now) _ (site_of c.args._schema.now)
    (rw same at c.refuse.ensures.stays) within was.0 was.1)

pub returns-in-Ok-true-clause-lies : goal.returns-in-Ok-true-clause-lies
returns-in-Ok-true-clause-lies c = λ is.
    let same : c.ready.new.self ≡ c.args.self.now.walk = c.in_ok-ready.ensures.ok in
    let lies = rw (c.in-Ok-true.field-0-test, same) at c.in-Ok-true.ensures in
    (lies.0, skips_here (reading_settings_of c.args.self.now) (cursor_of c.args.self.now) c.end_depth.result (rw same at c.end_depth.ensures) lies.0 lies.1)

pub returns-in-Ok-false-clause-read : goal.returns-in-Ok-false-clause-read
returns-in-Ok-false-clause-read c =
    let same : c.ready.new.self ≡ c.args.self.now.walk = c.in_ok-ready.ensures.ok in
    let was = was_ready c.args.self.now.walk.failed c.args.self.now.walk.due (sym c.in_ok-ready.was ∙ c.ready.ensures.answer) in
    let within : c.args.self.now.walk.position ≤ length c.args.self.now.walk.input.now = search rules in
    rw c.refuse-in-Ok-false.ensures.error
    (no_document_lies (reading_settings_of c.args.self.now) refl c.args.self.now.settings.max_depth (cursor_of c.args.self.now) _ (site_of c.args._schema.now)
    (rw same at c.refuse-in-Ok-false.ensures.stays) within was.0 was.1 c.end_depth.result (rw same at c.end_depth.ensures) (rw (c.in-Ok-false.field-0-test, same) at c.in-Ok-false.ensures))

pub returns-in-Ok-false-clause-nothing : goal.returns-in-Ok-false-clause-nothing
returns-in-Ok-false-clause-nothing c = λ invalid due.
    let same : c.ready.new.self ≡ c.args.self.now.walk = c.in_ok-ready.ensures.ok in
    let none = rw (c.in-Ok-false.field-0-test, same) at c.in-Ok-false.ensures in
    skips_not (reading_settings_of c.args.self.now) (cursor_of c.args.self.now) c.end_depth.result (rw same at c.end_depth.ensures) none

pub returns-in-Err-clause-read : goal.returns-in-Err-clause-read
returns-in-Err-clause-read c =
    let same : c.ready.new.self ≡ c.args.self.now.walk = c.in_ok-ready.ensures.ok in
    let was = was_ready c.args.self.now.walk.failed c.args.self.now.walk.due (sym c.in_ok-ready.was ∙ c.ready.ensures.answer) in
    let within : c.args.self.now.walk.position ≤ length c.args.self.now.walk.input.now = search rules in
    rw c.refuse-in-Err.ensures.error
    (document_wants_memory (reading_settings_of c.args.self.now) refl c.args.self.now.settings.max_depth (cursor_of c.args.self.now) _ (site_of c.args._schema.now)
    (rw same at c.refuse-in-Err.ensures.stays) within was.0 was.1)

pub item_stands-requires : goal.item_stands-requires
item_stands-requires c = grind (arith, common_steps)
