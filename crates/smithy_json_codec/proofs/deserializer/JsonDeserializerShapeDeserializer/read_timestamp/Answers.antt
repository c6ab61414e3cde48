use Rattle.std.proofs.Common.{◌≡◌, ◌≤◌, length, refl, sym, ◌∙◌, rules}
use Rattle.smithy_shapes.specs.Site.{site_of}
use Rattle.smithy_json_codec.specs.Cursor.{cursor_of, reading_settings_of}
use Rattle.smithy_json_values.specs.LexicalGrammar.{grammar_of}
use Rattle.smithy_json_codec.proofs.NumberReads.{reads_instant, answers_instant}
use Rattle.smithy_wire.proofs.ScalarReads.{was_ready}
use Rattle.smithy_json_codec.proofs.deserializer.JsonDeserializerShapeDeserializer.read_timestamp.Goals as goal

pub returns-clause-read : goal.returns-clause-read
returns-clause-read c =
    let same : c.ready.new.self ≡ c.args.self.now.walk = c.in_ok-ready.ensures.ok in
    let was = was_ready c.args.self.now.walk.failed c.args.self.now.walk.due (sym c.in_ok-ready.was ∙ c.ready.ensures.answer) in
    let within : c.args.self.now.walk.position ≤ length c.args.self.now.walk.input.now = search rules in
    let found = rw (same, c.timestamp_format-time.ensures) at c.instant_at-found.ensures in
    let taken = rw same at c.take_within-answer.ensures.taken in
    rw (rw (same, c.timestamp_format-time.ensures) at c.told.ensures)
    (reads_instant (grammar_of (reading_settings_of c.args.self.now)) (reading_settings_of c.args.self.now) (cursor_of c.args.self.now) (site_of c.args.schema.now) was.0 was.1 within refl
    _ c.instant_at-found.result c.take_within-answer.result found taken)

pub returns-clause-uncarried : goal.returns-clause-uncarried
returns-clause-uncarried c =
    let same : c.ready.new.self ≡ c.args.self.now.walk = c.in_ok-ready.ensures.ok in
    let was = was_ready c.args.self.now.walk.failed c.args.self.now.walk.due (sym c.in_ok-ready.was ∙ c.ready.ensures.answer) in
    let within : c.args.self.now.walk.position ≤ length c.args.self.now.walk.input.now = search rules in
    let found = rw (same, c.timestamp_format-time.ensures) at c.instant_at-found.ensures in
    let taken = rw same at c.take_within-answer.ensures.taken in
    rw (rw (same, c.timestamp_format-time.ensures) at c.told.ensures)
    (answers_instant (grammar_of (reading_settings_of c.args.self.now)) (reading_settings_of c.args.self.now) (cursor_of c.args.self.now) (site_of c.args.schema.now) was.0 was.1 within refl
    _ c.instant_at-found.result c.take_within-answer.result found taken)
