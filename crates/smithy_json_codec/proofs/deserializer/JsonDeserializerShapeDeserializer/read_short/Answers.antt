use Rattle.std.proofs.Common.{◌≡◌, ◌≤◌, length, refl, sym, ◌∙◌, rules, lit≤}
use Rattle.smithy_declarations.specs.declared.shape_type.Scalar.TheVariants as scalars
use Rattle.smithy_shapes.specs.Site.{site_of}
use Rattle.smithy_json_codec.specs.Cursor.{cursor_of, reading_settings_of}
use Rattle.smithy_json_values.specs.LexicalGrammar.{grammar_of}
use Rattle.smithy_json_codec.proofs.NumberReads.{reads_narrow}
use Rattle.smithy_wire.proofs.ScalarReads.{was_ready, no_memory_told}
use Rattle.smithy_json_codec.proofs.deserializer.JsonDeserializerShapeDeserializer.read_short.Goals as goal

pub returns-clause-read : goal.returns-clause-read
returns-clause-read c =
    let same : c.ready.new.self ≡ c.args.self.now.walk = c.in_ok-ready.ensures.ok in
    let was = was_ready c.args.self.now.walk.failed c.args.self.now.walk.due (sym c.in_ok-ready.was ∙ c.ready.ensures.answer) in
    let within : c.args.self.now.walk.position ≤ length c.args.self.now.walk.input.now = search rules in
    let wide = rw same at c.integer_at.ensures in
    let narrow = c.short_found-found.ensures in
    let take = rw same at c.take-answer.ensures in
    let o = reading_settings_of c.args.self.now in
    rw (rw same at c.told.ensures)
    (reads_narrow (grammar_of o) o (cursor_of c.args.self.now) (site_of c.args._schema.now) was.0 was.1 within scalars.Short 16 (lit≤ tt) (record { says_whole = λ x. refl; test = λ raw. refl }) _ c.integer_at.result c.short_found-found.result c.take-answer.result
    wide.found wide.none narrow.some narrow.none take.ok take.some take.none take.err take.error)

pub returns-clause-memory : goal.returns-clause-memory
returns-clause-memory c = rw c.told.ensures (no_memory_told _ c.take-answer.result c.take-answer.ensures.error)
