use Rattle.std.proofs.Common.{◌≡◌, ◌≤◌, length, refl, sym, ◌∙◌, rules, lit≤}
use Rattle.smithy_declarations.specs.declared.shape_type.Scalar.TheVariants as scalars
use Rattle.smithy_shapes.specs.Site.{site_of}
use Rattle.smithy_cbor_codec.specs.Cursor.{cursor_of, reading_settings_of}
use Rattle.smithy_cbor_values.proofs.ScalarReads.{reads_narrow}
use Rattle.smithy_wire.proofs.ScalarReads.{was_ready}
use Rattle.smithy_cbor_codec.proofs.deserializer.CborDeserializerShapeDeserializer.read_integer.Goals as goal

pub returns-clause-read : goal.returns-clause-read
returns-clause-read c =
    let same : c.ready.new.self ≡ c.args.self.now.walk = c.in_ok-ready.ensures.ok in
    let was = was_ready c.args.self.now.walk.failed c.args.self.now.walk.due (sym c.in_ok-ready.was ∙ c.ready.ensures.answer) in
    let within : c.args.self.now.walk.position ≤ length c.args.self.now.walk.input.now = search rules in
    let wide = rw (c.end_depth.ensures, same) at c.long_at-found.ensures in
    let narrow = c.integer_found.ensures in
    let take = rw same at c.take.ensures in
    reads_narrow (reading_settings_of c.args.self.now) (cursor_of c.args.self.now) (site_of c.args._schema.now) was.0 was.1 within scalars.Integer 32 (lit≤ tt) (λ x. refl) _ c.long_at-found.result c.integer_found.result c.take.result
    wide.found wide.none narrow.some narrow.none take.ok take.some take.none take.err take.error
