use Rattle.std.proofs.Common.{◌≡◌, ◌≤◌, length, refl, sym, ◌∙◌, rules}
use Rattle.std.specs.Prelude.{FitsSigned}
use Rattle.std.specs.Int.{w128}
use Rattle.smithy_schema.specs.declared.error.SerdeError.TheVariants.{TooWide}
use Rattle.smithy_declarations.specs.declared.shape_type.Scalar.TheVariants as scalars
use Rattle.smithy_shapes.specs.Site.{site_of}
use Rattle.smithy_declarations.specs.Value.{decimal}
use Rattle.smithy_texts.specs.Decimal.{mantissa, net_exponent, decimal_text}
use Rattle.smithy_cbor_codec.specs.Cursor.{cursor_of, reading_settings_of}
use Rattle.smithy_cbor_values.proofs.ScalarReads.{reads_big, answers_big, value_is}
use Rattle.smithy_wire.proofs.ScalarReads.{was_ready}
use Rattle.smithy_cbor_codec.proofs.deserializer.CborDeserializerShapeDeserializer.read_big_decimal.Goals as goal

pub returns-clause-read : goal.returns-clause-read
returns-clause-read c =
    let same : c.ready.new.self ≡ c.args.self.now.walk = c.in_ok-ready.ensures.ok in
    let was = was_ready c.args.self.now.walk.failed c.args.self.now.walk.due (sym c.in_ok-ready.was ∙ c.ready.ensures.answer) in
    let within : c.args.self.now.walk.position ≤ length c.args.self.now.walk.input.now = search rules in
    let found = rw (c.end_depth.ensures, same) at c.big_decimal_at-found.ensures in
    let take = rw same at c.take_within.ensures in
    reads_big (reading_settings_of c.args.self.now) (cursor_of c.args.self.now) (site_of c.args._schema.now) was.0 was.1 within refl scalars.BigDecimal (λ x. refl)
    (λ n. decimal (mantissa n) (net_exponent n)) _ c.big_decimal_at-found.result c.take_within.result found.found take.taken

pub returns-clause-wide : goal.returns-clause-wide
returns-clause-wide c =
    let same : c.ready.new.self ≡ c.args.self.now.walk = c.in_ok-ready.ensures.ok in
    let was = was_ready c.args.self.now.walk.failed c.args.self.now.walk.due (sym c.in_ok-ready.was ∙ c.ready.ensures.answer) in
    let within : c.args.self.now.walk.position ≤ length c.args.self.now.walk.input.now = search rules in
    let found = rw (c.end_depth.ensures, same) at c.big_decimal_at-found.ensures in
    let take = rw same at c.take_within.ensures in
    answers_big (reading_settings_of c.args.self.now) (cursor_of c.args.self.now) (site_of c.args._schema.now) was.0 was.1 within refl scalars.BigDecimal (λ x. refl)
    (λ n. decimal (mantissa n) (net_exponent n)) _ c.big_decimal_at-found.result c.take_within.result found.found take.taken

pub returns-clause-fits : goal.returns-clause-fits
returns-clause-fits c = value_is _ _ c.take_within.result (λ n. FitsSigned w128 (mantissa n)) TooWide c.big_decimal_at-found.result c.big_decimal_at-found.ensures.fits c.take_within.ensures.taken

pub returns-clause-text : goal.returns-clause-text
returns-clause-text c = value_is _ _ c.take_within.result (λ n. n ≡ decimal_text (mantissa n) (net_exponent n)) TooWide c.big_decimal_at-found.result c.big_decimal_at-found.ensures.text c.take_within.ensures.taken
