use Rattle.std.proofs.Common.{lit≤}
use Rattle.std.specs.Cow.{cow_str_bytes}
use Rattle.smithy_texts.specs.Decimal.{mantissa, net_exponent}
use Rattle.smithy_texts.specs.Numeral.{number}
use Rattle.smithy_declarations.specs.declared.shape_type.Scalar.TheVariants as scalars
use Rattle.smithy_declarations.specs.Value.{whole, decimal, instant}
use Rattle.smithy_lint.proofs.CborBodies.{boolean_found, whole_found, narrow_verdict, text_found, blob_found, number_found, date_found}
use Rattle.smithy_lint.proofs.cbor_body.finding_at.Goals as goal

pub returns-in-Boolean : goal.returns-in-Boolean
returns-in-Boolean c =
    rw (c.in-Boolean.is, c.unless.ensures, c.is_some.ensures)
    (boolean_found c.args.bytes.now c.args.at c.args.depth c.boolean_at.result c.boolean_at.ensures.found c.boolean_at.ensures.none)

pub returns-in-Byte : goal.returns-in-Byte
returns-in-Byte c =
    rw (c.in-Byte.is, c.unless-in-Byte.ensures, c.is_some-in-Byte.ensures)
    (narrow_verdict 8 (lit≤ tt) c.args.bytes.now c.args.at c.args.depth c.long_at.result c.byte_found.result c.long_at.ensures.found c.long_at.ensures.none
    c.byte_found.ensures.some c.byte_found.ensures.none)

pub returns-in-Short : goal.returns-in-Short
returns-in-Short c =
    rw (c.in-Short.is, c.unless-in-Short.ensures, c.is_some-in-Short.ensures)
    (narrow_verdict 16 (lit≤ tt) c.args.bytes.now c.args.at c.args.depth c.long_at-in-Short.result c.short_found.result c.long_at-in-Short.ensures.found c.long_at-in-Short.ensures.none
    c.short_found.ensures.some c.short_found.ensures.none)

pub returns-in-Integer : goal.returns-in-Integer
returns-in-Integer c =
    rw (c.in-Integer.is, c.unless-in-Integer.ensures, c.is_some-in-Integer.ensures)
    (narrow_verdict 32 (lit≤ tt) c.args.bytes.now c.args.at c.args.depth c.long_at-in-Integer.result c.integer_found.result c.long_at-in-Integer.ensures.found c.long_at-in-Integer.ensures.none
    c.integer_found.ensures.some c.integer_found.ensures.none)

pub returns-in-Long : goal.returns-in-Long
returns-in-Long c =
    rw (c.in-Long.is, c.unless-in-Long.ensures, c.is_some-in-Long.ensures)
    (whole_found 64 c.args.bytes.now c.args.at c.args.depth c.long_at-in-Long.result c.long_at-in-Long.ensures.found c.long_at-in-Long.ensures.none)

pub returns-in_ok-text_at-in-String : goal.returns-in_ok-text_at-in-String
returns-in_ok-text_at-in-String c =
    let found = c.in_ok-text_at-in-String in
    rw (c.in-String.is, c.unless-in-String.ensures, c.is_some-in-String.ensures)
    (text_found cow_str_bytes c.args.bytes.now c.args.at c.args.depth found.field-0 found.ensures.found)

pub returns-in_ok-blob_at-in-Blob : goal.returns-in_ok-blob_at-in-Blob
returns-in_ok-blob_at-in-Blob c =
    let found = c.in_ok-blob_at-in-Blob in
    rw (c.in-Blob.is, c.unless-in-Blob.ensures, c.is_some-in-Blob.ensures)
    (blob_found (λ b. b) c.args.bytes.now c.args.at c.args.depth found.field-0 found.ensures)

pub returns-in-Timestamp : goal.returns-in-Timestamp
returns-in-Timestamp c =
    rw (c.in-Timestamp.is, c.finding_of.ensures)
    (date_found scalars.Timestamp c.args.bytes.now c.args.at c.args.depth instant c.instant_at.result c.instant_at.ensures)

pub returns-in_ok-found-in-BigInteger : goal.returns-in_ok-found-in-BigInteger
returns-in_ok-found-in-BigInteger c =
    let big = c.in_ok-found-in-BigInteger in
    rw (c.in-BigInteger.is, c.finding_of-in-BigInteger.ensures)
    (number_found scalars.BigInteger c.args.bytes.now c.args.at c.args.depth (λ n. whole (number n)) big.found big.ensures.found)

pub returns-in_ok-found-in-BigDecimal : goal.returns-in_ok-found-in-BigDecimal
returns-in_ok-found-in-BigDecimal c =
    let big = c.in_ok-found-in-BigDecimal in
    rw (c.in-BigDecimal.is, c.finding_of-in-BigDecimal.ensures)
    (number_found scalars.BigDecimal c.args.bytes.now c.args.at c.args.depth (λ n. decimal (mantissa n) (net_exponent n)) big.found big.ensures.found)
