use Rattle.std.proofs.Common.{◌++◌, ◌∙◌, ap, rules}
use Rattle.smithy_texts.specs.Decimal.{mantissa, net_exponent}
use Rattle.smithy_shapes.specs.Site.{site_of}
use Rattle.smithy_schema.specs.Writing.{big_decimal_of, after_value}
use Rattle.smithy_cbor.specs.Written.{decimal_fraction_bytes}
use Rattle.smithy_cbor_body.specs.Body.{body_of}
use Rattle.smithy_cbor_body.specs.Writing.{made}
use Rattle.smithy_cbor_body.proofs.NumberWriting.{wrote_is, number_written, number_refused}
use Rattle.smithy_cbor_body.proofs.body.CborBodyShapeSerializer.write_big_decimal.Goals as goal

pub returns-in-Ok : goal.returns-in-Ok
returns-in-Ok c =
    let s = body_of c.args.self.now in
    let site = site_of c.args.schema.now in
    let text = c.args.value.now in
    let bytes = decimal_fraction_bytes (net_exponent text) (mantissa text) in
    let after = (body_of c.begin_value.new.self).frames in
    record {
      failed = search rules;
      broken = search rules;
      ok = rw c.succeed.ensures (
          number_written (mantissa text) (made (big_decimal_of site text) s) (after_value s.frames) after _ c.in_ok-begin_value.ensures.taken
          (wrote_is s site.view bytes _ after _ _ c.in_ok-begin_value.ensures.same (c.in-Ok.ensures.appends.ok ∙ ap (λ o. o ++ bytes) c.in_ok-begin_value.ensures.lead) c.in_ok-begin_value.ensures.lengths) c.in-Ok.ensures.wide.1);
      refused = search rules;
    }

pub returns-in-Err : goal.returns-in-Err
returns-in-Err c =
    let s = body_of c.args.self.now in
    let site = site_of c.args.schema.now in
    let text = c.args.value.now in
    record {
      failed = search rules;
      broken = search rules;
      ok = search rules;
      refused = number_refused (mantissa text) (made (big_decimal_of site text) s) (after_value s.frames) (body_of c.begin_value.new.self).frames c.in-Err.error c.refusal_of.result
          c.in_ok-begin_value.ensures.taken c.in-Err.ensures.wide.0 c.refusal_of.ensures.wide c.refusal_of.ensures.kind;
    }
