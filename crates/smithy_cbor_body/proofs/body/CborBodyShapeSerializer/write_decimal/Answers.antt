use Rattle.std.proofs.Common.{◌++◌, ◌∙◌, ℤ, ap, to_z, of_z, rules}
use Rattle.std.specs.Int.{w64, w128}
use Rattle.std.proofs.lemmas.Int.{to_z-of_z}
use Rattle.smithy_shapes.specs.Site.{site_of}
use Rattle.smithy_declarations.specs.Value.{decimal}
use Rattle.smithy_schema.specs.Writing.{scalar_of, after_value}
use Rattle.smithy_cbor.specs.Written.{decimal_fraction_bytes}
use Rattle.smithy_cbor_body.specs.Body.{body_of}
use Rattle.smithy_cbor_body.specs.Writing.{made}
use Rattle.smithy_cbor_body.proofs.NumberWriting.{wrote_is, call_written}
use Rattle.smithy_cbor_body.proofs.body.CborBodyShapeSerializer.write_decimal.Goals as goal

pub returns : goal.returns
returns c =
    let s = body_of c.args.self.now in
    let site = site_of c.args.schema.now in
    let m = c.args.mantissa in
    let e = c.args.exponent in
    let bytes = decimal_fraction_bytes e m in
    let before = c.begin_value.new.self.encoder in
    let after = (body_of c.begin_value.new.self).frames in
    let same = ap (λ (z : ℤ). before ++ decimal_fraction_bytes (to_z w64 (of_z w64 e)) z) (to_z-of_z w128 m c.ranges.mantissa)
    ∙ ap (λ (z : ℤ). before ++ decimal_fraction_bytes z m) (to_z-of_z w64 e c.ranges.exponent) in
    record {
      failed = search rules;
      broken = search rules;
      ok = rw c.succeed.ensures (
          call_written (made (scalar_of site (decimal m e)) s) (after_value s.frames) after _ c.in_ok-begin_value.ensures.taken
          (wrote_is s site.view bytes _ after _ _ c.in_ok-begin_value.ensures.same (c.in_ok-decimal_fraction.ensures.appends.ok ∙ same ∙ ap (λ o. o ++ bytes) c.in_ok-begin_value.ensures.lead) c.in_ok-begin_value.ensures.lengths));
      refused = search rules;
    }
