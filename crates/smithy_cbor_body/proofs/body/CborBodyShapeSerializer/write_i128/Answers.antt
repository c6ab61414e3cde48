use Rattle.std.proofs.Common.{◌++◌, ◌∙◌, ℤ, ap, rules}
use Rattle.std.specs.Int.{w128}
use Rattle.std.proofs.lemmas.Int.{to_z-of_z}
use Rattle.smithy_shapes.specs.Site.{site_of}
use Rattle.smithy_declarations.specs.Value.{whole}
use Rattle.smithy_schema.specs.Writing.{scalar_of, after_value}
use Rattle.smithy_cbor.specs.Written.{big_integer_bytes}
use Rattle.smithy_cbor_body.specs.Body.{body_of}
use Rattle.smithy_cbor_body.specs.Writing.{made}
use Rattle.smithy_cbor_body.proofs.NumberWriting.{wrote_is, call_written}
use Rattle.smithy_cbor_body.proofs.body.CborBodyShapeSerializer.write_i128.Goals as goal

pub returns : goal.returns
returns c =
    let s = body_of c.args.self.now in
    let site = site_of c.args.schema.now in
    let bytes = big_integer_bytes c.args.value in
    let after = (body_of c.begin_value.new.self).frames in
    let same = ap (λ (z : ℤ). c.begin_value.new.self.encoder ++ big_integer_bytes z) (to_z-of_z w128 c.args.value c.ranges.value) in
    record {
      failed = search rules;
      broken = search rules;
      ok = rw c.succeed.ensures (
          call_written (made (scalar_of site (whole c.args.value)) s) (after_value s.frames) after _ c.in_ok-begin_value.ensures.taken
          (wrote_is s site.view bytes _ after _ _ c.in_ok-begin_value.ensures.same (c.in_ok-whole.ensures.appends.ok ∙ same ∙ ap (λ o. o ++ bytes) c.in_ok-begin_value.ensures.lead) c.in_ok-begin_value.ensures.lengths));
      refused = search rules;
    }
