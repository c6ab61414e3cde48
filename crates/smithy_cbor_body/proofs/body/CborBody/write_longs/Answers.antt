use Rattle.std.proofs.Common.{◌≡◌, ◌++◌, ◌∙◌, Some, ap, length, map, refl, rules}
use Rattle.smithy_shapes.specs.Site.{site_of, element_of}
use Rattle.smithy_declarations.specs.Value.{scalar_value, whole, values_of}
use Rattle.smithy_schema.specs.Writing.{after_value}
use Rattle.smithy_schema.specs.Written.{list_of_wholes}
use Rattle.smithy_cbor_body.specs.Body.{body_of}
use Rattle.smithy_cbor_body.specs.Canonical.{canonical_cbor, element_bytes}
use Rattle.smithy_cbor_body.specs.Writing.{wrote}
use Rattle.smithy_cbor_body.specs.Lengths.{container_bytes, written_length}
use Rattle.smithy_cbor_body.proofs.LongLists.{list_length}
use Rattle.smithy_cbor_body.proofs.NumberWriting.{wrote_is, call_written}
use Rattle.smithy_cbor_body.proofs.body.CborBody.write_longs.Goals as goal

pub returns : goal.returns
returns c =
    let s = body_of c.args.self.now in
    let site = site_of c.args.schema.now in
    let bytes = canonical_cbor s.settings.use_definite_lengths site (list_of_wholes c.args.values.now) in
    let after = (body_of c.begin_value.new.self).frames in
    let ns = c.args.values.now in
    let inside = element_bytes s.settings.use_definite_lengths (element_of site) (values_of (map (λ n. scalar_value (whole n)) ns)) in
    let out = (body_of c.begin_value.new.self).out in
    let n = length ns in
    let length_is : c.written_length-length.result ≡ written_length (body_of c.begin_value.new.self).settings (Some n) = search rules in
    let written = length_is ∙ ap (λ o. written_length o (Some n)) c.in_ok-begin_value.ensures.same ∙ list_length s.settings ns n refl in
    let all = c.in_ok-write_whole_numbers.ensures s.settings.use_definite_lengths (element_of site) ∙ ap (λ l. out ++ container_bytes 4 l inside) written ∙ ap (λ o. o ++ bytes) c.in_ok-begin_value.ensures.lead in
    record {
      failed = search rules;
      broken = search rules;
      ok = rw c.succeed.ensures (
          call_written (wrote s site.view bytes) (after_value s.frames) after _ c.in_ok-begin_value.ensures.taken
          (wrote_is s site.view bytes _ after _ _ c.in_ok-begin_value.ensures.same all c.in_ok-begin_value.ensures.lengths));
      refused = search rules;
    }
