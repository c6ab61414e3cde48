use Rattle.std.proofs.Common.{◌++◌, ◌∙◌, Ok, ap, rules}
use Rattle.smithy_shapes.specs.Site.{site_of}
use Rattle.smithy_schema.specs.Written.{list_of_wholes}
use Rattle.smithy_json_codec.specs.Canonical.{canonical_json}
use Rattle.smithy_json_codec.specs.Serializing.{state_of}
use Rattle.smithy_json_codec.specs.Writing.{wrote, where_taken}
use Rattle.smithy_json_codec.proofs.LongLists.{wrote_is}
use Rattle.smithy_json_codec.proofs.serializer.JsonSerializer.write_longs.Goals as goal

pub returns : goal.returns
returns c =
    let s = state_of c.args.self.now in
    let site = site_of c.args.schema.now in
    let bytes = canonical_json s.settings site (list_of_wholes c.args.values.now) in
    let after = (state_of c.begin_value.new.self).frames in
    record {
      failed = search rules;
      broken = search rules;
      ok = rw c.succeed.ensures (
          ap (where_taken (wrote s site.view bytes)) c.in_ok-begin_value.ensures.taken
          ∙ ap Ok (wrote_is s site.view bytes _ after _ c.in_ok-begin_value.ensures.same (c.in_ok-push_longs.ensures s.settings site ∙ ap (λ o. o ++ bytes) c.in_ok-begin_value.ensures.lead)));
      refused = search rules;
    }
