use Rattle.std.proofs.Common.{◌≡◌, Some, Ok, false, ◌∙◌, ap, subst, sym, rules}
use Rattle.std.specs.Prelude.{OnOk}
use Rattle.smithy_shapes.specs.Site.{site_of}
use Rattle.smithy_schema.specs.Writing.{after_value}
use Rattle.smithy_json_codec.specs.Canonical.{in_form}
use Rattle.smithy_json_codec.specs.Serializing.{state_of}
use Rattle.smithy_json_codec.specs.Writing.{JsonState, wrote, where_taken}
use Rattle.smithy_json_codec.proofs.InstantWriting.{call_written}
use Rattle.smithy_json_codec.proofs.serializer.JsonSerializerShapeSerializer.write_timestamp.Goals as goal

pub returns : goal.returns
returns c =
    let self = c.args.self.now in
    let site = site_of c.args.schema.now in
    let text = c.as_str.result.now in
    let form = c.form_at-form.result in
    let same = ap (λ k. state_of (record self { containers = k })) c.succeed.ensures
    ∙ ap (λ k. state_of (record self { containers = record k { failed = false } })) c.begin.ensures.begun in
    record {
      failed = search rules;
      broken = search rules;
      ok = call_written (state_of self) site c.args.value.now form text c.write_in_form.result (state_of c.write_in_form.new.self)
          c.form_at-form.ensures
          (c.in_ok-text.ensures.ok ∙ ap Some (sym c.as_str.ensures.value))
          (subst (λ (s : JsonState). OnOk c.write_in_form.result (where_taken (wrote s site.view (in_form form text)) (after_value s.frames) ≡ Ok (state_of c.write_in_form.new.self))) same c.write_in_form.ensures.ok);
      refused = search rules;
    }
