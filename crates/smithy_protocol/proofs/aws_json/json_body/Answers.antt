use Rattle.std.proofs.Common.{ap, ◌∙◌}
use Rattle.smithy_shapes.specs.Site.{site_of}
use Rattle.smithy_json_codec.specs.Writing.{fresh_state}
use Rattle.smithy_json_settings.specs.Settings.{CodecSettings}
use Rattle.smithy_protocol.proofs.CanonicalBodies.{json_bodies}
use Rattle.smithy_protocol.proofs.aws_json.json_body.Goals as goal

pub returns-clause-canonical : goal.returns-clause-canonical
returns-clause-canonical g c =
    json_bodies g.V.SerializableStruct.adds (site_of c.args.schema.now) c.args.input.now _ c.written_body.result
    (c.create_serializer-sink.ensures.state ∙ ap (λ (s : CodecSettings). fresh_state s.json) c.strict.ensures) c.written_body.ensures.ok
