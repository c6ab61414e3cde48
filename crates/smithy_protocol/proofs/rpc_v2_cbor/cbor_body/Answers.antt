use Rattle.std.proofs.Common.{ap, ◌∙◌}
use Rattle.smithy_shapes.specs.Site.{site_of}
use Rattle.smithy_cbor_body.specs.Prefixes.{fresh_state}
use Rattle.smithy_protocol.proofs.CanonicalBodies.{cbor_bodies}
use Rattle.smithy_protocol.proofs.rpc_v2_cbor.cbor_body.Goals as goal

pub returns-clause-canonical : goal.returns-clause-canonical
returns-clause-canonical g c =
    cbor_bodies g.V.SerializableStruct.adds (site_of c.args.schema.now) c.args.input.now _ c.written_body.result
    (c.create_serializer-sink.ensures.state ∙ ap fresh_state c.strict.ensures) c.written_body.ensures.ok
