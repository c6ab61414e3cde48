-- What contracts see of a body that is written.
use Rattle.std.specs.Prelude.{Bool}
use Rattle.smithy_wire.specs.OpenContainers.{opens_of, marks_of}
use Rattle.smithy_cbor_body.specs.declared.body.CborBody.{CborBody}
use Rattle.smithy_cbor_body.specs.Codec.{held_settings}
use Rattle.smithy_cbor_body.specs.Writing.{BodyState}

-- what the calls of a serializer without a prefix depend on
abbrev pub body_of : CborBody → BodyState
body_of s = record { settings = held_settings s.settings; out = s.encoder; frames = opens_of s.containers; lengths = marks_of s.containers }

-- an earlier call was refused, or was `fail`
abbrev pub body_has_failed : CborBody → Bool
body_has_failed s = s.containers.failed
