-- What contracts see of a codec and of its serializer.
use Rattle.std.specs.Prelude.{Bool}
use Rattle.smithy_cbor_codec.specs.declared.codec.CborCodec.{CborCodec}
use Rattle.smithy_cbor_body.specs.declared.prefix.NoPrefix.{NoPrefix}
use Rattle.smithy_cbor_codec.specs.declared.serializer.CborSerializer.{CborSerializer}
use Rattle.smithy_cbor_body.specs.Body.{body_of, body_has_failed}
use Rattle.smithy_cbor_body.specs.Codec.{held_settings}
use Rattle.smithy_cbor_body.specs.Prefixes.{CborState, no_prefix}
use Rattle.smithy_cbor_values.specs.Settings.{Settings}
use Rattle.smithy_cbor_body.specs.Writing.{BodyState}

-- the settings of a codec
abbrev pub settings_of : CborCodec → Settings
settings_of codec = held_settings codec.settings

-- the parts of a serializer with a prefix
abbrev pub body_in : {P : Type 0} → CborSerializer P → BodyState
body_in s = body_of s.body

abbrev pub prefix_in : {P : Type 0} → CborSerializer P → P
prefix_in s = s.prefix

abbrev pub has_failed : {P : Type 0} → CborSerializer P → Bool
has_failed s = body_has_failed s.body

-- that of a codec, which has no prefix
abbrev pub state_of : CborSerializer NoPrefix → CborState
state_of s = record { body = body_in s; prefix = no_prefix }
