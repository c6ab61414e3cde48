-- The protocols, and their names.
use Rattle.std.specs.Prelude.{ℕ, List, false, codes, Option, None}
use Rattle.smithy_json_settings.specs.Settings.{CodecSettings, default_settings}
use Rattle.smithy_protocol.specs.declared.aws_json.Version.{Version}
use Rattle.smithy_protocol.specs.declared.aws_json.Version.TheVariants.{V1_0, V1_1}

-- one of AWS JSON 1.0 and 1.1, with the name under which operations go, and the namespace of relative names of shapes, where they
-- are set
pub record JsonProtocol : Type 0 where
  pub version : Version
  pub target_prefix : Option (List ℕ)
  pub default_namespace : Option (List ℕ)

abbrev pub aws_json_1_0 : JsonProtocol
aws_json_1_0 = record { version = V1_0; target_prefix = None; default_namespace = None }

abbrev pub aws_json_1_1 : JsonProtocol
aws_json_1_1 = record { version = V1_1; target_prefix = None; default_namespace = None }

-- the media type of bodies
abbrev pub content_type : Version → List ℕ
content_type V1_0 = codes "application/x-amz-json-1.0"
content_type V1_1 = codes "application/x-amz-json-1.1"

-- the identifier of the protocol's trait
abbrev pub protocol_name : Version → List ℕ
protocol_name V1_0 = codes "aws.protocols#awsJson1_0"
protocol_name V1_1 = codes "aws.protocols#awsJson1_1"

-- the settings of a client that knows no namespace: those where none is set, but for the names of members and the protocol
abbrev pub client_settings : Version → CodecSettings
client_settings version = record {
  json = record default_settings { use_json_name = false };
  protocol_id = protocol_name version;
  default_namespace = None;
}

-- the settings under which responses are read
abbrev pub response_settings : JsonProtocol → CodecSettings
response_settings p = record (client_settings p.version) { default_namespace = p.default_namespace }
