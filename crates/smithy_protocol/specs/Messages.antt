-- Requests of the protocols AWS JSON 1.0 and 1.1, Smithy RPC v2 CBOR and AWS Query (Smithy 2.0, "AWS protocols" and "Smithy RPC v2
-- CBOR protocol", sections "Protocol behaviors").
use Rattle.std.specs.Prelude.{ℕ, List, [], ◌∷◌, ◌++◌, length, codes, Option, Some, None, option_map, String, string_bytes}
use Rattle.std.specs.declared.alloc.Global.{Global}
use Rattle.std.specs.Fmt.{decimal}
use Rattle.std.specs.Option.{option_map_or}
use Rattle.smithy_protocol.specs.Headers.{Header}
use Rattle.smithy_protocol.specs.declared.message.Request.{Request}
use Rattle.smithy_protocol.specs.declared.message.ProtocolConfig.{ProtocolConfig}

-- the bytes of a request
pub record Message : Type 0 where
  pub method : List ℕ
  pub uri : List ℕ
  pub headers : List Header
  pub body : List ℕ

abbrev pub message_of : Request → Message
message_of r = record { method = string_bytes r.method; uri = string_bytes r.uri; headers = r.headers; body = r.body.items }

abbrev pub text_of : Option (String Global) → Option (List ℕ)
text_of s = option_map string_bytes s

-- the first of two that is there
abbrev pub first_of : Option (List ℕ) → Option (List ℕ) → Option (List ℕ)
first_of (Some a) b = Some a
first_of None b = b

-- two texts, where both are there
abbrev pub both : Option (List ℕ) → Option (List ℕ) → Option (List ℕ × List ℕ)
both (Some a) (Some b) = Some (a, b)
both _ _ = None

-- a request that posts a body: its kind and its length in bytes come first among the headers
abbrev pub posted : List ℕ → List ℕ → List Header → List ℕ → Message
posted uri content_type further body = record {
  method = codes "POST";
  uri = uri;
  headers = (codes "Content-Type", content_type) ∷ (codes "Content-Length", decimal (length body)) ∷ further;
  body = body;
}

-- ---- AWS JSON

-- the operation as its service knows it: a prefix, else the name of the service, with a point and the operation
abbrev pub target : Option (List ℕ) → ProtocolConfig → Option (List ℕ)
target prefix config =
    option_map (λ names. names.0 ++ (codes "." ++ names.1)) (both (first_of prefix (text_of config.service_name)) (text_of config.operation))

abbrev pub target_header : Option (List ℕ) → List Header
target_header operation = option_map_or (λ t. (codes "X-Amz-Target", t) ∷ []) operation []

abbrev pub json_request : List ℕ → Option (List ℕ) → ProtocolConfig → List ℕ → Message
json_request content_type prefix config body = posted (codes "/") content_type (target_header (target prefix config)) body

-- ---- Smithy RPC v2 CBOR

-- an empty address is that of the root
abbrev pub address : List ℕ → List ℕ
address [] = codes "/"
address (b ∷ more) = b ∷ more

abbrev pub operation_uri : List ℕ → ProtocolConfig → List ℕ
operation_uri endpoint config =
    option_map_or (λ names. codes "/service/" ++ (names.0 ++ (codes "/operation/" ++ names.1))) (both (text_of config.service_name) (text_of config.operation)) (address endpoint)

abbrev pub cbor_request : List ℕ → ProtocolConfig → List ℕ → Message
cbor_request endpoint config body =
    posted (operation_uri endpoint config) (codes "application/cbor") ((codes "smithy-protocol", codes "rpc-v2-cbor") ∷ (codes "accept", codes "application/cbor") ∷ []) body

-- ---- AWS Query

abbrev pub query_request : List ℕ → Message
query_request body = posted (codes "/") (codes "application/x-www-form-urlencoded") [] body

-- the operation, and the version that is set, else that of the configuration, where both are there
abbrev pub form_names : Option (List ℕ) → ProtocolConfig → Option (List ℕ × List ℕ)
form_names version config = both (text_of config.operation) (first_of version (text_of config.version))
