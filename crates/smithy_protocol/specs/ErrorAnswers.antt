-- What an error answer says of its error (AWS JSON 1.0 and 1.1 protocols and Smithy RPC v2 CBOR protocol of Smithy 2.0, "Operation
-- error serialization"; "AWS Query compatible errors").
use Rattle.std.specs.Prelude.{◌≡◌, ◌⊎◌, ℕ, List, [], ◌∷◌, codes, Option, Some, None, option_map}
use Rattle.smithy_schema.specs.declared.error.SerdeError.{SerdeError}
use Rattle.smithy_schema.specs.declared.error.SerdeError.TheVariants.{InvalidInput, NoMemory}
use Rattle.smithy_error_bodies.specs.Said.{Said, first_of}
use Rattle.smithy_error_metadata.specs.Metadata.{Metadata}
use Rattle.smithy_protocol.specs.ErrorCode.{error_code, query_error}
use Rattle.smithy_protocol.specs.Headers.{Header, value_under}

-- the code and the type that a header for callers of AWS Query has
abbrev pub compatible_error : Option (List ℕ) → Option (List ℕ × List ℕ)
compatible_error None = None
compatible_error (Some value) = query_error value

-- metadata of a code and a message, where no such header counts over the code
abbrev pub by_header : Option (List ℕ × List ℕ) → Option (List ℕ) → Option (List ℕ) → Metadata
by_header None code message = record { code = option_map error_code code; message = message; extras = [] }
by_header (Some (code, type)) _ message = record { code = Some code; message = message; extras = (codes "type", type) ∷ [] }

abbrev pub metadata_of : List Header → Option (List ℕ) → Option (List ℕ) → Metadata
metadata_of headers code message = by_header (compatible_error (value_under (codes "x-amzn-query-error") headers)) code message

-- by the headers and what the body says: in JSON a header of its own counts over the code of the body
abbrev pub json_metadata : List Header → Said → Metadata
json_metadata headers said = metadata_of headers (first_of (value_under (codes "x-amzn-errortype") headers) said.code) said.message

abbrev pub cbor_metadata : List Header → Said → Metadata
cbor_metadata headers said = metadata_of headers said.code said.message

-- these are the metadata of a body that says something
abbrev pub SaysMetadata : (List ℕ → Option Said → Type 0) → (Said → Metadata) → List ℕ → Metadata → Type 0
SaysMetadata Says metadata body m = (said : Said) × Says body (Some said) × (m ≡ metadata said)

-- nothing can be read, or memory was wanting
abbrev pub IsRefusedAnswer : (List ℕ → Option Said → Type 0) → List ℕ → SerdeError → Type 0
IsRefusedAnswer Says body e = ((e ≡ InvalidInput) × Says body None) ⊎ (e ≡ NoMemory)
