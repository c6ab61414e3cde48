-- What a write of a structure answers, on a fresh serializer of a wire that can express it.
use Rattle.std.specs.Prelude.{◌≡◌, ℕ, List, false, Result, Ok, Err}
use Rattle.smithy_declarations.specs.Value.{Value}
use Rattle.smithy_shapes.specs.Site.{Site}
use Rattle.smithy_schema.specs.declared.error.SerdeError.{SerdeError}
use Rattle.smithy_schema.specs.declared.error.SerdeError.TheVariants.{NoMemory}
use Rattle.smithy_schema.specs.Writing.{Writer, begin_structure, end_structure, member_events}
use Rattle.smithy_schema.specs.Written.{Runs, Wraps}
use Rattle.smithy_json_values.specs.Codec.{strict_settings}
use Rattle.smithy_json_codec.specs.Canonical.{canonical_json}
use Rattle.smithy_json_codec.specs.Writing.{JsonState, json_after, fresh_state as fresh_json}
use Rattle.smithy_cbor_body.specs.Codec.{strict_settings as strict_cbor}
use Rattle.smithy_cbor_body.specs.Canonical.{canonical_cbor}
use Rattle.smithy_cbor_body.specs.Prefixes.{CborState, cbor_after, fresh_state as fresh_cbor}
use Rattle.smithy_query_codec.specs.Canonical.{canonical_query}
use Rattle.smithy_query_codec.specs.Counts.{HasPositions}
use Rattle.smithy_query_codec.specs.Writing.{QueryState, query_after, fresh_state as fresh_form}
use Rattle.smithy_transcode.specs.Wires.{Wire, json, cbor, query}
use Rattle.smithy_replay.specs.TreeMembers.{members_in}

-- it went through, and the bytes are these, or memory ran out
abbrev pub IsBodyOrNoMemory : {S : Type 0} → (S → List ℕ) → List ℕ → Result S SerdeError → Type 0
IsBodyOrNoMemory out body (Ok s) = out s ≡ body
IsBodyOrNoMemory out body (Err e) = e ≡ NoMemory

-- Whatever a write of the structure by `write_struct` makes of a serializer in this state, it leaves this body, or memory ran out.
abbrev pub LeavesBody : {S : Type 0} → Writer S → (S → List ℕ) → Site → Value → S → List ℕ → Type 0
LeavesBody {S} after out site v fresh body = (r : Result S SerdeError)
    → Wraps after (begin_structure site) end_structure (Runs after (member_events site (members_in v))) false fresh r → IsBodyOrNoMemory out body r

-- By the wire, the body is the value's own. A form numbers the parts of lists and maps.
abbrev pub WritesItsBody : Wire → Site → Value → Type 0
WritesItsBody (json use_json_name integral) site v =
    LeavesBody json_after (λ (s : JsonState). s.out) site v (fresh_json (strict_settings use_json_name)) (canonical_json (strict_settings use_json_name) site v)
WritesItsBody (cbor definite_lengths) site v =
    LeavesBody cbor_after (λ (s : CborState). s.body.out) site v (fresh_cbor (record strict_cbor { use_definite_lengths = definite_lengths }))
    (canonical_cbor definite_lengths site v)
WritesItsBody (query action version) site v =
    HasPositions v → LeavesBody query_after (λ (s : QueryState). s.out) site v (fresh_form action version) (canonical_query action version site v)
