-- That a value which a wire can express can be written, also in the middle of a body.
use Rattle.std.specs.Prelude.{◌≡◌, ◌≢◌, ℕ, List, [], true, Ok, IsOk}
use Rattle.std.specs.List.{AllByRecursion}
use Rattle.smithy_declarations.specs.Value.{Value}
use Rattle.smithy_shapes.specs.Site.{Site}
use Rattle.smithy_schema.specs.Writing.{Open, after_value, write}
use Rattle.smithy_json_values.specs.Codec.{strict_settings}
use Rattle.smithy_json_codec.specs.Writing.{JsonState, json_after}
use Rattle.smithy_cbor_body.specs.Codec.{strict_settings as strict_cbor}
use Rattle.smithy_cbor_body.specs.Prefixes.{CborState, cbor_after, no_prefix}
use Rattle.smithy_query_codec.specs.Writing.{QueryState, query_after, child_path, has_room, is_placed, innermost_key, innermost_value}
use Rattle.smithy_transcode.specs.Wires.{Wire, json, cbor, query}

-- where a form lets a value come: it has a name, no segment of its path is empty, and it has a position in its list or map
pub record LetsCome (s : QueryState) (site : Site) : Type 0 where
  pub named : is_placed s.opens site.view ≡ true
  pub full : AllByRecursion (λ (segment : List ℕ). segment ≢ []) (child_path s.opens s.count (innermost_key s.names s.marks) (innermost_value s.names s.marks) site.view)
  pub room : has_room s.opens s.count ≡ true

-- The calls that write the value are taken in each state in which a value may come, by a serializer of the wire with the settings of
-- `transcode` and without a prefix.
abbrev pub IsTaken : Wire → Site → Value → Type 0
IsTaken (json use_json_name integral) site v =
    (s : JsonState) (next : List Open) → s.settings ≡ strict_settings use_json_name → after_value s.frames ≡ Ok next
    → IsOk (write json_after site v s)
IsTaken (cbor definite) site v =
    (s : CborState) (next : List Open) → s.body.settings ≡ record strict_cbor { use_definite_lengths = definite } → s.prefix ≡ no_prefix
    → after_value s.body.frames ≡ Ok next → IsOk (write cbor_after site v s)
IsTaken (query action version) site v =
    (s : QueryState) (next : List Open) → LetsCome s site → after_value s.opens ≡ Ok next → IsOk (write query_after site v s)
