-- Which bytes spell which value, and the body that is written for a value, wire by wire.
use Rattle.std.specs.Prelude.{ℕ, List}
use Rattle.smithy_declarations.specs.Table.{Table, shape_place}
use Rattle.smithy_shapes.specs.Site.{shape_site}
use Rattle.smithy_declarations.specs.Value.{Value}
use Rattle.smithy_json_codec.specs.Canonical.{canonical_json}
use Rattle.smithy_json_values.specs.Codec.{strict_settings}
use Rattle.smithy_json_values.specs.Settings.{without_limits}
use Rattle.smithy_json_values.specs.Spelling.{json_spells}
use Rattle.smithy_json_codec.specs.WireSettings.{wire_settings}
use Rattle.smithy_cbor_body.specs.Canonical.{canonical_cbor}
use Rattle.smithy_cbor_body.specs.Codec.{strict_settings as strict_cbor}
use Rattle.smithy_cbor_values.specs.Settings.{without_limits as without_cbor_limits}
use Rattle.smithy_cbor_values.specs.Spelling.{cbor_spells}
use Rattle.smithy_query_codec.specs.Canonical.{canonical_query}
use Rattle.smithy_transcode.specs.Wires.{Wire, json, cbor, query}

-- the whole bytes spell the value of the root, which is a declaration of the table; forms are not read
abbrev pub Spells : Wire → Table → ℕ → List ℕ → Value → Type 0
Spells (json use_json_name integral) table root bytes v =
    json_spells (wire_settings use_json_name integral) table (shape_place root) bytes v
Spells (cbor definite_lengths) table root bytes v = cbor_spells strict_cbor table (shape_place root) bytes v
Spells (query action version) table root bytes v = ⊥

-- some bytes spell the value in some wire
abbrev pub IsSpelled : Table → ℕ → Value → Type 0
IsSpelled table root v = (wire : Wire) × (bytes : List ℕ) × Spells wire table root bytes v

-- The whole bytes spell the value of the root without the limits on depth and on the size of numbers, and with what isn't carried
-- taken for a null: a number of seconds, a number in a document, in CBOR whatever stands for a document.
abbrev pub SpellsWithoutLimits : Wire → Table → ℕ → List ℕ → Value → Type 0
SpellsWithoutLimits (json use_json_name integral) table root bytes v =
    json_spells (without_limits (wire_settings use_json_name integral)) table (shape_place root) bytes v
SpellsWithoutLimits (cbor definite_lengths) table root bytes v =
    cbor_spells (without_cbor_limits strict_cbor) table (shape_place root) bytes v
SpellsWithoutLimits (query action version) table root bytes v = ⊥

-- the one body of a value of the root: how integers are read makes no difference
abbrev pub body : Wire → Table → ℕ → Value → List ℕ
body (json use_json_name integral) table root v = canonical_json (strict_settings use_json_name) (shape_site table root) v
body (cbor definite_lengths) table root v = canonical_cbor definite_lengths (shape_site table root) v
body (query action version) table root v = canonical_query action version (shape_site table root) v
