-- The wires that words of a command name.
use Rattle.std.specs.Prelude.{List, [], ◌∷◌, ℕ, true, false, Option, Some, None, if◌then◌else◌, codes, bytes_eq}
use Rattle.smithy_transcode.specs.Wires.{Wire, json, cbor, query}
use Rattle.smithy_commands.specs.declared.wire_words.WireWords.{WireWords}
use Rattle.smithy_commands.specs.declared.wire_words.WireWords.TheVariants.{Json, JsonName, JsonIntegral, JsonNameIntegral, Cbor, CborDefinite, Query}

-- json, json-name or cbor, which are read and written
abbrev pub wire_named : List ℕ → Option Wire
wire_named word =
    if bytes_eq word (codes "json") then Some (json false false)
    else if bytes_eq word (codes "json-name") then Some (json true false)
    else if bytes_eq word (codes "cbor") then Some (cbor false) else None

-- one of these, or json-integral or json-name-integral, which are read alone
abbrev pub read_wire_named : List ℕ → Option Wire
read_wire_named word =
    if bytes_eq word (codes "json-integral") then Some (json false true)
    else if bytes_eq word (codes "json-name-integral") then Some (json true true) else wire_named word

-- json, json-name, cbor, or cbor-definite, which is written alone
abbrev pub written_wire_named : List ℕ → Option Wire
written_wire_named word = if bytes_eq word (codes "cbor-definite") then Some (cbor true) else wire_named word

-- what is wanted: one of the last, or `query ACTION VERSION`
abbrev pub wanted_wire : List (List ℕ) → Option Wire
wanted_wire (to ∷ []) = written_wire_named to
wanted_wire (to ∷ action ∷ version ∷ []) = if bytes_eq to (codes "query") then Some (query action version) else None
wanted_wire _ = None

-- the wire that the words name
abbrev pub named_wire : WireWords → Wire
named_wire Json = json false false
named_wire JsonName = json true false
named_wire JsonIntegral = json false true
named_wire JsonNameIntegral = json true true
named_wire Cbor = cbor false
named_wire CborDefinite = cbor true
named_wire (Query action version) = query action.now version.now
