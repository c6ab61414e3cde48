-- The wires, as plain data, and what one of them can't carry.
use Rattle.std.specs.Prelude.{ℕ, List, Bool, true, false, ◌&&◌, not, Option, Some, None, string_bytes, if◌then◌else◌}
use Rattle.smithy_shapes.specs.ScalarTest.{ValueTest, no_documents, scalars_pass}
use Rattle.smithy_shapes.specs.Site.{Site, shape_site}
use Rattle.smithy_declarations.specs.Table.{Table}
use Rattle.smithy_declarations.specs.Value.{Value}
use Rattle.smithy_json_codec.specs.Canonical.{json_holds}
use Rattle.smithy_json_values.specs.Codec.{strict_settings}
use Rattle.smithy_cbor_body.specs.Canonical.{cbor_holds}
use Rattle.smithy_query_codec.specs.Nulls.{holds_null}
use Rattle.smithy_query_codec.specs.Writable.{query_holds}
use Rattle.smithy_transcode.specs.declared.wire.Wire as kept
use Rattle.smithy_transcode.specs.declared.wire.Wire.TheVariants as wires
use Rattle.smithy_transcode.specs.declared.wire.Unfit.{Unfit}
use Rattle.smithy_transcode.specs.declared.wire.Unfit.TheVariants.{Document, Null, Instant}

pub data Wire : Type 0 where
  -- members go by their JSON names, where they have one; and an integer that is read may have a fraction or an exponent if it is whole
  json : Bool → Bool → Wire
  -- lists and maps are written with their lengths
  cbor : Bool → Wire
  -- a form of this action and version
  query : List ℕ → List ℕ → Wire

-- the wire that is asked for
abbrev pub wire_of : kept.Wire → Wire
wire_of (wires.Json use_json_name integral) = json use_json_name integral
wire_of (wires.Cbor definite_lengths) = cbor definite_lengths
wire_of (wires.Query action version) = query (string_bytes action) (string_bytes version)

-- bodies of the wire are read as well as written: those of JSON and CBOR
abbrev pub IsReadable : Wire → Type 0
IsReadable (query action version) = ⊥
IsReadable _ = Unit {0}

-- null elements have a spelling: in no form
abbrev pub has_nulls : Wire → Bool
has_nulls (query action version) = false
has_nulls _ = true

-- what is written for a scalar at a place with this time form stands for exactly it, and whether documents have a spelling
abbrev pub holds : Wire → ValueTest
holds (json use_json_name integral) = json_holds (strict_settings use_json_name)
holds (cbor definite_lengths) = cbor_holds
holds (query action version) = query_holds

-- a document stands in the value of a site
abbrev pub holds_document : Site → Value → Bool
holds_document site v = not (scalars_pass no_documents site v)

-- Why the wire can't express the value of a site, where it can't: a document stands in it and the wire has none, or else a null
-- element stands in it and the wire has none, or else an instant that the wire doesn't hold at its place.
abbrev pub unfit_at : Wire → Site → Value → Option Unfit
unfit_at wire site v =
    if not (holds wire).documents && holds_document site v then Some Document
    else if not (has_nulls wire) && holds_null v then Some Null
    else if scalars_pass (holds wire) site v then None
    else Some Instant

-- Why the wire can't express a value of the root, where it can't: a document stands in it and the wire has none, or else a null
-- element stands in it and the wire has none, or else an instant that the wire doesn't hold at its place.
abbrev pub unfit : Wire → Table → ℕ → Value → Option Unfit
unfit wire table root v = unfit_at wire (shape_site table root) v
