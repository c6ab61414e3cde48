-- A value counts, with all values inside it, at most one more than the bytes that spell it.
use Rattle.std.specs.Prelude.{◌≤◌, ◌+◌, ℕ, length, List, refl}
use Rattle.std.proofs.Common.{arith, inl, inr}
use Rattle.smithy_declarations.specs.Table.{Table, shape_place}
use Rattle.smithy_declarations.specs.Value.{Value}
use Rattle.smithy_schema.specs.Nodes.{nodes}
use Rattle.smithy_schema.specs.Reading.{Relations, IsLawful, StandsFit, HaveBytes}
use Rattle.smithy_json_values.specs.Laws.{lawful as json_is_lawful, fit as json_fits}
use Rattle.smithy_json_codec.specs.WireSettings.{wire_settings}
use Rattle.smithy_cbor_body.specs.Codec.{strict_settings as strict_cbor}
use Rattle.smithy_cbor_values.specs.Laws.{lawful as cbor_is_lawful, fit as cbor_fits}
use Rattle.smithy_transcode.specs.Spelling.{Spells}
use Rattle.smithy_transcode.specs.Wires.{Wire, json, cbor, query}
use Rattle.smithy_transcode.proofs.Spelled.{spelled_stands}

stands_is_bounded : (w : Relations) → IsLawful w → StandsFit w → (i : List ℕ) (t : Table) (root e : ℕ) (v : Value) → w.stands i t (shape_place root) 0 0 v e → nodes v ≤ length i + 1
stands_is_bounded w laws fit i t root e v h = by (fit.counted i t (shape_place root) 0 0 v e h)
  where
    by : HaveBytes i 0 e (nodes v) → nodes v ≤ length i + 1
    by (inl all) = omega (arith, all, (laws.stands_within i t (shape_place root) 0 0 v e h).1)
    by (inr (most, end)) = omega (arith, most, end)

-- a spelled value has, with itself and all that stands in it, at most one value more than the input has bytes
pub nodes_are_bounded : (w : Wire) (t : Table) (root : ℕ) (i : List ℕ) (v : Value) → Spells w t root i v → nodes v ≤ length i + 1
nodes_are_bounded (json b n) t root i v h =
    let s = spelled_stands (json b n) t root i v h in
    stands_is_bounded _ (json_is_lawful (wire_settings b n)) (json_fits (wire_settings b n) refl) i t root s.0 v s.1
nodes_are_bounded (cbor told) t root i v h =
    let s = spelled_stands (cbor told) t root i v h in
    stands_is_bounded _ (cbor_is_lawful strict_cbor) (cbor_fits strict_cbor refl) i t root s.0 v s.1
nodes_are_bounded (query action version) t root i v h = absurd h
