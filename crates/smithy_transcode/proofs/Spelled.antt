-- What a wire's relations let stand at the start of an input, as what the whole input spells.
use Rattle.std.proofs.Common.{◌≡◌, ℕ, List, [], refl, inr}
use Rattle.smithy_declarations.specs.Table.{Table, kind_of, shape_place, IsStructure}
use Rattle.smithy_declarations.specs.Value.{Value, structure, no_member_values}
use Rattle.smithy_schema.specs.Reading.{Relations}
use Rattle.smithy_json_values.specs.Settings.{without_limits}
use Rattle.smithy_json_values.specs.Standing.{json_relations}
use Rattle.smithy_json_values.proofs.SpellingLemmas.{stands_spells, spells_stands, structure_is_container}
use Rattle.smithy_json_codec.specs.WireSettings.{wire_settings}
use Rattle.smithy_cbor_body.specs.Codec.{strict_settings as strict_cbor}
use Rattle.smithy_cbor_values.specs.Settings.{without_limits as without_cbor_limits}
use Rattle.smithy_cbor_values.specs.Standing.{cbor_relations}
use Rattle.smithy_cbor_values.proofs.SpellingLemmas.{stands_spells as cbor_stands_spells, spells_stands as cbor_spells_stands}
use Rattle.smithy_transcode.specs.Wires.{Wire, json, cbor, query, IsReadable}
use Rattle.smithy_transcode.specs.Spelling.{Spells, SpellsWithoutLimits}
use Rattle.smithy_transcode.specs.Causes.{openers}

-- the relations under which they are: those of CBOR stand for a form, which isn't
abbrev pub relations_of : Wire → Relations
relations_of (json use_json_name integral) = json_relations (wire_settings use_json_name integral)
relations_of _ = cbor_relations strict_cbor

-- the same with the limits lifted
abbrev pub lifted_of : Wire → Relations
lifted_of (json use_json_name integral) = json_relations (without_limits (wire_settings use_json_name integral))
lifted_of _ = cbor_relations (without_cbor_limits strict_cbor)

-- a value of the place stands at the start
abbrev pub StandsFirst : Relations → Table → ℕ → List ℕ → Value → Type 0
StandsFirst w t root i v = (e : ℕ) × w.stands i t (shape_place root) 0 0 v e

pub stands_is_spelled : (w : Wire) (t : Table) (root : ℕ) (i : List ℕ) (v : Value) → IsReadable w → IsStructure (kind_of t (shape_place root))
    → StandsFirst (relations_of w) t root i v → Spells w t root i v
stands_is_spelled (json b n) t root i v read kind h = stands_spells (wire_settings b n) t (shape_place root) i v h.0 (structure_is_container (kind_of t (shape_place root)) kind) h.1
stands_is_spelled (cbor told) t root i v read kind h = cbor_stands_spells strict_cbor t (shape_place root) i v h.0 h.1
stands_is_spelled (query action version) t root i v read kind h = absurd read

pub spelled_stands : (w : Wire) (t : Table) (root : ℕ) (i : List ℕ) (v : Value) → Spells w t root i v → StandsFirst (relations_of w) t root i v
spelled_stands (json b n) t root i v h = spells_stands (wire_settings b n) t (shape_place root) i v h
spelled_stands (cbor told) t root i v h = cbor_spells_stands strict_cbor t (shape_place root) i v h
spelled_stands (query action version) t root i v h = absurd h

pub spelled_stands_without_limits : (w : Wire) (t : Table) (root : ℕ) (i : List ℕ) (v : Value) → SpellsWithoutLimits w t root i v
    → StandsFirst (lifted_of w) t root i v
spelled_stands_without_limits (json b n) t root i v h = spells_stands (without_limits (wire_settings b n)) t (shape_place root) i v h
spelled_stands_without_limits (cbor told) t root i v h = cbor_spells_stands (without_cbor_limits strict_cbor) t (shape_place root) i v h
spelled_stands_without_limits (query action version) t root i v h = absurd h

-- an empty input spells the structure without members
pub empty_is_spelled : (w : Wire) (t : Table) (root : ℕ) → IsReadable w → IsStructure (kind_of t (shape_place root))
    → Spells w t root [] (structure no_member_values)
empty_is_spelled (json b n) t root read kind = inr (refl, kind, refl, refl)
empty_is_spelled (cbor told) t root read kind = inr (refl, kind, refl, refl)
empty_is_spelled (query action version) t root read kind = absurd read

-- what the relations count is what the bytes open
pub openers_are : (w : Wire) (i : List ℕ) → IsReadable w → (relations_of w).openers i ≡ openers w i
openers_are (json b n) i read = refl
openers_are (cbor told) i read = refl
openers_are (query action version) i read = absurd read
