-- The canonical encoding of a value that CBOR holds spells the value, and what is spelled fits its place and is shallow.
use Rattle.std.proofs.Common.{◌≡◌, ◌≤◌, ◌<◌, ◌^◌, ◌∙◌, ℕ, List, [], ◌++◌, length, drop, Bool, true, false, refl, ap, arith, sym}
use Rattle.std.proofs.lemmas.List.{append-nil, drop_all}
use Rattle.smithy_declarations.specs.declared.place.Place.{Place}
use Rattle.smithy_declarations.specs.Table.{Table, Member, kind_of, shape_place}
use Rattle.smithy_shapes.specs.Accepted.{IsAccepted}
use Rattle.smithy_shapes.specs.Fits.{Fits}
use Rattle.smithy_shapes.specs.ScalarTest.{scalars_pass}
use Rattle.smithy_shapes.specs.Site.{whole_view, shape_site}
use Rattle.smithy_declarations.specs.Value.{Value, nesting}
use Rattle.smithy_cbor_body.specs.Canonical.{cbor_holds, canonical_cbor}
use Rattle.smithy_cbor_body.specs.Codec.{strict_settings}
use Rattle.smithy_cbor_values.specs.Laws.{rules_fit}
use Rattle.smithy_cbor_values.specs.Meaning.{rules_of}
use Rattle.smithy_cbor_values.specs.Settings.{Settings, kept}
use Rattle.smithy_cbor_values.specs.Spelling.{cbor_spells}
use Rattle.smithy_cbor_values.specs.Standing.{cbor_frames}
use Rattle.smithy_cbor_values.specs.Private.Wire.{cbor_is_wire}
use Rattle.smithy_wire.specs.Laws.{stands_fit}
use Rattle.smithy_wire.specs.Written.{written_node}
use Rattle.smithy_wire.specs.Writes.{Stand}
use Rattle.smithy_wire.proofs.AcceptedNames.{named_by_name}
use Rattle.smithy_wire.proofs.NestedMeaning.{stands_within_depth}
use Rattle.smithy_wire.proofs.ReadBack.{value_writable}
use Rattle.smithy_wire.proofs.WrittenMeaning.{node_means}
use Rattle.smithy_cbor_values.proofs.SpellingLemmas.{ends_as, spells_stands, stands_spells}
use Rattle.smithy_cbor_codec.proofs.WrittenBody.{value_lies}
use Rattle.smithy_cbor_body.proofs.WrittenLeaves.{cbor_leaves, cbor_reads_leaves, cbor_writes_leaves}
use Rattle.smithy_cbor_body.proofs.WrittenPlaces.{cbor_writes}

-- what is spelled is a value of the place
pub spelled_fits : (c : Settings) (t : Table) (p : Place) (bytes : List ℕ) (v : Value) → c.limits ≡ kept → cbor_spells c t p bytes v → Fits t p v
spelled_fits c t p bytes v keeps h = let s = spells_stands c t p bytes v h in (stands_fit (cbor_frames true) (rules_of c) (cbor_is_wire true) keeps (rules_fit true c)).fits bytes t p 0 0 v s.0 s.1

-- and nests no deeper than the greatest depth
pub shallow : (c : Settings) (t : Table) (p : Place) (bytes : List ℕ) (v : Value) → c.limits ≡ kept → cbor_spells c t p bytes v → nesting v ≤ c.max_depth
shallow c t p bytes v keeps h =
    let s = spells_stands c t p bytes v h in
    omega (arith, stands_within_depth (cbor_frames true) (rules_of c) keeps (rules_fit true c) bytes t p 0 0 v s.0 s.1)

-- the body of a declaration, where the value nests no deeper than may be read and a head can say its lengths
pub canonical_spells : (told : Bool) (t : Table) (root : ℕ) (v : Value) → IsAccepted t → Fits t (shape_place root) v → scalars_pass cbor_holds (shape_site t root) v ≡ true → nesting v ≤ 128
    → length (canonical_cbor told (shape_site t root) v) < 2 ^ 64 → cbor_spells strict_settings t (shape_place root) (canonical_cbor told (shape_site t root) v) v
canonical_spells told t root v accepted fits held deep short =
    let p = shape_place root in
    let i = canonical_cbor told (shape_site t root) v in
    let named = named_by_name t accepted in
    let name_of : Member → List ℕ = λ m. m.name in
    let none : drop (length i) i ≡ [] = drop_all (length i) i (omega arith) in
    let stand : Stand i i 0 (length i) = (sym (append-nil i) ∙ ap (λ r. i ++ r) (sym none), omega arith, omega arith) in
    let can = value_writable cbor_writes cbor_leaves cbor_writes_leaves (λ documents. cc) name_of t named v p whole_view false fits held in
    let written = value_lies told t i short v p whole_view false 0 0 (length i) fits can stand refl in
    stands_spells strict_settings t p i v (length i) (
      written_node cbor_leaves name_of t p v,
      written.lies,
      node_means cbor_leaves (rules_of strict_settings) (cbor_reads_leaves strict_settings) (λ documents. cc) t named p whole_view 0 v fits held (omega (arith, deep)),
      ends_as (kind_of t p) i 0 (length i) refl,
    )
