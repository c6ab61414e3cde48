-- Whole inputs: what spells a value is what stands at their start, up to their end.
use Rattle.std.proofs.Common.{◌≡◌, ◌↔◌, ℕ, List, length, true, Some, refl, sym, ap, ◌∙◌, arith, subst, inl, inr}
use Rattle.std.specs.List.{slice_range}
use Rattle.std.proofs.lemmas.List.{take_rest}
use Rattle.smithy_declarations.specs.declared.place.Place.{Place}
use Rattle.smithy_declarations.specs.Table.{Table, Kind, scalar, document, structure_of, union_of, list_of, map_of, nothing, kind_of, IsStructure}
use Rattle.smithy_declarations.specs.Value.{Value, structure, no_member_values}
use Rattle.smithy_shapes.specs.Lemmas.Options.{same_some, chosen}
use Rattle.smithy_schema.specs.Reading.{Relations}
use Rattle.cbor_item.specs.Item.{Item}
use Rattle.cbor_item.specs.WellFormed.{IsEncodingOf, IsItemAt}
use Rattle.cbor_item.proofs.FirstByte.{not_empty}
use Rattle.cbor_item.proofs.OneItem.{same_item}
use Rattle.smithy_cbor_values.specs.Settings.{Settings, is_shallow}
use Rattle.smithy_cbor_values.specs.Meaning.{node_of, rules_of, cbor_meaning}
use Rattle.smithy_cbor_values.specs.Spelling.{cbor_spells}
use Rattle.smithy_cbor_values.specs.Standing.{Follows, cbor_frames}
use Rattle.smithy_cbor_values.specs.Private.NodePlaces.{item_lies, lies_item, lies_full, all_there}
use Rattle.smithy_cbor_values.specs.Private.Wire.{nothing_left}
use Rattle.smithy_wire.specs.Node.{Node, null_node, leaf, container, missing}
use Rattle.smithy_wire.specs.Meaning.{missing_meaning, meaning}
use Rattle.smithy_wire.specs.Frames.{Lies, EndsAs, relations}
use Rattle.smithy_wire.specs.Wire.{no_value}
use Rattle.smithy_wire.specs.Lemmas.Nodes.{sort_of}

whole_range : (i : List ℕ) → slice_range i 0 (length i) ≡ i
whole_range i = take_rest i 0

-- an encoding stands at the start of its bytes, and ends at their end
pub encoding_stands : (x : Item) (i : List ℕ) → IsEncodingOf x i → IsItemAt x i 0 (length i)
encoding_stands x i h = (omega arith, subst (IsEncodingOf x) (sym (whole_range i)) h)

-- and back
pub standing_encodes : (x : Item) (i : List ℕ) (e : ℕ) → IsItemAt x i 0 e → e ≡ length i → IsEncodingOf x i
standing_encodes x i e h end =
    subst (IsEncodingOf x) (ap (slice_range i 0) end ∙ whole_range i) h.1

-- what is missing is a structure without members
missing_says : (k : Kind) → IsStructure k → missing_meaning k ≡ Some (structure no_member_values)
missing_says (scalar s) h = absurd h
missing_says document h = absurd h
missing_says (structure_of members) h = refl
missing_says (union_of members) h = absurd h
missing_says (list_of l) h = absurd h
missing_says (map_of m) h = absurd h
missing_says nothing h = absurd h

missing_is : (k : Kind) (v : Value) → missing_meaning k ≡ Some v → IsStructure k × (v ≡ structure no_member_values)
missing_is (scalar s) v h = cc
missing_is document v h = cc
missing_is (structure_of members) v h = (tt, sym (same_some (structure no_member_values) v h))
missing_is (union_of members) v h = cc
missing_is (list_of l) v h = cc
missing_is (map_of m) v h = cc
missing_is nothing v h = cc

-- a document ends where a value may
pub ends_as : (k : Kind) (i : List ℕ) (d e : ℕ) → Follows d i e → EndsAs (cbor_frames true) k i d e
ends_as document i d e follows = follows
ends_as _ i d e follows = tt

-- the relations of strict reading
abbrev pub strictly : Settings → Relations
strictly c = relations (cbor_frames true) (rules_of c)

-- what the input spells stands at its start
pub spells_stands : (c : Settings) (t : Table) (p : Place) (i : List ℕ) (v : Value) → cbor_spells c t p i v
    → (e : ℕ) × (strictly c).stands i t p 0 0 v e
spells_stands c t p i v (inl h) =
    (length i, (node_of h.0, item_lies true 0 h.0 i 0 (length i) (encoding_stands h.0 i h.1) refl, h.2, ends_as (kind_of t p) i 0 (length i) refl))
spells_stands c t p i v (inr h) =
    (0, (missing, ((sym (ap length h.0), λ strict. refl), refl), rw h.2 (missing_says (kind_of t p) h.1 ∙ ap Some (sym h.3)), ends_as (kind_of t p) i 0 0 (sym (ap length h.0))))

-- what stands at the start of the input is spelled by it
pub stands_spells : (c : Settings) (t : Table) (p : Place) (i : List ℕ) (v : Value) (e : ℕ)
    → (strictly c).stands i t p 0 0 v e → cbor_spells c t p i v
stands_spells c t p i v e (y, lies, means, ends) = of y lies means
  where
    there : (y : Node Item) → (sort_of y ≡ no_value → ⊥) → Lies (cbor_frames true) i 0 y 0 e → meaning (rules_of c) t p 0 y ≡ Some v → cbor_spells c t p i v
    there y is lies means =
        let x = lies_item true 0 y i 0 e (all_there 0 y i 0 e (lies_full 0 y i 0 e lies is) lies) lies in
        inl (x.0, standing_encodes x.0 i e x.1 x.2, ap (meaning (rules_of c) t p 0) x.3 ∙ means)

    of : (y : Node Item) → Lies (cbor_frames true) i 0 y 0 e → meaning (rules_of c) t p 0 y ≡ Some v → cbor_spells c t p i v
    of null_node lies means = there null_node (λ h. cc) lies means
    of (leaf x) lies means = there (leaf x) (λ h. cc) lies means
    of (container f xs) lies means = there (container f xs) (λ h. cc) lies means
    of missing lies means =
        let deep = chosen (is_shallow c 1) (missing_meaning (kind_of t p)) v means in
        let is = missing_is (kind_of t p) v deep.1 in
        inr (nothing_left i 0 lies.0.0, is.0, deep.0, is.1)

pub spells_is_stands : (c : Settings) (t : Table) (p : Place) (i : List ℕ) (v : Value)
    → cbor_spells c t p i v ↔ ((e : ℕ) × (strictly c).stands i t p 0 0 v e)
spells_is_stands c t p i v = (spells_stands c t p i v, λ h. stands_spells c t p i v h.0 h.1)

-- at most one value is spelled
pub one_spelled : (c : Settings) (t : Table) (p : Place) (i : List ℕ) (v u : Value)
    → cbor_spells c t p i v → cbor_spells c t p i u → v ≡ u
one_spelled c t p i v u (inl h) (inl k) =
    let same = same_item h.0 k.0 i h.1 k.1 in
    let one : Some v ≡ Some u = sym h.2 ∙ ap (cbor_meaning c t p 0) same ∙ k.2 in
    cc
one_spelled c t p i v u (inl h) (inr k) = absurd (not_empty h.0 (subst (IsEncodingOf h.0) k.0 h.1))
one_spelled c t p i v u (inr h) (inl k) = absurd (not_empty k.0 (subst (IsEncodingOf k.0) h.0 k.1))
one_spelled c t p i v u (inr h) (inr k) = h.3 ∙ sym k.3
