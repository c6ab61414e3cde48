-- What leaves its limits or isn't carried where a reader failed, as what the input says.
use Rattle.std.proofs.Common.{◌≡◌, ℕ, zero, suc, List, Bool, true, Option, Some, refl, sym, ◌∙◌, ap, subst, inl, inr}
use Rattle.smithy_declarations.specs.declared.place.Place.{Place}
use Rattle.smithy_declarations.specs.declared.shape_type.Scalar.{Scalar}
use Rattle.smithy_declarations.specs.declared.shape_type.Scalar.TheVariants.{Timestamp}
use Rattle.smithy_declarations.specs.declared.shape_type.TimestampFormat.{TimestampFormat}
use Rattle.smithy_declarations.specs.Table.{Table, Kind, scalar, document, kind_of, shape_place, IsStructure, IsInside}
use Rattle.smithy_schema.specs.Reading.{Cursor, depth, Exceeds, ExceedsInside, Uncarried, UncarriedInside}
use Rattle.smithy_json_values.specs.Standing.{json_frames, json_rules}
use Rattle.smithy_json_values.proofs.WideSlices.{wide_token, uncarried_token, other_token}
use Rattle.smithy_json_codec.specs.WireSettings.{wire_settings}
use Rattle.smithy_cbor_body.specs.Codec.{strict_settings as strict_cbor}
use Rattle.smithy_cbor_values.specs.Meaning.{rules_of as cbor_rules}
use Rattle.smithy_cbor_values.specs.Standing.{cbor_frames}
use Rattle.smithy_cbor_values.proofs.WideSlices.{wide_slice as cbor_wide_slice, uncarried_slice as cbor_uncarried_slice}
use Rattle.smithy_wire.specs.Frames.{UncarriedAt}
use Rattle.smithy_wire.specs.Rules.{Rules, wide}
use Rattle.smithy_wire.specs.Meaning.{IsTooWide}
use Rattle.smithy_transcode.specs.Wires.{Wire, json, cbor, query, IsReadable}
use Rattle.smithy_transcode.specs.Causes.{HasWide, HasOtherSeconds, HasUncarriedPart, IsChildPlace, HasTarget, IsWide, IsUncarried}
use Rattle.smithy_transcode.proofs.Spelled.{relations_of}
use Rattle.smithy_value.proofs.ReadWide.{Lying, StandsAs, StandsInside}

-- only a scalar leaves limits
too_wide_scalar : {L : Type 0} (r : Rules L) (k : Kind) (time : Option TimestampFormat) (x : L) → IsTooWide r k time x → (s : Scalar) × (k ≡ scalar s) × (r.says s time x ≡ wide)
too_wide_scalar r (scalar s) time x h = (s, refl, h)
too_wide_scalar r _ time x h = absurd h

-- the bytes have a big number that leaves the limits of the kind
abbrev Leaves : Wire → List ℕ → Kind → Type 0
Leaves w bytes k = (s : Scalar) × (k ≡ scalar s) × HasWide w s bytes

-- at a place: the scalar that stands there, and the slice
exceeds_slice : (w : Wire) (t : Table) (q : Place) (c : Cursor) → IsReadable w → Exceeds (relations_of w) c t q → Leaves w c.input (kind_of t q)
exceeds_slice (json b n) t q c read (e, (x, lies, leaves)) =
    let s = too_wide_scalar (json_rules (wire_settings b n)) (kind_of t q) q.time x leaves in
    (s.0, s.1, wide_token (wire_settings b n) s.0 q.time x c.input (depth c) c.at e lies s.2)
exceeds_slice (cbor told) t q c read (e, (x, lies, leaves)) =
    let s = too_wide_scalar (cbor_rules strict_cbor) (kind_of t q) q.time x leaves in
    (s.0, s.1, cbor_wide_slice s.0 q.time x c.input c.at e lies.1 s.2)
exceeds_slice (query action version) t q c read exceeds = absurd read

-- the bytes have what the kind can't carry: instants and documents alone don't carry all
abbrev HasOther : Wire → List ℕ → Kind → Type 0
HasOther w bytes (scalar s) = (s ≡ Timestamp) × HasOtherSeconds w bytes
HasOther w bytes document = HasUncarriedPart w bytes
HasOther w bytes _ = ⊥

json_other : (b n : Bool) (q : Place) (k : Kind) (i : List ℕ) (d a e : ℕ) → UncarriedAt json_frames (json_rules (wire_settings b n)) k q.time i d a e → HasOther (json b n) i k
json_other b n q (scalar s) i d a e (x, lies, other) = uncarried_token (wire_settings b n) s q.time x i d a e lies other
json_other b n q document i d a e h = let (deeper, c, x, ahead, lies, other) = h in other_token x i deeper c e lies other
json_other b n q _ i d a e (x, lies, other) = absurd other

cbor_other : (told : Bool) (q : Place) (k : Kind) (i : List ℕ) (d a e : ℕ) → UncarriedAt (cbor_frames true) (cbor_rules strict_cbor) k q.time i d a e → HasOther (cbor told) i k
cbor_other told q (scalar s) i d a e (x, lies, other) = cbor_uncarried_slice s q.time x i a e lies.1 other
cbor_other told q document i d a e h = tt
cbor_other told q _ i d a e (x, lies, other) = absurd other

uncarried_at : (w : Wire) (t : Table) (q : Place) (c : Cursor) → IsReadable w → Uncarried (relations_of w) c t q → HasOther w c.input (kind_of t q)
uncarried_at (json b n) t q c read (e, there) = json_other b n q (kind_of t q) c.input (depth c) c.at e there
uncarried_at (cbor told) t q c read (e, there) = cbor_other told q (kind_of t q) c.input (depth c) c.at e there
uncarried_at (query action version) t q c read other = absurd read

-- what lies inside of a place is the place of some member, element or map's value
inside_is_child : (t : Table) (p q : Place) (k : ℕ) → IsInside t p (suc k) q → IsChildPlace t q
inside_is_child t p q zero (child, n, is, same) = (p, n, is ∙ ap Some (sym same))
inside_is_child t p q (suc k) (child, n, is, inside) = inside_is_child t child q k inside

-- what stands inside of a structure stands where a target of the table is due
inside_has_target : (lies : Lying) (t : Table) (root : ℕ) (old new : Cursor) (Q : Kind → Type 0) → ((k : Kind) → Q k → IsStructure k → ⊥) → IsStructure (kind_of t (shape_place root))
    → ((q : Place) → StandsAs lies new t q → Q (kind_of t q)) → StandsInside lies old new t (shape_place root) → (k : Kind) × HasTarget t k × Q k
inside_has_target lies t root old new Q other kind found (q, zero, deeper, same, there) =
    absurd (other (kind_of t q) (found q there) (subst (λ p. IsStructure (kind_of t p)) (sym same) kind))
inside_has_target lies t root old new Q other kind found (q, suc k, deeper, inside, there) =
    (kind_of t q, (q, inside_is_child t (shape_place root) q k inside, refl), found q there)

pub inside_is_wide : (w : Wire) (t : Table) (root : ℕ) (old new : Cursor) → IsReadable w → IsStructure (kind_of t (shape_place root)) → ExceedsInside (relations_of w) old new t (shape_place root) → IsWide w t new.input
inside_is_wide w t root old new read kind inside =
    let k = inside_has_target (relations_of w).exceeds t root old new (Leaves w new.input) (λ k s is. subst IsStructure s.1 is) kind (λ q there. exceeds_slice w t q new read there) inside in
    (k.2.0, subst (HasTarget t) k.2.1 k.1, k.2.2)

no_structure : (w : Wire) (bytes : List ℕ) (k : Kind) → HasOther w bytes k → IsStructure k → ⊥
no_structure w bytes (scalar s) h is = is
no_structure w bytes document h is = is
no_structure w bytes _ h is = h

pub inside_is_uncarried : (w : Wire) (t : Table) (root : ℕ) (old new : Cursor) → IsReadable w → IsStructure (kind_of t (shape_place root)) → UncarriedInside (relations_of w) old new t (shape_place root) → IsUncarried w t new.input
inside_is_uncarried w t root old new read kind inside =
    let k = inside_has_target (relations_of w).uncarried t root old new (HasOther w new.input) (no_structure w new.input) kind (λ q there. uncarried_at w t q new read there) inside in
    by k.0 k.1 k.2
  where
    by : (k : Kind) → HasTarget t k → HasOther w new.input k → IsUncarried w t new.input
    by (scalar s) target h = inl (subst (λ x. HasTarget t (scalar x)) h.0 target, h.1)
    by document target h = inr (target, h)
    by _ target h = absurd h
