-- The keys and values of a map as a chain of places, and back.
use Rattle.std.specs.Prelude.{◌≤◌, ℕ, suc, length, List, ◌++◌, Option, Some, None, slice_range, refl}
use Rattle.std.proofs.Common.{sym, ◌∙◌, ap, arith, subst, inl, inr, append_assoc}
use Rattle.smithy_schema.specs.Reading.{Mark}
use Rattle.cbor_item.specs.Item.{map as map_item, Extent, definite, indefinite, Pairs, no_pairs, pair, pair_count}
use Rattle.cbor_item.specs.WellFormed.{IsEncodingOf, ArePairEncodingsOf, IsItemAt, break}
use Rattle.smithy_cbor.specs.Reading.{OpensAt}
use Rattle.smithy_cbor_values.specs.Standing.{mark_with, HasEntry, IsOver}
use Rattle.smithy_cbor_values.specs.Private.Slices.{nothing_between, empty_between, slices_join, slices_part}
use Rattle.smithy_cbor_values.specs.Private.ItemPlaces.{item_ahead}
use Rattle.smithy_cbor_values.specs.Private.FirstBytes.{byte_within}
use Rattle.smithy_cbor_values.specs.Private.ContainerBytes.{EndsAfter, ends_after_entry, entry_of_ends, inside_within, definite_bytes, indefinite_bytes, definite_framed, indefinite_framed}

-- from b on with a mark these keys and values come, and then the map ends at e
abbrev pub PairsLie : Pairs → Mark → List ℕ → ℕ → ℕ → Type 0
PairsLie no_pairs m i b e = IsOver i b m e
PairsLie (pair k v ps) m i b e =
    (n : Mark) × (c f : ℕ) × HasEntry i b m n × IsItemAt k i b c × IsItemAt v i c f × PairsLie ps n i f e

-- keys and values up to l, and then the end
abbrev RunsTo : Pairs → Mark → List ℕ → ℕ → ℕ → Type 0
RunsTo ps m i b e =
    (l : ℕ) × (b ≤ l) × (l ≤ length i) × ArePairEncodingsOf ps (slice_range i b l) × EndsAfter (pair_count ps) i m l e

-- ---- from places to bytes

pairs_run : (ps : Pairs) (m : Mark) (i : List ℕ) (b e : ℕ) → b ≤ length i → PairsLie ps m i b e → RunsTo ps m i b e
pairs_run no_pairs m i b e within h = (b, omega arith, within, nothing_between i b, h)
pairs_run (pair k v ps) m i b e within (n, c, f, entry, key, value, lie) =
    let (l, on, in_input, encode, ends) = pairs_run ps n i f e value.0 lie in
    let behind_key = item_ahead k i b c key in
    let behind_value = item_ahead v i c f value in
    let values = slices_join i c f l (omega (arith, behind_value)) on in_input in
    let all = slices_join i b c l (omega (arith, behind_key)) (omega (arith, behind_value, on)) in_input in (
      l,
      omega (arith, behind_key, behind_value, on),
      in_input,
      (
        slice_range i b c,
        slice_range i c f,
        slice_range i f l,
        key.1,
        value.1,
        encode,
        all ∙ ap (λ s. slice_range i b c ++ s) values ∙ sym (append_assoc (slice_range i b c) (slice_range i c f) (slice_range i f l)),
      ),
      ends_after_entry (pair_count ps) i b l e m n entry ends,
    )

run_map : (due : Option ℕ) (ps : Pairs) (i : List ℕ) (a b l e : ℕ) → OpensAt 5 due i a b → b ≤ l → l ≤ length i → ArePairEncodingsOf ps (slice_range i b l)
    → EndsAfter (pair_count ps) i (mark_with due) l e → (extent : Extent) × IsItemAt (map_item extent ps) i a e
run_map due ps i a b l e opens on within encode (inl h) =
    let head = subst (λ (u : Option ℕ). OpensAt 5 u i a b) h.0 opens in
    let whole : IsItemAt (map_item definite ps) i a l = (within, (slice_range i b l, encode, definite_bytes 5 (pair_count ps) i a b l head on within)) in
    (definite, subst (λ (n : ℕ). IsItemAt (map_item definite ps) i a n) (sym h.1) whole)
run_map due ps i a b l e opens on within encode (inr h) =
    let head = subst (λ (u : Option ℕ). OpensAt 5 u i a b) h.0 opens in
    let whole : IsItemAt (map_item indefinite ps) i a (suc l) =
    (omega (arith, byte_within break i l h.1), (slice_range i b l, encode, indefinite_bytes 5 i a b l head on h.1)) in
    (indefinite, subst (λ (n : ℕ). IsItemAt (map_item indefinite ps) i a n) (sym h.2) whole)

-- an opening, keys and values give a map
pub pairs_map : (due : Option ℕ) (ps : Pairs) (i : List ℕ) (a b e : ℕ) → OpensAt 5 due i a b → PairsLie ps (mark_with due) i b e
    → (extent : Extent) × IsItemAt (map_item extent ps) i a e
pairs_map due ps i a b e opens lie =
    let (l, on, within, encode, ends) = pairs_run ps (mark_with due) i b e (inside_within 5 due i a b opens) lie in
    run_map due ps i a b l e opens on within encode ends

-- ---- and back

pairs_lie : (ps : Pairs) (m : Mark) (i : List ℕ) (b l e : ℕ) → b ≤ l → l ≤ length i → ArePairEncodingsOf ps (slice_range i b l)
    → EndsAfter (pair_count ps) i m l e → PairsLie ps m i b e
pairs_lie no_pairs m i b l e up within none ends =
    subst (λ (n : ℕ). EndsAfter 0 i m n e) (sym (empty_between i b l up within none)) ends
pairs_lie (pair k v ps) m i b l e up within (key, value, more, key_encodes, value_encodes, encode, whole) ends =
    let first = slices_part key (value ++ more) i b l up within (whole ∙ append_assoc key value more) in
    let second = slices_part value more i first.middle l first.on within first.more_is in
    let key_at : IsItemAt k i b first.middle =
    (omega (arith, first.on, within), subst (λ (s : List ℕ). IsEncodingOf k s) (sym first.first_is) key_encodes) in
    let value_at : IsItemAt v i first.middle second.middle =
    (omega (arith, second.on, within), subst (λ (s : List ℕ). IsEncodingOf v s) (sym second.first_is) value_encodes) in
    let next = entry_of_ends (pair_count ps) i b first.middle l e m k key_at ends in (
      next.0,
      first.middle,
      second.middle,
      next.1,
      key_at,
      value_at,
      pairs_lie ps next.0 i second.middle l e second.on within (subst (λ (s : List ℕ). ArePairEncodingsOf ps s) (sym second.more_is) encode) next.2,
    )

-- a map gives its opening, its keys and its values
pub map_pairs : (extent : Extent) (ps : Pairs) (i : List ℕ) (a e : ℕ) → IsItemAt (map_item extent ps) i a e
    → (due : Option ℕ) × (b : ℕ) × OpensAt 5 due i a b × PairsLie ps (mark_with due) i b e
map_pairs definite ps i a e h =
    let (body, encode, bytes) = h.1 in
    let ahead = item_ahead (map_item definite ps) i a e h in
    let framed = definite_framed 5 (pair_count ps) body i a e (omega arith) (omega (arith, ahead)) h.0 bytes in (
      Some (pair_count ps),
      framed.inside,
      framed.opens,
      pairs_lie ps (mark_with (Some (pair_count ps))) i framed.inside e e framed.on h.0
          (subst (λ (s : List ℕ). ArePairEncodingsOf ps s) (sym framed.body_is) encode) (inl (refl, refl)),
    )
map_pairs indefinite ps i a e h =
    let (body, encode, bytes) = h.1 in
    let ahead = item_ahead (map_item indefinite ps) i a e h in
    let closed = indefinite_framed 5 body i a e (inl (omega arith, omega arith)) (omega (arith, ahead)) h.0 bytes in
    let framed = closed.framed in (
      None,
      framed.inside,
      framed.opens,
      pairs_lie ps (mark_with None) i framed.inside closed.last e framed.on (omega (arith, closed.end, h.0))
          (subst (λ (s : List ℕ). ArePairEncodingsOf ps s) (sym framed.body_is) encode) (inr (refl, closed.closed, closed.end)),
    )
