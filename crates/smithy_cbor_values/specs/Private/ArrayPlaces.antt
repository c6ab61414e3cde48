-- The items of an array as a chain of places, and back.
use Rattle.std.specs.Prelude.{◌≤◌, ℕ, suc, length, List, Option, Some, None, slice_range, refl}
use Rattle.std.proofs.Common.{sym, arith, subst, inl, inr}
use Rattle.smithy_schema.specs.Reading.{Mark}
use Rattle.cbor_item.specs.Item.{array, Extent, definite, indefinite, Items, no_items, item, item_count}
use Rattle.cbor_item.specs.WellFormed.{IsEncodingOf, AreEncodingsOf, IsItemAt, break}
use Rattle.smithy_cbor.specs.Reading.{OpensAt}
use Rattle.smithy_cbor_values.specs.Standing.{mark_with, HasEntry, IsOver}
use Rattle.smithy_cbor_values.specs.Private.Slices.{nothing_between, empty_between, slices_join, slices_part}
use Rattle.smithy_cbor_values.specs.Private.ItemPlaces.{item_ahead}
use Rattle.smithy_cbor_values.specs.Private.FirstBytes.{byte_within}
use Rattle.smithy_cbor_values.specs.Private.ContainerBytes.{EndsAfter, ends_after_entry, entry_of_ends, inside_within, definite_bytes, indefinite_bytes, definite_framed, indefinite_framed}

-- from b on with a mark these items come, and then the array ends at e
abbrev pub ItemsLie : Items → Mark → List ℕ → ℕ → ℕ → Type 0
ItemsLie no_items m i b e = IsOver i b m e
ItemsLie (item x is) m i b e = (n : Mark) × (f : ℕ) × HasEntry i b m n × IsItemAt x i b f × ItemsLie is n i f e

-- items up to l, and then the end
abbrev RunsTo : Items → Mark → List ℕ → ℕ → ℕ → Type 0
RunsTo is m i b e =
    (l : ℕ) × (b ≤ l) × (l ≤ length i) × AreEncodingsOf is (slice_range i b l) × EndsAfter (item_count is) i m l e

-- ---- from places to bytes

items_run : (is : Items) (m : Mark) (i : List ℕ) (b e : ℕ) → b ≤ length i → ItemsLie is m i b e → RunsTo is m i b e
items_run no_items m i b e within h = (b, omega arith, within, nothing_between i b, h)
items_run (item x is) m i b e within (n, f, entry, at, lie) =
    let (l, on, in_input, encode, ends) = items_run is n i f e at.0 lie in
    let ahead = item_ahead x i b f at in (
      l,
      omega (arith, ahead, on),
      in_input,
      (slice_range i b f, slice_range i f l, at.1, encode, slices_join i b f l (omega (arith, ahead)) on in_input),
      ends_after_entry (item_count is) i b l e m n entry ends,
    )

run_array : (due : Option ℕ) (is : Items) (i : List ℕ) (a b l e : ℕ) → OpensAt 4 due i a b → b ≤ l → l ≤ length i → AreEncodingsOf is (slice_range i b l)
    → EndsAfter (item_count is) i (mark_with due) l e → (extent : Extent) × IsItemAt (array extent is) i a e
run_array due is i a b l e opens on within encode (inl h) =
    let head = subst (λ (u : Option ℕ). OpensAt 4 u i a b) h.0 opens in
    let whole : IsItemAt (array definite is) i a l = (within, (slice_range i b l, encode, definite_bytes 4 (item_count is) i a b l head on within)) in
    (definite, subst (λ (n : ℕ). IsItemAt (array definite is) i a n) (sym h.1) whole)
run_array due is i a b l e opens on within encode (inr h) =
    let head = subst (λ (u : Option ℕ). OpensAt 4 u i a b) h.0 opens in
    let whole : IsItemAt (array indefinite is) i a (suc l) =
    (omega (arith, byte_within break i l h.1), (slice_range i b l, encode, indefinite_bytes 4 i a b l head on h.1)) in
    (indefinite, subst (λ (n : ℕ). IsItemAt (array indefinite is) i a n) (sym h.2) whole)

-- an opening and items give an array
pub items_array : (due : Option ℕ) (is : Items) (i : List ℕ) (a b e : ℕ) → OpensAt 4 due i a b → ItemsLie is (mark_with due) i b e
    → (extent : Extent) × IsItemAt (array extent is) i a e
items_array due is i a b e opens lie =
    let (l, on, within, encode, ends) = items_run is (mark_with due) i b e (inside_within 4 due i a b opens) lie in
    run_array due is i a b l e opens on within encode ends

-- ---- and back

items_lie : (is : Items) (m : Mark) (i : List ℕ) (b l e : ℕ) → b ≤ l → l ≤ length i → AreEncodingsOf is (slice_range i b l)
    → EndsAfter (item_count is) i m l e → ItemsLie is m i b e
items_lie no_items m i b l e up within none ends =
    subst (λ (n : ℕ). EndsAfter 0 i m n e) (sym (empty_between i b l up within none)) ends
items_lie (item x is) m i b l e up within (first, more, encodes, encode, whole) ends =
    let part = slices_part first more i b l up within whole in
    let at : IsItemAt x i b part.middle =
    (omega (arith, part.on, within), subst (λ (s : List ℕ). IsEncodingOf x s) (sym part.first_is) encodes) in
    let next = entry_of_ends (item_count is) i b part.middle l e m x at ends in (
      next.0,
      part.middle,
      next.1,
      at,
      items_lie is next.0 i part.middle l e part.on within (subst (λ (s : List ℕ). AreEncodingsOf is s) (sym part.more_is) encode) next.2,
    )

-- an array gives its opening and its items
pub array_items : (extent : Extent) (is : Items) (i : List ℕ) (a e : ℕ) → IsItemAt (array extent is) i a e
    → (due : Option ℕ) × (b : ℕ) × OpensAt 4 due i a b × ItemsLie is (mark_with due) i b e
array_items definite is i a e h =
    let (body, encode, bytes) = h.1 in
    let ahead = item_ahead (array definite is) i a e h in
    let framed = definite_framed 4 (item_count is) body i a e (omega arith) (omega (arith, ahead)) h.0 bytes in (
      Some (item_count is),
      framed.inside,
      framed.opens,
      items_lie is (mark_with (Some (item_count is))) i framed.inside e e framed.on h.0
          (subst (λ (s : List ℕ). AreEncodingsOf is s) (sym framed.body_is) encode) (inl (refl, refl)),
    )
array_items indefinite is i a e h =
    let (body, encode, bytes) = h.1 in
    let ahead = item_ahead (array indefinite is) i a e h in
    let closed = indefinite_framed 4 body i a e (inl (omega arith, omega arith)) (omega (arith, ahead)) h.0 bytes in
    let framed = closed.framed in (
      None,
      framed.inside,
      framed.opens,
      items_lie is (mark_with None) i framed.inside closed.last e framed.on (omega (arith, closed.end, h.0))
          (subst (λ (s : List ℕ). AreEncodingsOf is s) (sym framed.body_is) encode) (inr (refl, closed.closed, closed.end)),
    )
