-- What comes behind entries that are passed over.
use Rattle.std.proofs.Common.{◌≡◌, Bool, true, false, ℕ, zero, suc, List, Option, Some, None, ◌<◌, ◌≤◌, length, refl, arith, inl, inr}
use Rattle.std.specs.Prelude.{◌||◌, is_none}
use Rattle.smithy_schema.specs.Reading.{Mark}
use Rattle.smithy_declarations.specs.Table.{Kind, Member, members_of, position_named}
use Rattle.smithy_shapes.specs.Container.{is_type_mark}
use Rattle.smithy_cbor_codec.specs.declared.members.Next.{Next}
use Rattle.smithy_cbor_codec.specs.declared.members.Next.TheVariants.{Pair, End}
use Rattle.smithy_cbor_values.specs.Standing.{mark_with, null_byte, IsOver}
use Rattle.smithy_cbor_values.specs.Private.ItemPlaces.{item_ahead}
use Rattle.smithy_cbor_codec.specs.Private.PassedEntries.{passes_null, is_mark, HasKey, IsPassed, Passes, PassesTo, StepsToMember, ClosesMembers, IsKept, IsNext, EntryMissing, NothingComes}
use Rattle.smithy_cbor_values.specs.Private.FirstBytes.{byte_within}
use Rattle.smithy_cbor_codec.proofs.EntryLemmas.{key_ahead}

-- the end of a container isn't before its start, and in the input
pub over_place : (i : List ℕ) (d : ℕ) (m : Mark) (e : ℕ) → d ≤ length i → IsOver i d m e → (d ≤ e) × (e ≤ length i)
over_place i d m e within (inl (due, end)) = (omega (arith, end), omega (arith, end, within))
over_place i d m e within (inr (due, comes, end)) =
    let inside = byte_within _ i d comes in (omega (arith, end), omega (arith, end, inside))

-- a key whose null is handed on is no mark
pub unmarked : (drops_nulls : Bool) (kind : Kind) (key : List ℕ) → passes_null drops_nulls kind key ≡ false → is_mark kind key ≡ false
unmarked drops_nulls kind key = by drops_nulls (position_named (λ (m : Member). m.name) (members_of kind) key)
  where
    by : (drops_nulls : Bool) (n : Option ℕ) → (drops_nulls || is_none n) ≡ false → is_type_mark n key ≡ false
    by true n h = cc
    by false None h = cc
    by false (Some n) h = refl

module _ (drops_nulls : Bool) (kind : Kind) (input : List ℕ) (depth : ℕ) where
  -- one more at the end
  passes_one : (count : ℕ) (b : ℕ) (m : Mark) (c : ℕ) (n : Mark) (text : List ℕ) (v e : ℕ) (k : Mark) → Passes drops_nulls kind count input depth b m c n
      → HasKey input c n text v k → IsPassed drops_nulls kind input depth text v e → Passes drops_nulls kind (suc count) input depth b m e k
  passes_one zero b m c n text v e k h key passed = (text, v, e, k, rw (h.0, h.1) key, passed, (refl, refl))
  passes_one (suc count) b m c n text v e k h key passed =
      (h.0, h.1, h.2, h.3, h.4, h.5, passes_one count h.2 h.3 c n text v e k h.6 key passed)

  -- a value that is passed over ends further on in the input
  passed_ahead : (text : List ℕ) (c e : ℕ) → IsPassed drops_nulls kind input depth text c e → (c < e) × (e ≤ length input)
  passed_ahead text c e (inl (passes, null)) =
      let inside = byte_within null_byte input c null.0 in (omega (arith, null.1), omega (arith, inside, null.1))
  passed_ahead text c e (inr (is, skipped)) = (item_ahead skipped.found input c e skipped.stands, skipped.stands.0)

  -- and so does an entry
  pub pass_place : (at : ℕ) (due : Option ℕ) (e : ℕ) (after : Option ℕ) → PassesTo drops_nulls kind input at due depth e after → (at < e) × (e ≤ length input)
  pass_place at due e after h =
      let key = key_ahead input at (mark_with due) h.text h.value (mark_with after) h.key in
      let value = passed_ahead h.text h.value e h.passed in
      (omega (arith, key, value.0), value.1)

  passes_ahead : (count : ℕ) (b : ℕ) (m : Mark) (e : ℕ) (n : Mark) → Passes drops_nulls kind count input depth b m e n → b ≤ e
  passes_ahead zero b m e n h = omega (arith, h.0)
  passes_ahead (suc count) b m e n (text, c, f, k, key, passed, more) =
      omega (arith, key_ahead input b m text c k key, (passed_ahead text c f passed).0, passes_ahead count f k e n more)

  passes_within : (count : ℕ) (b : ℕ) (m : Mark) (e : ℕ) (n : Mark) → b ≤ length input → Passes drops_nulls kind count input depth b m e n → e ≤ length input
  passes_within zero b m e n within h = omega (arith, within, h.0)
  passes_within (suc count) b m e n within (text, c, f, k, key, passed, more) =
      passes_within count f k e n (passed_ahead text c f passed).1 more

  -- ---- the place of a member's value, and of an end

  pub value_place : (b : ℕ) (m : Mark) (text : List ℕ) (c : ℕ) (n : Mark) → StepsToMember drops_nulls kind input depth b m text c n → (b ≤ c) × (c ≤ length input)
  value_place b m text c n (count, at, k, passes, key, handed) =
      (omega (arith, passes_ahead count b m at k passes, key_ahead input at k text c n key), key.1.1.0)

  pub end_place : (b : ℕ) (m : Mark) (e : ℕ) → b ≤ length input → ClosesMembers drops_nulls kind input depth b m e → (b ≤ e) × (e ≤ length input)
  end_place b m e within (count, at, k, passes, over) =
      let end = over_place input at k e (passes_within count b m at k within passes) over in
      (omega (arith, passes_ahead count b m at k passes, end.0), end.1)

  module _ (at : ℕ) (due : Option ℕ) (count place : ℕ) (after : Option ℕ) (passes : Passes drops_nulls kind count input depth at (mark_with due) place (mark_with after)) where
    -- one more is passed over
    pub passed_one : (e : ℕ) (left : Option ℕ) → PassesTo drops_nulls kind input place after depth e left → (count : ℕ) × Passes drops_nulls kind count input depth at (mark_with due) e (mark_with left)
    passed_one e left h =
        (suc count, passes_one count at (mark_with due) place (mark_with after) h.text h.value e (mark_with left) passes h.key h.passed)

    pub kept : (next : Next) → IsKept drops_nulls kind input place after depth next → IsNext drops_nulls kind input at due depth next
    kept (Pair key c left) h = (count, place, mark_with after, passes, h.0, h.1)
    kept (End e) h = (count, place, mark_with after, passes, h)

    pub nothing_kept : EntryMissing kind input place after depth → NothingComes drops_nulls kind input at due depth
    nothing_kept h = record { count = count; place = place; after = after; passes = passes; missing = h }
