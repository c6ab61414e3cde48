-- What a reader finds at a place, as the contract of reading says it.
use Rattle.std.proofs.Common.{◌≡◌, ◌≤◌, ◌↔◌, ℕ, length, List, ◌∷◌, Bool, true, false, Option, Some, None, Result, Ok, Err, refl, sym, ◌∙◌, arith}
use Rattle.std.specs.Prelude.{IsTrue}
use Rattle.smithy_schema.specs.declared.error.SerdeError.{SerdeError}
use Rattle.smithy_schema.specs.declared.error.SerdeError.TheVariants.{Failed}
use Rattle.smithy_declarations.specs.declared.place.Place.{Place}
use Rattle.smithy_declarations.specs.Table.{Table, kind_of, IsList, IsMap, IsStructure}
use Rattle.smithy_schema.specs.Reading.{Cursor, depth, Mark, Steps, Leaves, Conducts, SkipsNot, CannotGoOn, in_list, in_map}
use Rattle.smithy_cbor_codec.specs.Cursor.{inside_of}
use Rattle.smithy_cbor_values.specs.Settings.{Settings}
use Rattle.smithy_cbor_values.specs.Standing.{FollowsInside, RestIsEmpty, HasEntry, IsOver, mark_with, end_mark, end_depth, cbor_relations}
use Rattle.smithy_cbor_codec.specs.Private.PassedEntries.{HasKey, PairMissing}
use Rattle.smithy_cbor_values.specs.Private.Skipping.{SkipsTo}
use Rattle.smithy_cbor_values.specs.Private.Entries.{same_over, entry_or_over}
use Rattle.smithy_cbor_values.specs.Private.ItemPlaces.{item_ahead, one_item}
use Rattle.smithy_cbor_codec.proofs.EntryLemmas.{entry_by_due, over_by_due, key_by_due}
use Rattle.smithy_cbor_codec.proofs.ReaderLemmas.{opens_empty, steps_in_list, closes_list, list_is_stuck, steps_in_map, closes_map, map_is_stuck}
use Rattle.smithy_cbor_codec.proofs.SkippedValues.{skips_are}
use Rattle.smithy_wire.specs.Walking.{gone_on_to}

-- ---- containers

-- where nothing is left a structure opens
pub empty_at : (o : Settings) (c : Cursor) (t : Table) (p : Place) → IsStructure (kind_of t p) → RestIsEmpty o.enforce_strictness c.input c.at
    → (cbor_relations o).opens c.input t p (depth c) c.at c.at end_mark
empty_at o c t p kind rest = opens_empty o c.input t p kind (depth c) c.at rest

-- what a test denies
pub not_missing : (missing : Bool) (A B : Type 0) → IsTrue missing ↔ A × B → missing ≡ false → A → B → ⊥
not_missing missing A B is denied a b = let told : missing ≡ true = is.1 (a, b) in cc

module _ (o : Settings) (c : Cursor) (t : Table) (p : Place) (kind : IsList (kind_of t p)) where
  -- the list went on to an element
  pub element_steps : (new : Cursor) (after : Option ℕ) → c.inner.within ≡ in_list → c.failed ≡ false → new ≡ gone_on_to c c.at (inside_of in_list after)
      → HasEntry c.input c.at (mark_with c.inner.mark.due) (mark_with after) → Steps (cbor_relations o) c new t p None
  element_steps new after within sound is entry = rw is (record {
    steps = steps_in_list o c.input t p kind (depth c) c.at c.inner.mark (mark_with after) (entry_by_due c.input c.at (mark_with c.inner.mark.due) c.inner.mark (mark_with after) refl entry);
    input = refl;
    within = sym within;
    outer = refl;
    due = refl;
    failed = sound;
  })

  -- it was left
  pub list_left : (new : Cursor) (e : ℕ) → new.input ≡ c.input → new.at ≡ e → c.outer ≡ new.inner ∷ new.outer → new.due ≡ false → new.failed ≡ c.failed → c.failed ≡ false
      → IsOver c.input c.at (mark_with c.inner.mark.due) e → FollowsInside o.enforce_strictness (depth c) c.input e → Leaves (cbor_relations o) c new t p
  list_left new e input place around undue failed sound over follows = record {
    closes = rw place (closes_list o c.input t p kind (depth c) c.at c.inner.mark e (over_by_due c.input c.at (mark_with c.inner.mark.due) c.inner.mark e refl over) follows);
    input = input;
    outer = around;
    due = undue;
    failed = failed ∙ sound;
  }

  -- neither an element comes nor the end
  pub list_stuck : ((n : Mark) → HasEntry c.input c.at (mark_with c.inner.mark.due) n → ⊥)
      → ((e : ℕ) → IsOver c.input c.at (mark_with c.inner.mark.due) e → FollowsInside o.enforce_strictness (depth c) c.input e → ⊥) → CannotGoOn (cbor_relations o) c t p
  list_stuck none shut =
      list_is_stuck o c.input t p kind (depth c) c.at c.inner.mark
      (λ n h. none n (entry_by_due c.input c.at c.inner.mark (mark_with c.inner.mark.due) n refl h))
      (λ e h follows. shut e (over_by_due c.input c.at c.inner.mark (mark_with c.inner.mark.due) e refl h) follows)

  -- nor where it is over and can't be left
  pub list_shut : (end : ℕ) → IsOver c.input c.at (mark_with c.inner.mark.due) end → (FollowsInside o.enforce_strictness (depth c) c.input end → ⊥) → CannotGoOn (cbor_relations o) c t p
  list_shut end over shut =
      list_stuck (λ n entry. entry_or_over c.input c.at (mark_with c.inner.mark.due) n end entry over)
      (λ e ends follows. shut (rw (same_over c.input c.at (mark_with c.inner.mark.due) end e over ends) follows))

module _ (o : Settings) (c : Cursor) (t : Table) (p : Place) (kind : IsMap (kind_of t p)) where
  -- the map went on to an entry
  pub entry_steps : (new : Cursor) (key : List ℕ) (value : ℕ) (after : Option ℕ) → c.inner.within ≡ in_map → c.failed ≡ false
      → new ≡ gone_on_to c value (inside_of in_map after)
      → HasKey c.input c.at (mark_with c.inner.mark.due) key value (mark_with after) → Steps (cbor_relations o) c new t p (Some key)
  entry_steps new key value after within sound is entry = rw is (record {
    steps = steps_in_map o c.input t p kind (depth c) c.at c.inner.mark key value (mark_with after) (key_by_due c.input c.at (mark_with c.inner.mark.due) c.inner.mark key value (mark_with after) refl entry);
    input = refl;
    within = sym within;
    outer = refl;
    due = refl;
    failed = sound;
  })

  -- it was left
  pub map_left : (new : Cursor) (e : ℕ) → new.input ≡ c.input → new.at ≡ e → c.outer ≡ new.inner ∷ new.outer → new.due ≡ false → new.failed ≡ c.failed → c.failed ≡ false
      → IsOver c.input c.at (mark_with c.inner.mark.due) e → FollowsInside o.enforce_strictness (depth c) c.input e → Leaves (cbor_relations o) c new t p
  map_left new e input place around undue failed sound over follows = record {
    closes = rw place (closes_map o c.input t p kind (depth c) c.at c.inner.mark e (over_by_due c.input c.at (mark_with c.inner.mark.due) c.inner.mark e refl over) follows);
    input = input;
    outer = around;
    due = undue;
    failed = failed ∙ sound;
  }

  -- neither a key comes nor the end
  pub map_stuck : PairMissing c.input c.at c.inner.mark.due → CannotGoOn (cbor_relations o) c t p
  map_stuck h =
      map_is_stuck o c.input t p kind (depth c) c.at c.inner.mark
      (λ s v n key. h.0 s v n (key_by_due c.input c.at c.inner.mark (mark_with c.inner.mark.due) s v n refl key))
      (λ e over follows. h.1 e (over_by_due c.input c.at c.inner.mark (mark_with c.inner.mark.due) e refl over))

  -- nor where it is over and can't be left
  pub map_shut : (end : ℕ) → IsOver c.input c.at (mark_with c.inner.mark.due) end → (FollowsInside o.enforce_strictness (depth c) c.input end → ⊥) → CannotGoOn (cbor_relations o) c t p
  map_shut end over shut =
      let here = over_by_due c.input c.at (mark_with c.inner.mark.due) c.inner.mark end refl over in
      map_is_stuck o c.input t p kind (depth c) c.at c.inner.mark
      (λ s v n key. entry_or_over c.input c.at c.inner.mark n end key.0 here)
      (λ e ends follows. shut (rw (same_over c.input c.at c.inner.mark end e here ends) follows))

-- where a reader may not leave a container, the container may not end
pub stays_inside : (may : Bool) (P : Type 0) → IsTrue may ↔ P → may ≡ false → P → ⊥
stays_inside may P is denied p = let told : may ≡ true = is.1 p in cc

-- ---- skipped values

-- an item that is skipped ends behind its place, and in the input
pub skip_place : (input : List ℕ) (at held e : ℕ) → SkipsTo input at held e → (at ≤ e) × (e ≤ length input)
skip_place input at held e h = let ahead = item_ahead h.found input at e h.stands in (omega arith, h.stands.0)

module _ (o : Settings) (c : Cursor) (held : ℕ) (same : held ≡ end_depth o.enforce_strictness (depth c)) where
  -- nothing can be skipped
  pub skips_not : ((e : ℕ) → SkipsTo c.input c.at held e → ⊥) → SkipsNot (cbor_relations o) c
  skips_not none e skips = none e (rw same ((skips_are o c.input (depth c) c.at e).1 skips))

  -- what was skipped is skipped there
  pub skips_here : (e : ℕ) → SkipsTo c.input c.at held e → (cbor_relations o).skips c.input (depth c) c.at e
  skips_here e h = (skips_are o c.input (depth c) c.at e).0 (rw same at h)

  -- what is skipped ends at one place
  pub skips_same : (end e : ℕ) → SkipsTo c.input c.at held end → (cbor_relations o).skips c.input (depth c) c.at e → end ≡ e
  skips_same end e h skips =
      let s = (skips_are o c.input (depth c) c.at e).1 skips in
      (one_item h.found s.found c.input c.at end e h.stands s.stands).1

-- ---- conduct

-- an answer of a reader that hadn't failed, and went on
pub goes_ahead : (A : Type 0) (old new : Cursor) (x : A) (at : ℕ) → old.failed ≡ false → new.at ≡ at → new.input ≡ old.input → old.at ≤ at → at ≤ length old.input
    → Conducts {A = A} old new (Ok x)
goes_ahead A old new x at sound place input ahead within = record {
  failed = (λ h. let no : ◌≡◌ {A = Result A SerdeError} (Ok x) (Err Failed) = h in cc, λ h. absurd (let both : true ≡ false = sym h ∙ sound in cc));
  stays = tt;
  reading = tt;
  ahead = rw place ahead;
  within = rw (place, input) within;
}
