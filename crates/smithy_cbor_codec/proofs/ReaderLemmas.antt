-- What a reader finds in an input, as a relation of reading, and what it doesn't find.
use Rattle.std.proofs.Common.{◌≡◌, ◌⊎◌, ◌<◌, ℕ, zero, suc, List, [], ◌∷◌, Option, Some, None, Bool, true, false, refl, sym, ◌∙◌, ap, subst, inl, inr}
use Rattle.std.proofs.lemmas.List.Quantifiers.{position-Some}
use Rattle.std.proofs.lemmas.Option.{slice_get-get_or}
use Rattle.std.specs.Prelude.{option_and_then, ◌&&◌, ◌||◌, not, is_some, is_none, bytes_eq}
use Rattle.smithy_declarations.specs.declared.place.Place.{Place}
use Rattle.smithy_declarations.specs.Table.{Table, Kind, Member, structure_of, union_of, kind_of, member_place, position_named, IsList, IsMap, IsStructure, HasMembers}
use Rattle.smithy_schema.specs.Reading.{Mark}
use Rattle.smithy_shapes.specs.Lemmas.Kinds.{no_list_and_structure}
use Rattle.cbor_item.specs.Item.{Item, simple}
use Rattle.cbor_item.specs.WellFormed.{IsItemAt}
use Rattle.smithy_cbor_values.specs.Settings.{Settings}
use Rattle.smithy_cbor.specs.Scalar.{null_value, text_of}
use Rattle.smithy_cbor_values.specs.Meaning.{rules_of}
use Rattle.smithy_cbor.specs.Reading.{OpensAt}
use Rattle.smithy_cbor_values.specs.Standing.{FollowsInside, RestIsEmpty, HasEntry, IsOver, mark_with, end_mark, end_depth, frames_of, cbor_relations}
use Rattle.smithy_cbor_values.specs.Private.Entries.{entry_or_over, same_over}
use Rattle.smithy_cbor_values.specs.Private.FirstBytes.{null_there}
use Rattle.smithy_cbor_codec.specs.Private.PassedEntries.{HasKey, IsPassed, Passes, StepsToMember, ClosesMembers, EntryMissing, passes_null, is_mark as mark_in_cbor}
use Rattle.smithy_cbor_values.specs.Private.ScalarAtPlace.{IsNullAt}
use Rattle.smithy_cbor_values.specs.Private.Skipping.{SkipsTo}
use Rattle.smithy_cbor_values.specs.Private.Wire.{wire_of}
use Rattle.smithy_cbor_codec.proofs.EntryLemmas.{over_by_due, key_by_due, one_key}
use Rattle.smithy_cbor_codec.proofs.SkippedValues.{skips_are}
use Rattle.smithy_wire.specs.Node.{as_array, as_object}
use Rattle.smithy_wire.specs.Frames.{IsTold, Drops, DropsAll}
use Rattle.smithy_wire.specs.Rules.{is_mark, key_text, position_in, drops_null}
use Rattle.smithy_wire.specs.Readers.{opens_not, cannot_go_on}
use Rattle.smithy_wire.specs.Entries.{drop_is, mark_is_dropped, null_is_dropped, step_to_entry, close_at_end, list_drops_nothing, step_to_element, close_list, map_drops_nothing, step_to_key, close_map}
use Rattle.smithy_wire.specs.Lemmas.Places.{members_are_object, list_is_array, map_is_object}

-- ---- a list at a place

module _ (o : Settings) (i : List ℕ) (t : Table) (p : Place) (kind : IsList (kind_of t p)) (d : ℕ) where
  -- where an array's head stands, a list opens
  pub opens_list : (a b : ℕ) (due : Option ℕ) → OpensAt 4 due i a b → (cbor_relations o).opens i t p d a b (mark_with due)
  opens_list a b due h = inl (as_array, list_is_array (kind_of t p) kind, (due, refl, h))

  -- and where none stands, no list does
  pub opens_no_list : (a : ℕ) → ((due : Option ℕ) (b : ℕ) → OpensAt 4 due i a b → ⊥) → (b : ℕ) (m : Mark) → (cbor_relations o).opens i t p d a b m → ⊥
  opens_no_list a none =
      opens_not (frames_of o) (rules_of o) i t p (wire_of o) as_array (list_is_array (kind_of t p) kind) d a (λ b m h. none h.0 b h.2)
      (λ is e over. no_list_and_structure (kind_of t p) kind is)

  -- an entry is a step
  pub steps_in_list : (b : ℕ) (m n : Mark) → HasEntry i b m n → (cbor_relations o).steps i t p d b m None b n
  steps_in_list b m n h = step_to_element (frames_of o) (rules_of o) i t p d kind b m None b n (refl, refl, h)

  -- where all that were announced have come, or a break comes, it ends
  pub closes_list : (b : ℕ) (m : Mark) (e : ℕ) → IsOver i b m e → FollowsInside o.enforce_strictness d i e → (cbor_relations o).closes i t p d b m e
  closes_list b m e h follows = close_list (frames_of o) (rules_of o) i t p d kind b m e h follows

  -- where neither an entry nor the end comes, it can't go on
  pub list_is_stuck : (b : ℕ) (m : Mark) → ((n : Mark) → HasEntry i b m n → ⊥) → ((e : ℕ) → IsOver i b m e → FollowsInside o.enforce_strictness d i e → ⊥)
      → ((key : Option (List ℕ)) (c : ℕ) (n : Mark) → (cbor_relations o).steps i t p d b m key c n → ⊥)
      × ((e : ℕ) → (cbor_relations o).closes i t p d b m e → ⊥)
  list_is_stuck b m none shut =
      cannot_go_on (frames_of o) (rules_of o) i t p (wire_of o) as_array (list_is_array (kind_of t p) kind) d 0 b m b m (refl, refl)
      (λ key c n entry told unmarked stays. none n entry.2) (list_drops_nothing (frames_of o) (rules_of o) i t p d kind as_array b m) shut
      (λ is at_end e over some. no_list_and_structure (kind_of t p) kind is)

-- ---- a map at a place

-- a key that is told is a text
told_text : (key : Option (List ℕ)) → IsTold as_object key → (s : List ℕ) × (key ≡ Some s)
told_text None h = absurd h
told_text (Some s) h = (s, refl)

told_as : (key : Option (List ℕ)) (s : List ℕ) → key ≡ Some s → IsTold as_object key
told_as key s h = rw h tt

no_map_and_structure : (k : Kind) → IsMap k → IsStructure k → ⊥
no_map_and_structure (structure_of members) h l = h
no_map_and_structure _ h l = l

-- an entry of a map whose key is told has a key that is a text
told_key : (o : Settings) (i : List ℕ) (b : ℕ) (m : Mark) (key : Option Item) (c : ℕ) (n : Mark) → (frames_of o).entry as_object i b m key c n
    → IsTold as_object (key_text (rules_of o) as_object key) → (s : List ℕ) × HasKey i b m s c n × (key_text (rules_of o) as_object key ≡ Some s)
told_key o i b m key c n (next, (k, there, is)) told =
    let s = told_text (text_of k) (subst (λ (x : Option Item). IsTold as_object (option_and_then text_of x)) is told) in
    (s.0, (next, (k, there, s.1)), ap (option_and_then text_of) is ∙ s.1)

module _ (o : Settings) (i : List ℕ) (t : Table) (p : Place) (kind : IsMap (kind_of t p)) (d : ℕ) where
  -- where a map's head stands, a map opens
  pub opens_map : (a b : ℕ) (due : Option ℕ) → OpensAt 5 due i a b → (cbor_relations o).opens i t p d a b (mark_with due)
  opens_map a b due h = inl (as_object, map_is_object (kind_of t p) kind, (due, refl, h))

  -- and where none stands, no map does
  pub opens_no_map : (a : ℕ) → ((due : Option ℕ) (b : ℕ) → OpensAt 5 due i a b → ⊥) → (b : ℕ) (m : Mark) → (cbor_relations o).opens i t p d a b m → ⊥
  opens_no_map a none =
      opens_not (frames_of o) (rules_of o) i t p (wire_of o) as_object (map_is_object (kind_of t p) kind) d a (λ b m h. none h.0 b h.2)
      (λ is e over. no_map_and_structure (kind_of t p) kind is)

  -- an entry whose key is a text is a step
  pub steps_in_map : (b : ℕ) (m : Mark) (s : List ℕ) (c : ℕ) (n : Mark) → HasKey i b m s c n → (cbor_relations o).steps i t p d b m (Some s) c n
  steps_in_map b m s c n (entry, (k, there, is)) =
      step_to_key (frames_of o) (rules_of o) i t p d kind b m (Some k) (Some s) c n (entry, (k, there, refl)) is tt

  -- where all that were announced have come, or a break comes, it ends
  pub closes_map : (b : ℕ) (m : Mark) (e : ℕ) → IsOver i b m e → FollowsInside o.enforce_strictness d i e → (cbor_relations o).closes i t p d b m e
  closes_map b m e h follows = close_map (frames_of o) (rules_of o) i t p d kind b m e h follows

  -- where neither such a key nor the end comes, it can't go on
  pub map_is_stuck : (b : ℕ) (m : Mark) → ((s : List ℕ) (c : ℕ) (n : Mark) → HasKey i b m s c n → ⊥) → ((e : ℕ) → IsOver i b m e → FollowsInside o.enforce_strictness d i e → ⊥)
      → ((key : Option (List ℕ)) (c : ℕ) (n : Mark) → (cbor_relations o).steps i t p d b m key c n → ⊥)
      × ((e : ℕ) → (cbor_relations o).closes i t p d b m e → ⊥)
  map_is_stuck b m none shut =
      cannot_go_on (frames_of o) (rules_of o) i t p (wire_of o) as_object (map_is_object (kind_of t p) kind) d 0 b m b m (refl, refl)
      (λ key c n entry told unmarked stays. let k = told_key o i b m key c n entry told in none k.0 c n k.1)
      (map_drops_nothing (frames_of o) (rules_of o) i t p d kind as_object b m) shut
      (λ is at_end e over some. no_map_and_structure (kind_of t p) kind is)

-- ---- a structure or a union at a place

-- a key that is a mark as it is read is one under the rules
mark_is : (o : Settings) (k : Kind) → HasMembers k → (key : List ℕ) → mark_in_cbor k key ≡ is_mark (rules_of o) k (Some key)
mark_is o (structure_of members) h key = refl
mark_is o (union_of members) h key = refl
mark_is o _ h key = absurd h

-- the member at a position has a place
placed : (members : List Member) (key : List ℕ) (n : ℕ) → position_named (λ m. m.name) members key ≡ Some n → is_some (member_place members (Some n)) ≡ true
placed [] key n is = cc
placed (m ∷ ms) key n is =
    let there = position-Some (λ (x : Member). bytes_eq x.name key) (m ∷ ms) n m is in
    rw (slice_get-get_or (m ∷ ms) n m there.0) refl

-- a null that is passed over as it is read is dropped under the rules
passes_in : (dispatched : Bool) (members : List Member) (key : List ℕ)
    → (not dispatched || is_none (position_named (λ m. m.name) members key)) ≡ not (dispatched && is_some (member_place members (position_named (λ m. m.name) members key)))
passes_in false members key = refl
passes_in true members key = by (position_named (λ m. m.name) members key) refl
  where
    by : (n : Option ℕ) → position_named (λ m. m.name) members key ≡ n → is_none n ≡ not (is_some (member_place members n))
    by None is = refl
    by (Some n) is = sym (ap not (placed members key n is))

null_passes : (o : Settings) (k : Kind) → HasMembers k → (key : List ℕ) → passes_null (not o.dispatch_null_members) k key ≡ drops_null (rules_of o) k (position_in (rules_of o) k (Some key))
null_passes o (structure_of members) h key = passes_in o.dispatch_null_members members key
null_passes o (union_of members) h key = passes_in o.dispatch_null_members members key
null_passes o _ h key = absurd h

module _ (o : Settings) (i : List ℕ) (t : Table) (p : Place) (kind : HasMembers (kind_of t p)) (d : ℕ) where
  -- where a map's head stands, it opens
  pub opens_members : (a b : ℕ) (due : Option ℕ) → OpensAt 5 due i a b → (cbor_relations o).opens i t p d a b (mark_with due)
  opens_members a b due h = inl (as_object, members_are_object (kind_of t p) kind, (due, refl, h))

  -- elsewhere it doesn't, unless it is a structure and nothing is left
  pub opens_no_members : (a : ℕ) → ((due : Option ℕ) (b : ℕ) → OpensAt 5 due i a b → ⊥) → (IsStructure (kind_of t p) → RestIsEmpty o.enforce_strictness i a → ⊥)
      → (b : ℕ) (m : Mark) → (cbor_relations o).opens i t p d a b m → ⊥
  opens_no_members a none full =
      opens_not (frames_of o) (rules_of o) i t p (wire_of o) as_object (members_are_object (kind_of t p) kind) d a (λ b m h. none h.0 b h.2)
      (λ is e over. full is over.0)

  one_passes : (b : ℕ) (m : Mark) (s : List ℕ) (c f : ℕ) (n : Mark) → HasKey i b m s c n → IsPassed (not o.dispatch_null_members) (kind_of t p) i (end_depth o.enforce_strictness d) s c f
      → Drops (frames_of o) (rules_of o) (kind_of t p) as_object i d b m f n
  one_passes b m s c f n (entry, (k, there, is)) (inl (passes, null)) =
      null_is_dropped (frames_of o) (rules_of o) i t p d kind b m (Some k) c n f (entry, (k, there, refl)) (told_as (text_of k) s is)
      (ap (λ x. drops_null (rules_of o) (kind_of t p) (position_in (rules_of o) (kind_of t p) x)) is ∙ (sym (null_passes o (kind_of t p) kind s) ∙ passes)) null
  one_passes b m s c f n (entry, (k, there, is)) (inr (mark, skipped)) =
      mark_is_dropped (frames_of o) (rules_of o) i t p d as_object b m (Some k) c n f (entry, (k, there, refl)) (told_as (text_of k) s is)
      (ap (is_mark (rules_of o) (kind_of t p)) is ∙ (sym (mark_is o (kind_of t p) kind s) ∙ mark)) ((skips_are o i d c f).0 skipped)

  -- what is passed over is dropped
  drops_all : (count b : ℕ) (m k : Mark) (e : ℕ) (n : Mark) → m.due ≡ k.due → Passes (not o.dispatch_null_members) (kind_of t p) count i (end_depth o.enforce_strictness d) b m e n
      → (j : Mark) × (n.due ≡ j.due) × DropsAll (frames_of o) (rules_of o) (kind_of t p) as_object count i d b k e j
  drops_all zero b m k e n same h = (k, ap (λ (x : Mark). x.due) (sym h.1) ∙ same, (h.0, refl))
  drops_all (suc count) b m k e n same (s, c, f, l, key, passed, more) =
      let rest = drops_all count f l l e n refl more in
      (rest.0, rest.1, (f, l, one_passes b k s c f l (key_by_due i b m k s c l same key) passed, rest.2))

  -- behind what is passed over comes an entry that is handed on
  pub steps_to_member : (b : ℕ) (m : Mark) (s : List ℕ) (c : ℕ) (n : Mark) → StepsToMember (not o.dispatch_null_members) (kind_of t p) i (end_depth o.enforce_strictness d) b (mark_with m.due) s c n
      → (cbor_relations o).steps i t p d b m (Some s) c n
  steps_to_member b m s c n (count, at, k, passes, key, (unmarked, real)) =
      let (j, same, all) = drops_all count b (mark_with m.due) m at k refl passes in
      let here = key_by_due i at k j s c n same key in
      step_to_entry (frames_of o) (rules_of o) i t p d kind count b m at j (Some here.1.0) (Some s) c n all (here.0, (here.1.0, here.1.1, refl)) here.1.2 tt
      (sym (mark_is o (kind_of t p) kind s) ∙ unmarked) (λ e null. sym (null_passes o (kind_of t p) kind s) ∙ real e null)

  -- or it ends
  pub closes_members : (b : ℕ) (m : Mark) (e : ℕ) → ClosesMembers (not o.dispatch_null_members) (kind_of t p) i (end_depth o.enforce_strictness d) b (mark_with m.due) e → FollowsInside o.enforce_strictness d i e
      → (cbor_relations o).closes i t p d b m e
  closes_members b m e (count, at, k, passes, over) follows =
      let (j, same, all) = drops_all count b (mark_with m.due) m at k refl passes in
      close_at_end (frames_of o) (rules_of o) i t p d kind count b m at j e all (over_by_due i at k j e same over) follows

  -- a null is skipped, too
  null_skips : (c e : ℕ) → IsNullAt i c (end_depth o.enforce_strictness d) e → SkipsTo i c (end_depth o.enforce_strictness d) e
  null_skips c e (begins, end, follows) =
      record { found = simple null_value; stands = subst (IsItemAt (simple null_value) i c) (sym end) (null_there i c begins); follows = follows }

  module _ (at : ℕ) (j : Mark) (due : Option ℕ) (same : due ≡ j.due) where
    at_due : (s : List ℕ) (c : ℕ) (n : Mark) → HasKey i at j s c n → HasKey i at (mark_with due) s c n
    at_due s c n h = key_by_due i at j (mark_with due) s c n (sym same) h

    -- where no entry is, none comes that is told and handed on
    no_entry_told : EntryMissing (kind_of t p) i at due (end_depth o.enforce_strictness d) → (key : Option Item) (c : ℕ) (n : Mark) → (frames_of o).entry as_object i at j key c n
        → IsTold as_object (key_text (rules_of o) as_object key) → is_mark (rules_of o) (kind_of t p) (key_text (rules_of o) as_object key) ≡ false → ⊥
    no_entry_told (inl missing) key c n entry told unmarked =
        let k = told_key o i at j key c n entry told in missing.0 k.0 c n (at_due k.0 c n k.1)
    no_entry_told (inr mark) key c n entry told unmarked =
        let k = told_key o i at j key c n entry told in
        let text = one_key i at (mark_with due) k.0 mark.text c mark.value n mark.after (at_due k.0 c n k.1) mark.key in
        let clash : true ≡ false =
        sym mark.is_mark ∙ (mark_is o (kind_of t p) kind mark.text ∙ (ap (λ s. is_mark (rules_of o) (kind_of t p) (Some s)) (sym text.0) ∙ (ap (is_mark (rules_of o) (kind_of t p)) (sym k.2) ∙ unmarked))) in
        cc

    -- nor one that is dropped
    no_entry_dropped : EntryMissing (kind_of t p) i at due (end_depth o.enforce_strictness d) → (e : ℕ) (n : Mark) → Drops (frames_of o) (rules_of o) (kind_of t p) as_object i d at j e n → ⊥
    no_entry_dropped (inl missing) e n drop =
        let k = told_key o i at j drop.key drop.at n drop.entry drop.told in missing.0 k.0 drop.at n (at_due k.0 drop.at n k.1)
    no_entry_dropped (inr mark) e n drop =
        let k = told_key o i at j drop.key drop.at n drop.entry drop.told in
        let place = one_key i at (mark_with due) k.0 mark.text drop.at mark.value n mark.after (at_due k.0 drop.at n k.1) mark.key in
        mark.stays e (subst (λ c. SkipsTo i c (end_depth o.enforce_strictness d) e) place.1 (skips (drop_is (frames_of o) (rules_of o) i t p d as_object at j e n drop)))
      where
        skips : (frames_of o).null i d drop.at e ⊎ ((is_mark (rules_of o) (kind_of t p) (key_text (rules_of o) as_object drop.key) ≡ true) × (cbor_relations o).skips i d drop.at e)
            → SkipsTo i drop.at (end_depth o.enforce_strictness d) e
        skips (inl null) = null_skips drop.at e null
        skips (inr (is, skipped)) = (skips_are o i d drop.at e).1 skipped

    -- nor the end
    no_entry_ends : EntryMissing (kind_of t p) i at due (end_depth o.enforce_strictness d) → (e : ℕ) → IsOver i at j e → FollowsInside o.enforce_strictness d i e → ⊥
    no_entry_ends (inl missing) e over follows = missing.1 e (over_by_due i at j (mark_with due) e (sym same) over)
    no_entry_ends (inr mark) e over follows =
        entry_or_over i at (mark_with due) mark.after e mark.key.0 (over_by_due i at j (mark_with due) e (sym same) over)

  -- where behind what is passed over neither such an entry nor the end comes, it can't go on
  pub members_are_stuck : (count b : ℕ) (m : Mark) (at : ℕ) (after : Option ℕ) → Passes (not o.dispatch_null_members) (kind_of t p) count i (end_depth o.enforce_strictness d) b (mark_with m.due) at (mark_with after)
      → EntryMissing (kind_of t p) i at after (end_depth o.enforce_strictness d) → (IsStructure (kind_of t p) → m ≡ end_mark → RestIsEmpty o.enforce_strictness i b → 0 < d → ⊥)
      → ((key : Option (List ℕ)) (c : ℕ) (n : Mark) → (cbor_relations o).steps i t p d b m key c n → ⊥)
      × ((e : ℕ) → (cbor_relations o).closes i t p d b m e → ⊥)
  members_are_stuck count b m at after passes missing full =
      let (j, same, all) = drops_all count b (mark_with m.due) m at (mark_with after) refl passes in
      cannot_go_on (frames_of o) (rules_of o) i t p (wire_of o) as_object (members_are_object (kind_of t p) kind) d count b m at j all
      (λ key c n entry told unmarked stays. no_entry_told at j after same missing key c n entry told unmarked)
      (no_entry_dropped at j after same missing) (no_entry_ends at j after same missing)
      (λ is at_end e over some. full is at_end over.0 some)

  -- where it is over behind what is passed over, and may not end there, it can't go on either
  pub members_are_shut : (b : ℕ) (m : Mark) (end : ℕ) → ClosesMembers (not o.dispatch_null_members) (kind_of t p) i (end_depth o.enforce_strictness d) b (mark_with m.due) end
      → (FollowsInside o.enforce_strictness d i end → ⊥) → (IsStructure (kind_of t p) → m ≡ end_mark → RestIsEmpty o.enforce_strictness i b → 0 < d → ⊥)
      → ((key : Option (List ℕ)) (c : ℕ) (n : Mark) → (cbor_relations o).steps i t p d b m key c n → ⊥)
      × ((e : ℕ) → (cbor_relations o).closes i t p d b m e → ⊥)
  members_are_shut b m end (count, at, k, passes, over) shut full =
      let (j, same, all) = drops_all count b (mark_with m.due) m at k refl passes in
      let here = over_by_due i at k j end same over in
      cannot_go_on (frames_of o) (rules_of o) i t p (wire_of o) as_object (members_are_object (kind_of t p) kind) d count b m at j all
      (λ key c n entry told unmarked stays. entry_or_over i at j n end entry.0 here)
      (λ c n drop. entry_or_over i at j n end drop.entry.0 here)
      (λ e ends follows. shut (subst (λ z. FollowsInside o.enforce_strictness d i z) (same_over i at j e end ends here) follows))
      (λ is at_end e over some. full is at_end over.0 some)

module _ (o : Settings) (i : List ℕ) (t : Table) (p : Place) (kind : IsStructure (kind_of t p)) (d : ℕ) where
  -- where nothing is left a structure opens
  pub opens_empty : (a : ℕ) → RestIsEmpty o.enforce_strictness i a → (cbor_relations o).opens i t p d a a end_mark
  opens_empty a rest = inr (kind, (rest, refl), refl)

  -- and closes
  pub closes_empty : (b : ℕ) (m : Mark) → m ≡ end_mark → RestIsEmpty o.enforce_strictness i b → 0 < d → (cbor_relations o).closes i t p d b m b
  closes_empty b m at_end rest some = inr (kind, (rest, refl), at_end, some)
