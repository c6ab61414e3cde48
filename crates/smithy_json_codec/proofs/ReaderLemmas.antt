-- What a reader finds in an input, as a relation of reading, and what it doesn't find.
use Rattle.std.proofs.Common.{◌≡◌, ◌⊎◌, ◌<◌, ◌+◌, ℕ, zero, suc, List, drop, Option, Some, None, Bool, true, false, refl, sym, ◌∙◌, ap, subst, arith, inl, inr}
use Rattle.std.specs.Str.{bytes_eq}
use Rattle.std.proofs.lemmas.Slice.Eq.{bytes_eq-Decides}
use Rattle.smithy_declarations.specs.declared.place.Place.{Place}
use Rattle.smithy_declarations.specs.Table.{Table, Kind, structure_of, kind_of, IsList, IsMap, IsStructure, HasMembers}
use Rattle.smithy_schema.specs.Reading.{Mark}
use Rattle.smithy_shapes.specs.Lemmas.Kinds.{no_list_and_structure}
use Rattle.smithy_json_grammar.specs.Ascii.{begin_array, end_array, begin_object, end_object}
use Rattle.smithy_json_grammar.specs.Unescape.{unescaped}
use Rattle.smithy_json_values.specs.Scalar.{a_string}
use Rattle.smithy_json_values.specs.Settings.{Settings, is_shallow}
use Rattle.smithy_json_values.specs.LexicalGrammar.{frames_of}
use Rattle.smithy_json_values.specs.Standing.{Lies, IsByte, IsSeparated, fresh_mark, end_mark, entry_mark, json_grammar, json_rules, json_relations}
use Rattle.smithy_json_values.specs.Tokens.{BoundaryBy, IsOverBy, EndsInside}
use Rattle.smithy_json_values.specs.Private.NextInContainer.{NamesIn}
use Rattle.smithy_json_codec.specs.Private.PassedEntries.{type_name, Passing, NoNull, IsNoMark, IsPassed, Passes, MarkStays, EntryMissing}
use Rattle.smithy_json_values.specs.Private.Skipping.{SkipsTo}
use Rattle.smithy_json_values.specs.Private.TokenEntries.{entry_of_names, entry_told}
use Rattle.smithy_json_values.specs.Private.Wire.{tokens_are_wire}
use Rattle.smithy_wire.specs.Node.{as_array, as_object, null_node}
use Rattle.smithy_wire.specs.Frames.{IsTold, Drops, DropsAll}
use Rattle.smithy_wire.specs.Rules.{position_in, drops_null, is_mark, key_text}
use Rattle.smithy_wire.specs.Readers.{opens_not, cannot_go_on}
use Rattle.smithy_wire.specs.Entries.{other_is_no_mark, drop_is, mark_is_dropped, null_is_dropped, step_to_entry, close_at_end, list_drops_nothing, step_to_element, map_drops_nothing, step_to_key}
use Rattle.smithy_wire.specs.Lemmas.Places.{members_are_object, list_is_array, map_is_object}
-- what stands behind white space, in Private: a byte, a name and a value are determined, with their ends
pub use Rattle.smithy_json_values.specs.Private.Lexical.{past_ws, ws_boundary, value_begins}
pub use Rattle.smithy_json_values.specs.Private.BytePlaces.{settle, settle_at, past_byte, same_byte}
pub use Rattle.smithy_json_values.specs.Private.NamePlaces.{past_name_front, raw_is, colon_is}
pub use Rattle.smithy_json_values.specs.Private.TokenPlaces.{same_names, names_or_end}
pub use Rattle.smithy_json_values.specs.Private.ValuePlaces.{past_value, value_first, one_tree}

-- ---- a list at a place

module _ (o : Settings) (i : List ℕ) (t : Table) (p : Place) (kind : IsList (kind_of t p)) where
  -- with its bracket a list opens
  pub opens_list : (d a b : ℕ) → Lies (IsByte begin_array) i a b → (json_relations o).opens i t p d a b fresh_mark
  opens_list d a b h = inl (as_array, list_is_array (kind_of t p) kind, (refl, h))

  -- without its bracket no list opens
  pub opens_no_list : (d a : ℕ) → ((b : ℕ) → Lies (IsByte begin_array) i a b → ⊥) → (b : ℕ) (m : Mark) → (json_relations o).opens i t p d a b m → ⊥
  opens_no_list d a none =
      opens_not (frames_of (json_grammar o)) (json_rules o) i t p (tokens_are_wire o.enforce_strictness) as_array (list_is_array (kind_of t p) kind) d a (λ b m h. none b h.1)
      (λ structure' e over. no_list_and_structure (kind_of t p) kind structure')

  -- an element that is due is a step
  pub steps_in_list : (d b : ℕ) (m : Mark) (c : ℕ) → IsSeparated m.entered i b c → ((e : ℕ) → Lies (IsByte end_array) i c e → ⊥)
      → (json_relations o).steps i t p d b m None c entry_mark
  steps_in_list d b m c h none = step_to_element (frames_of (json_grammar o)) (json_rules o) i t p d kind b m None c entry_mark (refl, refl, h, none)

  -- where neither an element nor its end comes, it can't go on
  pub list_is_stuck : (d b : ℕ) (m : Mark) → ((c : ℕ) → IsSeparated m.entered i b c → ((e : ℕ) → Lies (IsByte end_array) i c e → ⊥) → ⊥)
      → ((e : ℕ) → Lies (IsByte end_array) i b e → EndsInside (BoundaryBy o.enforce_strictness) d (drop e i) → ⊥)
      → ((key : Option (List ℕ)) (c : ℕ) (n : Mark) → (json_relations o).steps i t p d b m key c n → ⊥)
      × ((e : ℕ) → (json_relations o).closes i t p d b m e → ⊥)
  list_is_stuck d b m none shut =
      cannot_go_on (frames_of (json_grammar o)) (json_rules o) i t p (tokens_are_wire o.enforce_strictness) as_array (list_is_array (kind_of t p) kind) d 0 b m b m (refl, refl)
      (λ key c n entry told unmarked stays. none c entry.2 entry.3) (list_drops_nothing (frames_of (json_grammar o)) (json_rules o) i t p d kind as_array b m) shut
      (λ structure' at_end e over some. no_list_and_structure (kind_of t p) kind structure')

-- ---- a map at a place

no_map_and_structure : (k : Kind) → IsMap k → IsStructure k → ⊥
no_map_and_structure (structure_of members) h l = h
no_map_and_structure _ h l = l

module _ (o : Settings) (i : List ℕ) (t : Table) (p : Place) (kind : IsMap (kind_of t p)) where
  -- with its bracket a map opens
  pub opens_map : (d a b : ℕ) → Lies (IsByte begin_object) i a b → (json_relations o).opens i t p d a b fresh_mark
  opens_map d a b h = inl (as_object, map_is_object (kind_of t p) kind, (refl, h))

  -- without its bracket no map opens
  pub opens_no_map : (d a : ℕ) → ((b : ℕ) → Lies (IsByte begin_object) i a b → ⊥) → (b : ℕ) (m : Mark) → (json_relations o).opens i t p d a b m → ⊥
  opens_no_map d a none =
      opens_not (frames_of (json_grammar o)) (json_rules o) i t p (tokens_are_wire o.enforce_strictness) as_object (map_is_object (kind_of t p) kind) d a (λ b m h. none b h.1)
      (λ structure' e over. no_map_and_structure (kind_of t p) kind structure')

  -- an entry whose key has a text is a step
  pub steps_in_map : (d b : ℕ) (m : Mark) (raw s : List ℕ) (c : ℕ) → NamesIn (json_grammar o) m.entered i b raw c → unescaped raw ≡ Some s
      → (json_relations o).steps i t p d b m (Some s) c entry_mark
  steps_in_map d b m raw s c names some =
      let entry = entry_of_names o i b m raw c names in
      step_to_key (frames_of (json_grammar o)) (json_rules o) i t p d kind b m (Some (a_string raw)) (Some s) c entry_mark entry.0 (entry.1 ∙ some) tt

  -- where neither a key with a text comes nor its end, it can't go on
  pub map_is_stuck : (d b : ℕ) (m : Mark) → ((raw : List ℕ) (c : ℕ) → NamesIn (json_grammar o) m.entered i b raw c → IsTold as_object (unescaped raw) → ⊥)
      → ((e : ℕ) → Lies (IsByte end_object) i b e → EndsInside (BoundaryBy o.enforce_strictness) d (drop e i) → ⊥)
      → ((key : Option (List ℕ)) (c : ℕ) (n : Mark) → (json_relations o).steps i t p d b m key c n → ⊥)
      × ((e : ℕ) → (json_relations o).closes i t p d b m e → ⊥)
  map_is_stuck d b m none shut =
      cannot_go_on (frames_of (json_grammar o)) (json_rules o) i t p (tokens_are_wire o.enforce_strictness) as_object (map_is_object (kind_of t p) kind) d 0 b m b m (refl, refl)
      (λ key c n entry told unmarked stays.
      let there = entry_told o i b m key c n entry told in
      none there.0 c there.1 (subst (IsTold as_object) there.2 told))
      (map_drops_nothing (frames_of (json_grammar o)) (json_rules o) i t p d kind as_object b m) shut
      (λ structure' at_end e over some. no_map_and_structure (kind_of t p) kind structure')

-- ---- a structure or a union at a place

-- a null is skipped wherever its depth may be
null_is_skipped : (o : Settings) (i : List ℕ) (d a e : ℕ) → is_shallow o d ≡ true → (frames_of (json_grammar o)).null i d a e → (json_relations o).skips i d a e
null_is_skipped o i d a e shallow lies =
    let same : d + 0 ≡ d = omega arith in (null_node, lies, ap (is_shallow o) same ∙ shallow)

module _ (o : Settings) (i : List ℕ) (t : Table) (p : Place) (kind : HasMembers (kind_of t p)) where
  -- with its bracket it opens
  pub opens_members : (d a b : ℕ) → Lies (IsByte begin_object) i a b → (json_relations o).opens i t p d a b fresh_mark
  opens_members d a b h = inl (as_object, members_are_object (kind_of t p) kind, (refl, h))

  -- without its bracket it doesn't, unless it is a structure and the input is empty
  pub opens_no_members : (d a : ℕ) → ((b : ℕ) → Lies (IsByte begin_object) i a b → ⊥) → (IsStructure (kind_of t p) → (e : ℕ) → IsOverBy o.enforce_strictness i a e → ⊥)
      → (b : ℕ) (m : Mark) → (json_relations o).opens i t p d a b m → ⊥
  opens_no_members d a none full =
      opens_not (frames_of (json_grammar o)) (json_rules o) i t p (tokens_are_wire o.enforce_strictness) as_object (members_are_object (kind_of t p) kind) d a (λ b m h. none b h.1)
      full

  -- Marks and nulls are passed over exactly where they are dropped, and what is passed over inside so many containers is skipped.
  module _ (passing : Passing) (marked : passing.marks ≡ is_mark (json_rules o) (kind_of t p) (Some type_name))
      (dropped : (text : List ℕ) → passing.nulls text ≡ drops_null (json_rules o) (kind_of t p) (position_in (json_rules o) (kind_of t p) (Some text))) (greatest d : ℕ)
      (skips : (c e : ℕ) → SkipsTo (json_grammar o) greatest d i c e → (json_relations o).skips i d c e) where
    one_passes : (b : ℕ) (m : Mark) (raw : List ℕ) (c e : ℕ) → NamesIn (json_grammar o) m.entered i b raw c → IsPassed (json_grammar o) passing greatest d i raw c e
        → Drops (frames_of (json_grammar o)) (json_rules o) (kind_of t p) as_object i d b m e entry_mark
    one_passes b m raw c e names (inl (null_lies, text)) =
        let entry = entry_of_names o i b m raw c names in
        let same : key_text (json_rules o) as_object (Some (a_string raw)) ≡ Some text.0 = entry.1 ∙ text.1 in
        null_is_dropped (frames_of (json_grammar o)) (json_rules o) i t p d kind b m (Some (a_string raw)) c entry_mark e entry.0
        (subst (IsTold as_object) (sym same) tt)
        (ap (λ k. drops_null (json_rules o) (kind_of t p) (position_in (json_rules o) (kind_of t p) k)) same ∙ sym (dropped text.0) ∙ text.2)
        null_lies
    one_passes b m raw c e names (inr (passes, is, skipped)) =
        let entry = entry_of_names o i b m raw c names in
        let same : key_text (json_rules o) as_object (Some (a_string raw)) ≡ Some type_name = entry.1 ∙ is in
        mark_is_dropped (frames_of (json_grammar o)) (json_rules o) i t p d as_object b m (Some (a_string raw)) c entry_mark e entry.0
        (subst (IsTold as_object) (sym same) tt)
        (ap (is_mark (json_rules o) (kind_of t p)) same ∙ sym marked ∙ passes) (skips c e skipped)

    -- what is passed over is dropped
    drops_all : (count b : ℕ) (m : Mark) (e : ℕ) (after : Bool) → Passes (json_grammar o) passing greatest d count i b m.entered e after
        → (n : Mark) × (n.entered ≡ after) × DropsAll (frames_of (json_grammar o)) (json_rules o) (kind_of t p) as_object count i d b m e n
    drops_all zero b m e after h = (m, h.1, (h.0, refl))
    drops_all (suc count) b m e after h =
        let rest = drops_all count h.2 entry_mark e after h.5 in
        (rest.0, rest.1, (h.2, entry_mark, one_passes b m h.0 h.1 h.2 h.3 h.4, rest.2))

    -- a name that is no mark as it is read is none
    no_mark : (raw s : List ℕ) → unescaped raw ≡ Some s → IsNoMark passing raw → is_mark (json_rules o) (kind_of t p) (Some s) ≡ false
    no_mark raw s is other = by (bytes_eq s type_name) refl passing.marks refl
      where
        by : (same : Bool) → bytes_eq s type_name ≡ same → (passes : Bool) → passing.marks ≡ passes → is_mark (json_rules o) (kind_of t p) (Some s) ≡ false
        by false differ passes may = other_is_no_mark (json_rules o) (kind_of t p) s differ
        by true same true may = absurd (other may (is ∙ ap Some ((bytes_eq-Decides s type_name).0 same)))
        by true same false may =
            ap (λ x. is_mark (json_rules o) (kind_of t p) (Some x)) ((bytes_eq-Decides s type_name).0 same) ∙ sym marked ∙ may

    -- under a name whose null isn't passed over none is dropped
    null_stays : (raw s : List ℕ) (c : ℕ) → unescaped raw ≡ Some s → NoNull (json_grammar o) passing i raw c → (e : ℕ) → (frames_of (json_grammar o)).null i 0 c e
        → drops_null (json_rules o) (kind_of t p) (position_in (json_rules o) (kind_of t p) (Some s)) ≡ false
    null_stays raw s c is real e lies = by (passing.nulls s) refl
      where
        by : (passes : Bool) → passing.nulls s ≡ passes → drops_null (json_rules o) (kind_of t p) (position_in (json_rules o) (kind_of t p) (Some s)) ≡ false
        by true passes = absurd (real e lies (s, is, passes))
        by false passes = sym (dropped s) ∙ passes

    -- behind what is passed over comes a name with a text, which is no mark, and its value is no null that is passed over
    pub steps_to_member : (k b : ℕ) (m : Mark) (at : ℕ) (after : Bool) (raw s : List ℕ) (c : ℕ) → Passes (json_grammar o) passing greatest d k i b m.entered at after
        → NamesIn (json_grammar o) after i at raw c → unescaped raw ≡ Some s → IsNoMark passing raw → NoNull (json_grammar o) passing i raw c
        → (json_relations o).steps i t p d b m (Some s) c entry_mark
    steps_to_member k b m at after raw s c passes names some other real =
        let passed = drops_all k b m at after passes in
        let entry = entry_of_names o i at passed.0 raw c (subst (λ entered. NamesIn (json_grammar o) entered i at raw c) (sym passed.1) names) in
        step_to_entry (frames_of (json_grammar o)) (json_rules o) i t p d kind k b m at passed.0 (Some (a_string raw)) (Some s) c entry_mark passed.2
        entry.0 (entry.1 ∙ some) tt (no_mark raw s some other) (λ e lies. null_stays raw s c some real e lies)

    -- behind what is passed over it ends
    pub closes_members : (k b : ℕ) (m : Mark) (at : ℕ) (after : Bool) (e : ℕ) → Passes (json_grammar o) passing greatest d k i b m.entered at after → Lies (IsByte end_object) i at e
        → EndsInside (BoundaryBy o.enforce_strictness) d (drop e i) → (json_relations o).closes i t p d b m e
    closes_members k b m at after e passes h follows =
        let passed = drops_all k b m at after passes in
        close_at_end (frames_of (json_grammar o)) (json_rules o) i t p d kind k b m at passed.0 e passed.2 h follows

    -- a mark stays only where its value can't be skipped
    module _ (shallow : is_shallow o d ≡ true) (Stays : ℕ → Type 0) (stays_unskipped : (c : ℕ) → Stays c → (e : ℕ) → (json_relations o).skips i d c e → ⊥) where
      -- where no entry is, no name with a text comes that is handed on
      no_entry_told : (at : ℕ) (entered : Bool) → EntryMissing (json_grammar o) Stays passing d i at entered → (raw : List ℕ) (c : ℕ) → NamesIn (json_grammar o) entered i at raw c
          → IsTold as_object (unescaped raw) → is_mark (json_rules o) (kind_of t p) (unescaped raw) ≡ false → ⊥
      no_entry_told at entered (inl (nameless, open_ended)) raw c names told unmarked = nameless raw c names
      no_entry_told at entered (inr (inl (other, e, name, wordless))) raw c names told unmarked =
          let same = same_names i entered at raw other c e names.0 name.0 in
          subst (IsTold as_object) (ap unescaped same.0 ∙ wordless) told
      no_entry_told at entered (inr (inr mark)) raw c names told unmarked =
          let same = same_names i entered at raw mark.raw c mark.value names.0 mark.names.0 in
          let text = ap unescaped same.0 ∙ mark.is_mark in
          let clash : true ≡ false = sym mark.passes_marks ∙ marked ∙ sym (ap (is_mark (json_rules o) (kind_of t p)) text) ∙ unmarked in cc

      -- what stays isn't dropped
      mark_not_dropped : (at : ℕ) (entered : Bool) (mark : MarkStays (json_grammar o) Stays passing i at entered) (IsMark : Type 0) (c e : ℕ) → c ≡ mark.value
          → (frames_of (json_grammar o)).null i d c e ⊎ (IsMark × (json_relations o).skips i d c e) → ⊥
      mark_not_dropped at entered mark IsMark c e same (inl null_lies) =
          stays_unskipped mark.value mark.stays e
          (null_is_skipped o i d mark.value e shallow (subst (λ c. (frames_of (json_grammar o)).null i d c e) same null_lies))
      mark_not_dropped at entered mark IsMark c e same (inr (is, skipped)) =
          stays_unskipped mark.value mark.stays e (subst (λ c. (json_relations o).skips i d c e) same skipped)

      -- nor one that is dropped
      no_entry_dropped : (at : ℕ) (j : Mark) → EntryMissing (json_grammar o) Stays passing d i at j.entered → (e : ℕ) (n : Mark)
          → Drops (frames_of (json_grammar o)) (json_rules o) (kind_of t p) as_object i d at j e n → ⊥
      no_entry_dropped at j (inl (nameless, open_ended)) e n drop =
          let there = entry_told o i at j drop.key drop.at n drop.entry drop.told in
          nameless there.0 drop.at there.1
      no_entry_dropped at j (inr (inl (other, f, name, wordless))) e n drop =
          let there = entry_told o i at j drop.key drop.at n drop.entry drop.told in
          let same = same_names i j.entered at there.0 other drop.at f there.1.0 name.0 in
          subst (IsTold as_object) (there.2 ∙ ap unescaped same.0 ∙ wordless) drop.told
      no_entry_dropped at j (inr (inr mark)) e n drop =
          let there = entry_told o i at j drop.key drop.at n drop.entry drop.told in
          let same = same_names i j.entered at there.0 mark.raw drop.at mark.value there.1.0 mark.names.0 in
          mark_not_dropped at j.entered mark (is_mark (json_rules o) (kind_of t p) (key_text (json_rules o) as_object drop.key) ≡ true) drop.at e same.1
          (drop_is (frames_of (json_grammar o)) (json_rules o) i t p d as_object at j e n drop)

      -- nor the end
      no_entry_ends : (at : ℕ) (entered : Bool) → EntryMissing (json_grammar o) Stays passing d i at entered → (e : ℕ) → Lies (IsByte end_object) i at e → EndsInside (BoundaryBy o.enforce_strictness) d (drop e i) → ⊥
      no_entry_ends at entered (inl (nameless, open_ended)) e lies follows = open_ended e (lies, follows)
      no_entry_ends at entered (inr (inl (other, c, name, wordless))) e lies follows = names_or_end i entered at other c e name.0 lies
      no_entry_ends at entered (inr (inr mark)) e lies follows = names_or_end i entered at mark.raw mark.value e mark.names.0 lies

      -- where behind what is passed over neither such a name nor the end comes, it can't go on
      pub members_are_stuck : (k b : ℕ) (m : Mark) (at : ℕ) (after : Bool) → Passes (json_grammar o) passing greatest d k i b m.entered at after → EntryMissing (json_grammar o) Stays passing d i at after
          → (IsStructure (kind_of t p) → m ≡ end_mark → (e : ℕ) → IsOverBy o.enforce_strictness i b e → 0 < d → ⊥)
          → ((key : Option (List ℕ)) (c : ℕ) (n : Mark) → (json_relations o).steps i t p d b m key c n → ⊥)
          × ((e : ℕ) → (json_relations o).closes i t p d b m e → ⊥)
      members_are_stuck k b m at after passes missing full =
          let passed = drops_all k b m at after passes in
          let stuck = subst (λ entered. EntryMissing (json_grammar o) Stays passing d i at entered) (sym passed.1) missing in
          cannot_go_on (frames_of (json_grammar o)) (json_rules o) i t p (tokens_are_wire o.enforce_strictness) as_object (members_are_object (kind_of t p) kind) d k b m at passed.0 passed.2
          (λ key c n entry told unmarked stays.
          let there = entry_told o i at passed.0 key c n entry told in
          no_entry_told at passed.0.entered stuck there.0 c there.1 (subst (IsTold as_object) there.2 told)
          (subst (λ k. is_mark (json_rules o) (kind_of t p) k ≡ false) there.2 unmarked))
          (no_entry_dropped at passed.0 stuck)
          (no_entry_ends at passed.0.entered stuck)
          full
