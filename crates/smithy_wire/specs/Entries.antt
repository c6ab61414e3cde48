-- How a reader goes on in a container: past what is dropped to an entry or the end, as the relations of reading say it.
use Rattle.std.specs.Prelude.{◌≡◌, ◌&&◌, ◌||◌, not, ℕ, List, Option, Some, None, is_none, Bool, true, false, refl, codes, bytes_eq}
use Rattle.std.proofs.Common.{sym, ◌∙◌, ap, inl, inr, ◌⊎◌}
use Rattle.smithy_declarations.specs.declared.place.Place.{Place}
use Rattle.smithy_declarations.specs.Table.{Table, Kind, structure_of, union_of, list_of, map_of, kind_of, member_place, has_members, IsList, IsMap, HasMembers}
use Rattle.smithy_shapes.specs.Container.{is_type_mark}
use Rattle.smithy_schema.specs.Reading.{Mark}
use Rattle.smithy_wire.specs.Node.{Form, as_array, as_object, Node, null_node, leaf, container, missing}
use Rattle.smithy_wire.specs.Rules.{Rules, key_text, position_in, drops_null, is_absent, is_mark, may_skip}
use Rattle.smithy_wire.specs.Frames.{Frames, Lies, IsTold, Drops, DropsAll, relations}
use Rattle.smithy_wire.specs.Lemmas.Places.{members_are_object, list_is_array, map_is_object}

-- where no place keeps nulls, structures and unions drop each
pub drops_each : {L : Type 0} (r : Rules L) → ((q : Option Place) → r.keeps_null q ≡ false) → (k : Kind) → HasMembers k → (n : Option ℕ) → drops_null r k n ≡ true
drops_each r none (structure_of members) h n = ap not (none (member_place members n))
drops_each r none (union_of members) h n = ap not (none (member_place members n))
drops_each r none _ h n = absurd h

-- lists and maps drop none
pub list_drops_none : {L : Type 0} (r : Rules L) (k : Kind) → IsList k → (n : Option ℕ) → drops_null r k n ≡ false
list_drops_none r (list_of l) h n = refl
list_drops_none r _ h n = absurd h

pub map_drops_none : {L : Type 0} (r : Rules L) (k : Kind) → IsMap k → (n : Option ℕ) → drops_null r k n ≡ false
map_drops_none r (map_of m) h n = refl
map_drops_none r _ h n = absurd h

-- there are no marks in lists and maps
pub list_has_no_mark : {L : Type 0} (r : Rules L) (k : Kind) → IsList k → (text : Option (List ℕ)) → is_mark r k text ≡ false
list_has_no_mark r (list_of l) h text = refl
list_has_no_mark r _ h text = absurd h

pub map_has_no_mark : {L : Type 0} (r : Rules L) (k : Kind) → IsMap k → (text : Option (List ℕ)) → is_mark r k text ≡ false
map_has_no_mark r (map_of m) h text = refl
map_has_no_mark r _ h text = absurd h

-- a mark is a `__type` that names no member
pub type_is_mark : {L : Type 0} (r : Rules L) (k : Kind) (text : List ℕ) → HasMembers k → position_in r k (Some text) ≡ None → bytes_eq text (codes "__type") ≡ true
    → is_mark r k (Some text) ≡ true
type_is_mark r (structure_of members) text h none is = rw (none, is) refl
type_is_mark r (union_of members) text h none is = rw (none, is) refl
type_is_mark r _ text h none is = absurd h

no_mark_unnamed : (u unplaced : Bool) (same : Bool) → same ≡ false → (u && (unplaced && same)) ≡ false
no_mark_unnamed true true same is = is
no_mark_unnamed true false same is = refl
no_mark_unnamed false unplaced same is = refl

-- no other text is one
pub other_is_no_mark : {L : Type 0} (r : Rules L) (k : Kind) (text : List ℕ) → bytes_eq text (codes "__type") ≡ false → is_mark r k (Some text) ≡ false
other_is_no_mark r k text is = no_mark_unnamed (has_members k) (is_none (position_in r k (Some text))) (bytes_eq text (codes "__type")) is

no_mark_named : (u : Bool) (position : Option ℕ) (n : ℕ) (text : List ℕ) → position ≡ Some n → (u && is_type_mark position text) ≡ false
no_mark_named true None n text is = cc
no_mark_named false None n text is = cc
no_mark_named true (Some m) n text is = refl
no_mark_named false (Some m) n text is = refl

-- nor one that names a member
pub member_is_no_mark : {L : Type 0} (r : Rules L) (k : Kind) (text : List ℕ) (n : ℕ) → position_in r k (Some text) ≡ Some n → is_mark r k (Some text) ≡ false
member_is_no_mark r k text n is = no_mark_named (has_members k) (position_in r k (Some text)) n text is

absent_where : (absent mark skips : Bool) → mark ≡ false → (absent || mark && skips) ≡ true → absent ≡ true
absent_where true mark skips unmarked h = refl
absent_where false true skips unmarked h = cc
absent_where false false skips unmarked h = h

dropped_by : (absent mark skips : Bool) → mark ≡ true → skips ≡ true → (absent || mark && skips) ≡ true
dropped_by true mark skips is may = refl
dropped_by false true skips is may = may
dropped_by false false skips is may = cc

module _ {L : Type 0} (w : Frames L) (r : Rules L) (i : List ℕ) (t : Table) (p : Place) (d : ℕ) where
  null_lies : (key : Option (List ℕ)) (x : Node L) (c e : ℕ) → Lies w i d x c e → is_absent r (kind_of t p) key x ≡ true → w.null i d c e
  null_lies key null_node c e lies h = lies
  null_lies key (leaf x) c e lies h = cc
  null_lies key (container f xs) c e lies h = cc
  null_lies key missing c e lies h = cc

  -- what is dropped is a null, or a mark whose value may be skipped
  pub drop_is : (f : Form) (b : ℕ) (m : Mark) (e : ℕ) (n : Mark) (h : Drops w r (kind_of t p) f i d b m e n)
      → w.null i d h.at e ⊎ ((is_mark r (kind_of t p) (key_text r f h.key) ≡ true) × (relations w r).skips i d h.at e)
  drop_is f b m e n h =
      by (is_absent r (kind_of t p) (key_text r f h.key) h.child) (is_mark r (kind_of t p) (key_text r f h.key)) (may_skip r d h.child) refl refl refl h.dropped
    where
      by : (absent mark skips : Bool) → is_absent r (kind_of t p) (key_text r f h.key) h.child ≡ absent → is_mark r (kind_of t p) (key_text r f h.key) ≡ mark
          → may_skip r d h.child ≡ skips → (absent || mark && skips) ≡ true
          → w.null i d h.at e ⊎ ((is_mark r (kind_of t p) (key_text r f h.key) ≡ true) × (relations w r).skips i d h.at e)
      by true mark skips absent is may dropped = inl (null_lies (key_text r f h.key) h.child h.at e h.lies absent)
      by false true true absent is may dropped = inr (is, (h.child, h.lies, may))
      by false true false absent is may dropped = cc
      by false false skips absent is may dropped = cc

  -- a mark whose value may be skipped is dropped
  pub mark_is_dropped : (f : Form) (b : ℕ) (m : Mark) (key : Option L) (at : ℕ) (n : Mark) (e : ℕ) → w.entry f i b m key at n
      → IsTold f (key_text r f key) → is_mark r (kind_of t p) (key_text r f key) ≡ true → (relations w r).skips i d at e → Drops w r (kind_of t p) f i d b m e n
  mark_is_dropped f b m key at n e entry told is (x, lies, may) = record {
    key = key;
    at = at;
    child = x;
    entry = entry;
    told = told;
    lies = lies;
    dropped = dropped_by (is_absent r (kind_of t p) (key_text r f key) x) (is_mark r (kind_of t p) (key_text r f key)) (may_skip r d x) is may;
  }

  module _ (has_members : HasMembers (kind_of t p)) where
    -- a null under a key that is a text is dropped, where no member keeps it
    pub null_is_dropped : (b : ℕ) (m : Mark) (key : Option L) (at : ℕ) (n : Mark) (e : ℕ) → w.entry as_object i b m key at n
        → IsTold as_object (key_text r as_object key) → drops_null r (kind_of t p) (position_in r (kind_of t p) (key_text r as_object key)) ≡ true
        → w.null i d at e → Drops w r (kind_of t p) as_object i d b m e n
    null_is_dropped b m key at n e entry told drops null = record {
      key = key;
      at = at;
      child = null_node;
      entry = entry;
      told = told;
      lies = null;
      dropped = rw drops refl;
    }

    -- an entry behind dropped ones, with neither a mark nor a null that is dropped, is a step
    pub step_to_entry : (count b : ℕ) (m : Mark) (at : ℕ) (j : Mark) (key : Option L) (text : Option (List ℕ)) (c : ℕ) (n : Mark)
        → DropsAll w r (kind_of t p) as_object count i d b m at j → w.entry as_object i at j key c n → key_text r as_object key ≡ text → IsTold as_object text
        → is_mark r (kind_of t p) text ≡ false → ((e : ℕ) → w.null i d c e → drops_null r (kind_of t p) (position_in r (kind_of t p) text) ≡ false)
        → (relations w r).steps i t p d b m text c n
    step_to_entry count b m at j key text c n drops entry names told unmarked stays = (
      as_object,
      members_are_object (kind_of t p) has_members,
      record {
        count = count;
        at = at;
        mark = j;
        drops = drops;
        key = key;
        entry = entry;
        told = told;
        names = names;
        unmarked = unmarked;
        stays = stays;
      },
    )

    -- the end behind dropped entries closes the structure or the union
    pub close_at_end : (count b : ℕ) (m : Mark) (at : ℕ) (j : Mark) (e : ℕ) → DropsAll w r (kind_of t p) as_object count i d b m at j
        → w.ends as_object i at j e → w.follows i d e → (relations w r).closes i t p d b m e
    close_at_end count b m at j e drops ends follows =
        inl (as_object, members_are_object (kind_of t p) has_members, (count, at, j, drops, ends), follows)

  -- where no null is dropped and no key is a mark, nothing is dropped
  drops_nothing : ((n : Option ℕ) → drops_null r (kind_of t p) n ≡ false) → ((text : Option (List ℕ)) → is_mark r (kind_of t p) text ≡ false)
      → (f : Form) (b : ℕ) (m : Mark) (e : ℕ) (n : Mark) → Drops w r (kind_of t p) f i d b m e n → ⊥
  drops_nothing keeps unmarked f b m e n h =
      absent_not h.child
      (absent_where (is_absent r (kind_of t p) text h.child) (is_mark r (kind_of t p) text) (may_skip r d h.child) (unmarked text) h.dropped)
    where
      text : Option (List ℕ)
      text = key_text r f h.key

      absent_not : (x : Node L) → is_absent r (kind_of t p) text x ≡ true → ⊥
      absent_not null_node is = let clash = sym (keeps (position_in r (kind_of t p) text)) ∙ is in cc
      absent_not (leaf x) is = cc
      absent_not (container g xs) is = cc
      absent_not missing is = cc

  module _ (is_list : IsList (kind_of t p)) where
    -- nothing is dropped in a list
    pub list_drops_nothing : (f : Form) (b : ℕ) (m : Mark) (e : ℕ) (n : Mark) → Drops w r (kind_of t p) f i d b m e n → ⊥
    list_drops_nothing = drops_nothing (list_drops_none r (kind_of t p) is_list) (list_has_no_mark r (kind_of t p) is_list)

    -- another element of a list is a step
    pub step_to_element : (b : ℕ) (m : Mark) (key : Option L) (c : ℕ) (n : Mark) → w.entry as_array i b m key c n → (relations w r).steps i t p d b m None c n
    step_to_element b m key c n entry = (
      as_array,
      list_is_array (kind_of t p) is_list,
      record {
        count = 0;
        at = b;
        mark = m;
        drops = (refl, refl);
        key = key;
        entry = entry;
        told = tt;
        names = refl;
        unmarked = list_has_no_mark r (kind_of t p) is_list None;
        stays = λ e null. list_drops_none r (kind_of t p) is_list None;
      },
    )

    -- the end of a list closes it
    pub close_list : (b : ℕ) (m : Mark) (e : ℕ) → w.ends as_array i b m e → w.follows i d e → (relations w r).closes i t p d b m e
    close_list b m e ends follows = inl (as_array, list_is_array (kind_of t p) is_list, (0, b, m, (refl, refl), ends), follows)

  module _ (is_map : IsMap (kind_of t p)) where
    -- nothing is dropped in a map
    pub map_drops_nothing : (f : Form) (b : ℕ) (m : Mark) (e : ℕ) (n : Mark) → Drops w r (kind_of t p) f i d b m e n → ⊥
    map_drops_nothing = drops_nothing (map_drops_none r (kind_of t p) is_map) (map_has_no_mark r (kind_of t p) is_map)

    -- another entry of a map, whose key is a text, is a step
    pub step_to_key : (b : ℕ) (m : Mark) (key : Option L) (text : Option (List ℕ)) (c : ℕ) (n : Mark) → w.entry as_object i b m key c n
        → key_text r as_object key ≡ text → IsTold as_object text → (relations w r).steps i t p d b m text c n
    step_to_key b m key text c n entry names told = (
      as_object,
      map_is_object (kind_of t p) is_map,
      record {
        count = 0;
        at = b;
        mark = m;
        drops = (refl, refl);
        key = key;
        entry = entry;
        told = told;
        names = names;
        unmarked = map_has_no_mark r (kind_of t p) is_map text;
        stays = λ e null. map_drops_none r (kind_of t p) is_map (position_in r (kind_of t p) text);
      },
    )

    -- the end of a map closes it
    pub close_map : (b : ℕ) (m : Mark) (e : ℕ) → w.ends as_object i b m e → w.follows i d e → (relations w r).closes i t p d b m e
    close_map b m e ends follows = inl (as_object, map_is_object (kind_of t p) is_map, (0, b, m, (refl, refl), ends), follows)
