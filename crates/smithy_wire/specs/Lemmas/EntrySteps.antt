-- What one entry does to the fold of a container, and which child of a reader does the same.
use Rattle.std.specs.Prelude.{◌≡◌, ◌⊎◌, ◌||◌, ◌&&◌, ℕ, List, [], ◌∷◌, ◌++◌, Option, Some, None, Bool, true, false, refl, option_and_then, option_map, cond}
use Rattle.std.specs.Option.{option_map_or}
use Rattle.std.proofs.Common.{sym, ◌∙◌, ap, inl, inr}
use Rattle.smithy_declarations.specs.declared.place.Place.{Place}
use Rattle.smithy_declarations.specs.Table.{Member, ListShape, MapShape, Kind, structure_of, union_of, list_of, map_of, member_place, place_in, is_sparse, IsStructure}
use Rattle.smithy_declarations.specs.Value.{Value, MemberValues, put_entry}
use Rattle.smithy_shapes.specs.Container.{Entry, is_type_mark, member_step, element_of, element_step, entry_step}
use Rattle.smithy_schema.specs.Reading.{child_value, child_null, child_unknown, entry_of}
use Rattle.smithy_shapes.specs.Lemmas.Options.{same_some, step_apart, made}
use Rattle.smithy_shapes.specs.Lemmas.Entries.{entry_with}
use Rattle.smithy_wire.specs.Node.{Form, as_array, as_object, Node, is_null}
use Rattle.smithy_wire.specs.Rules.{Rules, key_text, position_in, is_absent, is_mark, may_skip, is_dropped}
use Rattle.smithy_wire.specs.Meaning.{entry_at}
use Rattle.smithy_wire.specs.Frames.{IsTold}
use Rattle.smithy_wire.specs.Lemmas.Determined.{is_droppable}
use Rattle.smithy_shapes.specs.Lemmas.Variants.{first_variant, variant_step}

-- which child an entry is: a value, which in a sparse list or map is no null; a null element, or what is skipped
abbrev pub IsOneOf : {L : Type 0} → Rules L → Kind → ℕ → Option (List ℕ) → Node L → (Place → Option Value) → Type 0
IsOneOf r k d text x mean =
    ((q : Place) × (v : Value) × (place_in k (position_in r k text) ≡ Some q) × (mean q ≡ Some v) × (is_sparse k ≡ true → is_null x ≡ false))
    ⊎ ((is_sparse k ≡ true) × (is_null x ≡ true))
    ⊎ (IsStructure k × (position_in r k text ≡ None) × (may_skip r d x ≡ true))

-- How the entries of a kind fold, for any node x with key, that means `mean` at each place.
pub record FoldsBy {L : Type 0} (r : Rules L) (k : Kind) (f : Form) (d : ℕ) {S : Type 0} (step : Entry → S → Option S) : Type 0 where
  pub told : (key : Option L) (x : Node L) (mean : Place → Option Value) (s after : S) → step (entry_at r k f d key x mean) s ≡ Some after
      → IsTold f (key_text r f key)
  -- an entry that may be dropped is dropped
  pub drops : (key : Option L) (x : Node L) (mean : Place → Option Value) (s after : S) → step (entry_at r k f d key x mean) s ≡ Some after
      → is_droppable r k (key_text r f key) x ≡ true → is_dropped r k d (key_text r f key) x ≡ true
  -- an entry that is dropped changes nothing
  pub dropped : (key : Option L) (x : Node L) (mean : Place → Option Value) (s : S) → IsTold f (key_text r f key)
      → is_dropped r k d (key_text r f key) x ≡ true → step (entry_at r k f d key x mean) s ≡ Some s
  -- each child does what its entry does
  pub values : (key : Option L) (x : Node L) (mean : Place → Option Value) (s : S) (q : Place) (v : Value) → IsTold f (key_text r f key)
      → is_droppable r k (key_text r f key) x ≡ false → (is_sparse k ≡ true → is_null x ≡ true → ⊥)
      → place_in k (position_in r k (key_text r f key)) ≡ Some q → mean q ≡ Some v
      → step (entry_at r k f d key x mean) s ≡ step (entry_of (child_value (key_text r f key) (position_in r k (key_text r f key)) v)) s
  pub nulls : (key : Option L) (x : Node L) (mean : Place → Option Value) (s : S) → is_sparse k ≡ true → is_null x ≡ true
      → step (entry_at r k f d key x mean) s ≡ step (entry_of (child_null (key_text r f key))) s
  pub unknowns : (key : Option L) (x : Node L) (mean : Place → Option Value) (s : S) → IsStructure k
      → is_droppable r k (key_text r f key) x ≡ false → position_in r k (key_text r f key) ≡ None → may_skip r d x ≡ true
      → step (entry_at r k f d key x mean) s ≡ step (entry_of (child_unknown (key_text r f key))) s
  -- an entry that isn't dropped is one of the children of a reader: a value, a null element, or what is skipped
  pub children : (key : Option L) (x : Node L) (mean : Place → Option Value) (s after : S) → step (entry_at r k f d key x mean) s ≡ Some after
      → is_droppable r k (key_text r f key) x ≡ false → IsOneOf r k d (key_text r f key) x mean

-- ---- tests

pub or_neither : (a b : Bool) → (a || b) ≡ false → (a ≡ false) × (b ≡ false)
or_neither true b h = cc
or_neither false b h = (refl, h)

no_less : (a : Bool) → a ≡ true → (a && true) ≡ true
no_less true h = refl
no_less false h = h

never_both : (a : Bool) → (a && false) ≡ true → ⊥
never_both true h = cc
never_both false h = cc

-- the key is a `__type` that names no member
abbrev type_mark_of : Option ℕ → Option (List ℕ) → Bool
type_mark_of pos text = option_map_or (is_type_mark pos) text false

-- ---- structures

member_told : (text : Option (List ℕ)) (pos : Option ℕ) (m : Option Value) (absent skips nil : Bool) (s after : MemberValues)
    → member_step (entry_with text pos m absent skips nil) s ≡ Some after → IsTold as_object text
member_told None pos m absent skips nil s after h = cc
member_told (Some text) pos m absent skips nil s after h = tt

-- a mark that takes a step may be skipped
member_drops : (text : Option (List ℕ)) (pos : Option ℕ) (m : Option Value) (absent skips nil : Bool) (s after : MemberValues)
    → member_step (entry_with text pos m absent skips nil) s ≡ Some after → (absent || type_mark_of pos text) ≡ true
    → (absent || type_mark_of pos text && skips) ≡ true
member_drops None pos m absent skips nil s after h may = cc
member_drops (Some text) pos m true skips nil s after h may = refl
member_drops (Some text) None m false true nil s after h may = no_less (is_type_mark None text) may
member_drops (Some text) None m false false nil s after h may = cc
member_drops (Some text) (Some n) m false skips nil s after h may = cc

member_dropped : (text : Option (List ℕ)) (pos : Option ℕ) (m : Option Value) (absent skips nil : Bool) (s : MemberValues) → IsTold as_object text
    → (absent || type_mark_of pos text && skips) ≡ true → member_step (entry_with text pos m absent skips nil) s ≡ Some s
member_dropped None pos m absent skips nil s told h = absurd told
member_dropped (Some text) pos m true skips nil s told h = refl
member_dropped (Some text) None m false true nil s told h = refl
member_dropped (Some text) None m false false nil s told h = absurd (never_both (is_type_mark None text) h)
member_dropped (Some text) (Some n) m false skips nil s told h = cc

member_value_step : (text : Option (List ℕ)) (pos : Option ℕ) (n : ℕ) (m : Option Value) (v : Value) (absent skips nil : Bool) (s : MemberValues)
    → absent ≡ false → pos ≡ Some n → m ≡ Some v
    → member_step (entry_with text pos m absent skips nil) s ≡ member_step (entry_of (child_value text pos v)) s
member_value_step None pos n m v absent skips nil s there is means = refl
member_value_step (Some text) pos n m v absent skips nil s there is means = rw (there, is, means) refl

member_unknown_step : (text : Option (List ℕ)) (pos : Option ℕ) (m : Option Value) (absent skips nil : Bool) (s : MemberValues)
    → absent ≡ false → pos ≡ None → skips ≡ true
    → member_step (entry_with text pos m absent skips nil) s ≡ member_step (entry_of (child_unknown text)) s
member_unknown_step None pos m absent skips nil s there is may = refl
member_unknown_step (Some text) pos m absent skips nil s there is may = rw (there, is, may) refl

-- a place of a member has a position
member_at : (ss : List Member) (pos : Option ℕ) (q : Place) → member_place ss pos ≡ Some q → (n : ℕ) × (pos ≡ Some n)
member_at ss None q h = cc
member_at ss (Some n) q h = (n, refl)

member_child : (text : Option (List ℕ)) (pos : Option ℕ) (m : Option Value) (absent skips nil : Bool) (s after : MemberValues)
    → member_step (entry_with text pos m absent skips nil) s ≡ Some after → absent ≡ false
    → ((v : Value) × (m ≡ Some v)) ⊎ ((pos ≡ None) × (skips ≡ true))
member_child None pos m absent skips nil s after h there = cc
member_child (Some text) pos m true skips nil s after h there = cc
member_child (Some text) None m false true nil s after h there = inr (refl, refl)
member_child (Some text) None m false false nil s after h there = cc
member_child (Some text) (Some n) None false skips nil s after h there = cc
member_child (Some text) (Some n) (Some v) false skips nil s after h there = inl (v, refl)

-- ---- unions

marked : {S : Type 0} (mark skips : Bool) (s after : S) (x : Option S) → cond mark (cond skips (Some s) None) x ≡ Some after → mark ≡ true
    → (mark && skips) ≡ true
marked true true s after x h is = refl
marked true false s after x h is = cc
marked false skips s after x h is = is

variant_told : (text : Option (List ℕ)) (pos : Option ℕ) (m : Option Value) (absent skips nil : Bool) (s after : Option Value)
    → variant_step (entry_with text pos m absent skips nil) s ≡ Some after → IsTold as_object text
variant_told None pos m absent skips nil s after h = cc
variant_told (Some text) pos m absent skips nil s after h = tt

variant_drops : (text : Option (List ℕ)) (pos : Option ℕ) (m : Option Value) (absent skips nil : Bool) (s after : Option Value)
    → variant_step (entry_with text pos m absent skips nil) s ≡ Some after → (absent || type_mark_of pos text) ≡ true
    → (absent || type_mark_of pos text && skips) ≡ true
variant_drops None pos m absent skips nil s after h may = cc
variant_drops (Some text) pos m true skips nil s after h may = refl
variant_drops (Some text) pos m false skips nil s after h may = marked (is_type_mark pos text) skips s after (first_variant s pos m) h may

mark_passes : {S : Type 0} (mark skips : Bool) (s : S) (x : Option S) → (mark && skips) ≡ true → cond mark (cond skips (Some s) None) x ≡ Some s
mark_passes true true s x h = refl
mark_passes true false s x h = cc
mark_passes false skips s x h = cc

variant_dropped : (text : Option (List ℕ)) (pos : Option ℕ) (m : Option Value) (absent skips nil : Bool) (s : Option Value) → IsTold as_object text
    → (absent || type_mark_of pos text && skips) ≡ true → variant_step (entry_with text pos m absent skips nil) s ≡ Some s
variant_dropped None pos m absent skips nil s told h = absurd told
variant_dropped (Some text) pos m true skips nil s told h = refl
variant_dropped (Some text) pos m false skips nil s told h = mark_passes (is_type_mark pos text) skips s (first_variant s pos m) h

variant_value_step : (text : Option (List ℕ)) (pos : Option ℕ) (m : Option Value) (v : Value) (absent skips nil : Bool) (s : Option Value)
    → absent ≡ false → type_mark_of pos text ≡ false → m ≡ Some v
    → variant_step (entry_with text pos m absent skips nil) s ≡ variant_step (entry_of (child_value text pos v)) s
variant_value_step None pos m v absent skips nil s there real means = refl
variant_value_step (Some text) pos m v absent skips nil s there real means = rw (there, real, means) refl

first_means : (u : Option Value) (pos : Option ℕ) (m : Option Value) (after : Option Value) → first_variant u pos m ≡ Some after → (v : Value) × (m ≡ Some v)
first_means (Some u) pos m after h = cc
first_means None None m after h = cc
first_means None (Some n) None after h = cc
first_means None (Some n) (Some v) after h = (v, refl)

unmarked : {S : Type 0} (mark : Bool) (x y : Option S) → mark ≡ false → cond mark x y ≡ y
unmarked true x y h = cc
unmarked false x y h = refl

variant_child : (text : Option (List ℕ)) (pos : Option ℕ) (m : Option Value) (absent skips nil : Bool) (s after : Option Value)
    → variant_step (entry_with text pos m absent skips nil) s ≡ Some after → absent ≡ false → type_mark_of pos text ≡ false → (v : Value) × (m ≡ Some v)
variant_child None pos m absent skips nil s after h there real = cc
variant_child (Some text) pos m true skips nil s after h there real = cc
variant_child (Some text) pos m false skips nil s after h there real =
    first_means s pos m after (sym (unmarked (is_type_mark pos text) (cond skips (Some s) None) (first_variant s pos m) real) ∙ h)

-- ---- elements of lists, and values of maps

never : (b c : Bool) → (b && false || false && c) ≡ true → ⊥
never true c h = cc
never false c h = cc

never_may : (b : Bool) → (b && false || false) ≡ true → ⊥
never_may true h = cc
never_may false h = cc

element_value : (sparse nil : Bool) (m : Option Value) (v : Value) → (sparse ≡ true → nil ≡ true → ⊥) → m ≡ Some v
    → element_of sparse nil m ≡ element_of sparse false (Some v)
element_value true true m v real means = absurd (real refl refl)
element_value true false m v real means = means
element_value false true m v real means = means
element_value false false m v real means = means

element_null : (sparse nil : Bool) (m : Option Value) → sparse ≡ true → nil ≡ true → element_of sparse nil m ≡ element_of sparse true None
element_null sparse nil m is null = rw (is, null) refl

element_child : (sparse nil : Bool) (m : Option Value) (v : Value) → element_of sparse nil m ≡ Some v
    → ((m ≡ Some v) × (sparse ≡ true → nil ≡ false)) ⊎ ((sparse ≡ true) × (nil ≡ true))
element_child true true m v h = inr (refl, refl)
element_child true false m v h = inl (h, λ takes. refl)
element_child false true m v h = inl (h, λ takes. cc)
element_child false false m v h = inl (h, λ takes. refl)

keyed : {S : Type 0} (text : Option (List ℕ)) (step : List ℕ → Option S) (after : S) → option_and_then step text ≡ Some after → IsTold as_object text
keyed None step after h = cc
keyed (Some text) step after h = tt

-- a map's step at a key that is a text
at_key : {S A : Type 0} (text : Option (List ℕ)) (step : List ℕ → Option A → Option S) (a b : Option A) → a ≡ b
    → option_and_then (λ key. step key a) text ≡ option_and_then (λ key. step key b) text
at_key None step a b same = refl
at_key (Some text) step a b same = ap (step text) same

key_step : {S A : Type 0} (text : Option (List ℕ)) (f : List ℕ → A → S) (o : Option A) (after : S)
    → option_and_then (λ key. option_map (f key) o) text ≡ Some after → (v : A) × (o ≡ Some v)
key_step None f o after h = cc
key_step (Some text) f o after h = let u = made (f text) o after h in (u.0, u.1)

placed : {A : Type 0} (place : Option Place) (mean : Place → Option A) (v : A) → option_and_then mean place ≡ Some v
    → (q : Place) × (place ≡ Some q) × (mean q ≡ Some v)
placed place mean v h = step_apart place mean v h

module _ {L : Type 0} (r : Rules L) (d : ℕ) where
  abbrev text_of : Option L → Option (List ℕ)
  text_of key = key_text r as_object key

  -- what an entry of an object means
  abbrev part : Kind → Option L → (Place → Option Value) → Option Value
  part k key mean = option_and_then mean (place_in k (position_in r k (text_of key)))

  means_at : (k : Kind) (key : Option L) (mean : Place → Option Value) (q : Place) (v : Value) → place_in k (position_in r k (text_of key)) ≡ Some q → mean q ≡ Some v
      → part k key mean ≡ Some v
  means_at k key mean q v there means = rw (there, means) refl

  module _ (ss : List Member) where
    abbrev k : Kind
    k = structure_of ss

    pub structure_folds : FoldsBy r k as_object d member_step
    structure_folds = record {
      told = λ key x mean s after h.
          member_told (text_of key) (position_in r k (text_of key)) (part k key mean) (is_absent r k (text_of key) x) (may_skip r d x) (is_null x) s after h;
      drops = λ key x mean s after h may.
          member_drops (text_of key) (position_in r k (text_of key)) (part k key mean) (is_absent r k (text_of key) x) (may_skip r d x) (is_null x) s after h may;
      dropped = λ key x mean s told may.
          member_dropped (text_of key) (position_in r k (text_of key)) (part k key mean) (is_absent r k (text_of key) x) (may_skip r d x) (is_null x) s told may;
      values = λ key x mean s q v told kept nil there means.
          let n = member_at ss (position_in r k (text_of key)) q there in
          member_value_step (text_of key) (position_in r k (text_of key)) n.0 (part k key mean) v (is_absent r k (text_of key) x) (may_skip r d x) (is_null x) s
          (or_neither (is_absent r k (text_of key) x) (is_mark r k (text_of key)) kept).0 n.1 (means_at k key mean q v there means);
      nulls = λ key x mean s takes nil. cc;
      unknowns = λ key x mean s is kept none may.
          member_unknown_step (text_of key) (position_in r k (text_of key)) (part k key mean) (is_absent r k (text_of key) x) (may_skip r d x) (is_null x) s
          (or_neither (is_absent r k (text_of key) x) (is_mark r k (text_of key)) kept).0 none may;
      children = λ key x mean s after h kept.
          one_of key x mean
          (member_child (text_of key) (position_in r k (text_of key)) (part k key mean) (is_absent r k (text_of key) x) (may_skip r d x) (is_null x) s after h
          (or_neither (is_absent r k (text_of key) x) (is_mark r k (text_of key)) kept).0);
    }
      where
        one_of : (key : Option L) (x : Node L) (mean : Place → Option Value)
            → ((v : Value) × (part k key mean ≡ Some v)) ⊎ ((position_in r k (text_of key) ≡ None) × (may_skip r d x ≡ true))
            → IsOneOf r k d (text_of key) x mean
        one_of key x mean (inl h) = let q = placed (place_in k (position_in r k (text_of key))) mean h.0 h.1 in inl (q.0, h.0, q.1, q.2, λ takes. cc)
        one_of key x mean (inr h) = inr (inr (tt, h.0, h.1))

  module _ (ss : List Member) where
    abbrev u : Kind
    u = union_of ss

    pub union_folds : FoldsBy r u as_object d variant_step
    union_folds = record {
      told = λ key x mean s after h.
          variant_told (text_of key) (position_in r u (text_of key)) (part u key mean) (is_absent r u (text_of key) x) (may_skip r d x) (is_null x) s after h;
      drops = λ key x mean s after h may.
          variant_drops (text_of key) (position_in r u (text_of key)) (part u key mean) (is_absent r u (text_of key) x) (may_skip r d x) (is_null x) s after h may;
      dropped = λ key x mean s told may.
          variant_dropped (text_of key) (position_in r u (text_of key)) (part u key mean) (is_absent r u (text_of key) x) (may_skip r d x) (is_null x) s told may;
      values = λ key x mean s q v told kept nil there means.
          let real = or_neither (is_absent r u (text_of key) x) (is_mark r u (text_of key)) kept in
          variant_value_step (text_of key) (position_in r u (text_of key)) (part u key mean) v (is_absent r u (text_of key) x) (may_skip r d x) (is_null x) s
          real.0 real.1 (means_at u key mean q v there means);
      nulls = λ key x mean s takes nil. cc;
      unknowns = λ key x mean s is kept none may. absurd is;
      children = λ key x mean s after h kept.
          let real = or_neither (is_absent r u (text_of key) x) (is_mark r u (text_of key)) kept in
          let v = variant_child (text_of key) (position_in r u (text_of key)) (part u key mean) (is_absent r u (text_of key) x) (may_skip r d x) (is_null x) s after h real.0 real.1 in
          let q = placed (place_in u (position_in r u (text_of key))) mean v.0 v.1 in
          inl (q.0, v.0, q.1, q.2, λ takes. cc);
    }

  module _ (c : ListShape) where
    abbrev l : Kind
    l = list_of c

    list_child : (x : Node L) (mean : Place → Option Value) (v : Value)
        → ((mean c.place ≡ Some v) × (is_sparse l ≡ true → is_null x ≡ false)) ⊎ ((is_sparse l ≡ true) × (is_null x ≡ true)) → IsOneOf r l d None x mean
    list_child x mean v (inl h) = inl (c.place, v, refl, h.0, h.1)
    list_child x mean v (inr h) = inr (inl h)

    pub list_folds : FoldsBy r l as_array d (element_step (is_sparse l))
    list_folds = record {
      told = λ key x mean s after h. tt;
      drops = λ key x mean s after h may. absurd (never_may (is_null x) may);
      dropped = λ key x mean s told may. absurd (never (is_null x) (may_skip r d x) may);
      values = λ key x mean s q v told kept nil there means.
          let at : c.place ≡ q = same_some c.place q there in
          ap (option_map (λ w. s ++ w ∷ [])) (element_value (is_sparse l) (is_null x) (mean c.place) v nil (ap mean at ∙ means));
      nulls = λ key x mean s takes nil.
          ap (option_map (λ w. s ++ w ∷ [])) (element_null (is_sparse l) (is_null x) (mean c.place) takes nil);
      unknowns = λ key x mean s is kept none may. absurd is;
      children = λ key x mean s after h kept.
          let v = made (λ w. s ++ w ∷ []) (element_of (is_sparse l) (is_null x) (mean c.place)) after h in
          list_child x mean v.0 (element_child (is_sparse l) (is_null x) (mean c.place) v.0 v.1);
    }

  module _ (c : MapShape) where
    abbrev e : Kind
    e = map_of c

    map_child : (text : Option (List ℕ)) (x : Node L) (mean : Place → Option Value) (v : Value)
        → ((mean c.place ≡ Some v) × (is_sparse e ≡ true → is_null x ≡ false)) ⊎ ((is_sparse e ≡ true) × (is_null x ≡ true)) → IsOneOf r e d text x mean
    map_child text x mean v (inl h) = inl (c.place, v, refl, h.0, h.1)
    map_child text x mean v (inr h) = inr (inl h)

    pub map_folds : FoldsBy r e as_object d (entry_step (is_sparse e))
    map_folds = record {
      told = λ key x mean s after h.
          keyed (text_of key) (λ k. option_map (λ v. put_entry k v s) (element_of (is_sparse e) (is_null x) (mean c.place))) after h;
      drops = λ key x mean s after h may. absurd (never_may (is_null x) may);
      dropped = λ key x mean s told may. absurd (never (is_null x) (may_skip r d x) may);
      values = λ key x mean s q v told kept nil there means.
          let at : c.place ≡ q = same_some c.place q there in
          at_key (text_of key) (λ k o. option_map (λ v. put_entry k v s) o)
          (element_of (is_sparse e) (is_null x) (mean c.place)) (element_of (is_sparse e) false (Some v))
          (element_value (is_sparse e) (is_null x) (mean c.place) v nil (ap mean at ∙ means));
      nulls = λ key x mean s takes nil.
          at_key (text_of key) (λ k o. option_map (λ v. put_entry k v s) o)
          (element_of (is_sparse e) (is_null x) (mean c.place)) (element_of (is_sparse e) true None)
          (element_null (is_sparse e) (is_null x) (mean c.place) takes nil);
      unknowns = λ key x mean s is kept none may. absurd is;
      children = λ key x mean s after h kept.
          let v = key_step (text_of key) (λ k w. put_entry k w s) (element_of (is_sparse e) (is_null x) (mean c.place)) after h in
          map_child (text_of key) x mean v.0 (element_child (is_sparse e) (is_null x) (mean c.place) v.0 v.1);
    }
