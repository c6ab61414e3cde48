-- What holds with the limits kept holds with them lifted.
use Rattle.std.specs.Prelude.{◌≡◌, ◌+◌, ◌&&◌, ◌||◌, ℕ, zero, suc, List, Option, Some, None, Bool, true, false, refl, option_and_then, option_map, cond, if◌then◌else◌}
use Rattle.std.proofs.Common.{sym, ◌∙◌, inl, inr}
use Rattle.smithy_declarations.specs.declared.place.Place.{Place}
use Rattle.smithy_declarations.specs.declared.shape_type.TimestampFormat.{TimestampFormat}
use Rattle.smithy_shapes.specs.Limits.{Limits, kept, lifted}
use Rattle.smithy_types.specs.Document.{Document, null, array, object, item, whole_document, properties_by, with_pair}
use Rattle.smithy_types.specs.declared.number.Number.{Number}
use Rattle.smithy_declarations.specs.Table.{Table, Kind, scalar, document, kind_of, place_in, where_document}
use Rattle.smithy_declarations.specs.Value.{document_value, null_element}
use Rattle.smithy_shapes.specs.Container.{Entry, folded, container_of}
use Rattle.smithy_schema.specs.Reading.{Mark, IsBelow}
use Rattle.smithy_shapes.specs.Lemmas.Options.{chosen}
use Rattle.smithy_wire.specs.Node.{Form, as_array, as_object, Node, null_node, leaf, container, missing, Nodes, no_nodes, node, nesting, all_pass, is_null}
use Rattle.smithy_wire.specs.Rules.{Answer, means, no_meaning, wide, uncarried, where_lifted, settled, Rules, lift, is_shallow, at_depth, may_skip, key_text, position_in, is_absent, is_mark}
use Rattle.smithy_wire.specs.Documents.{document_of, elements_of, pairs_of, lifted_null, document_by, document_meaning}
use Rattle.smithy_wire.specs.Meaning.{leaf_meaning, is_in, missing_meaning, entry_at, meaning, entries}
use Rattle.smithy_wire.specs.Frames.{Frames, Drops, DropsAll, StepsIn, relations}
use Rattle.smithy_wire.specs.Lemmas.Folds.{fold_of}

-- where o gives something, u gives it too
abbrev Rises : {A : Type 0} → Option A → Option A → Type 0
Rises {A = A} o u = (v : A) → o ≡ Some v → u ≡ Some v

settled_rises : {A : Type 0} (limits : Limits) (z : A) (answer : Answer A) → Rises (settled limits z answer) (settled lifted z answer)
settled_rises limits z (means v) u h = h
settled_rises limits z no_meaning u h = cc
settled_rises kept z wide u h = cc
settled_rises lifted z wide u h = h
settled_rises kept z uncarried u h = cc
settled_rises lifted z uncarried u h = h

chosen_rises : {A : Type 0} (b : Bool) (o u : Option A) → Rises o u → Rises (cond b o None) u
chosen_rises true o u up v h = up v h
chosen_rises false o u up v h = cc

then_rises : {A B : Type 0} (f g : A → Option B) (o u : Option A) → Rises o u → ((a : A) → Rises (f a) (g a)) → Rises (option_and_then f o) (option_and_then g u)
then_rises f g None u up on v h = cc
then_rises f g (Some a) u up on v h = rw (up a refl) (on a v h)

map_rises : {A B : Type 0} (f : A → B) (o u : Option A) → Rises o u → Rises (option_map f o) (option_map f u)
map_rises f None u up v h = cc
map_rises f (Some a) u up v h = rw (up a refl) h

pair_rises : (name : Option (List ℕ)) (d e : Option (Document Number)) (ps qs : Option (List (List ℕ × Document Number))) → Rises d e → Rises ps qs
    → Rises (with_pair name d ps) (with_pair name e qs)
pair_rises None d e ps qs one more v h = cc
pair_rises (Some text) None e ps qs one more v h = cc
pair_rises (Some text) (Some x) e None qs one more v h = cc
pair_rises (Some text) (Some x) e (Some xs) qs one more v h = rw (one x refl, more xs refl) h

where_rises : {A : Type 0} (k : Kind) (here there new_here new_there : Option A) → Rises here new_here → Rises there new_there
    → Rises (where_document k here there) (where_document k new_here new_there)
where_rises document here there new_here new_there one other v h = one v h
where_rises _ here there new_here new_there one other v h = other v h

null_rises : {A : Type 0} (limits : Limits) (z : A) → Rises (where_lifted limits z) (where_lifted lifted z)
null_rises kept z v h = cc
null_rises lifted z v h = h

skip_rises : (pass count deep : Bool) → (pass && (if count then deep else true)) ≡ true → (pass && (if count then true else true)) ≡ true
skip_rises true true deep h = refl
skip_rises true false deep h = refl
skip_rises false count deep h = cc

drop_rises_where : (absent mark skips may : Bool) → (skips ≡ true → may ≡ true) → (absent || mark && skips) ≡ true → (absent || mark && may) ≡ true
drop_rises_where true mark skips may up h = refl
drop_rises_where false true skips may up h = up h
drop_rises_where false false skips may up h = cc

module _ {L : Type 0} (r : Rules L) where
  may_skip_rises : (d : ℕ) (x : Node L) → may_skip r d x ≡ true → may_skip (lift r) d x ≡ true
  may_skip_rises d x h = skip_rises (all_pass r.may_skip_scalar x) r.skips_count (is_shallow r (d + nesting x)) h

  module _ (says : L → Answer (Document Number)) where
    mutual
      document_rises : (d : ℕ) (x : Node L) → Rises (document_of r says d x) (document_of (lift r) says d x)
      document_rises d null_node v h = (chosen (is_shallow r (suc d)) (Some null) v h).1
      document_rises d (leaf x) v h =
          settled_rises r.limits null (says x) v (chosen (is_shallow r (suc d)) (settled r.limits null (says x)) v h).1
      document_rises d (container as_array xs) v h =
          chosen_rises (is_shallow r (suc d)) (option_map array (elements_of r says (suc d) xs)) (option_map array (elements_of (lift r) says (suc d) xs))
          (map_rises array (elements_of r says (suc d) xs) (elements_of (lift r) says (suc d) xs) (elements_rise (suc d) xs)) v h
      document_rises d (container as_object xs) v h =
          let made = λ (pairs : List (List ℕ × Document Number)). object (properties_by pairs) in
          chosen_rises (is_shallow r (suc d)) (option_map made (pairs_of r says (suc d) xs)) (option_map made (pairs_of (lift r) says (suc d) xs))
          (map_rises made (pairs_of r says (suc d) xs) (pairs_of (lift r) says (suc d) xs) (pairs_rise (suc d) xs)) v h
      document_rises d missing v h = cc

      elements_rise : (d : ℕ) (xs : Nodes L) → Rises (elements_of r says d xs) (elements_of (lift r) says d xs)
      elements_rise d no_nodes v h = h
      elements_rise d (node key x xs) v h =
          then_rises (λ one. option_map (item one) (elements_of r says d xs)) (λ one. option_map (item one) (elements_of (lift r) says d xs))
          (document_of r says d x) (document_of (lift r) says d x) (document_rises d x)
          (λ one. map_rises (item one) (elements_of r says d xs) (elements_of (lift r) says d xs) (elements_rise d xs)) v h

      pairs_rise : (d : ℕ) (xs : Nodes L) → Rises (pairs_of r says d xs) (pairs_of (lift r) says d xs)
      pairs_rise d no_nodes v h = h
      pairs_rise d (node key x xs) v h =
          pair_rises (key_text r as_object key) (document_of r says d x) (document_of (lift r) says d x) (pairs_of r says d xs) (pairs_of (lift r) says d xs)
          (document_rises d x) (pairs_rise d xs) v h

  lifted_null_rises : (x : Node L) → Rises (lifted_null r x) (lifted_null (lift r) x)
  lifted_null_rises null_node v h = null_rises r.limits null_element v h
  lifted_null_rises (leaf x) v h = null_rises r.limits null_element v h
  lifted_null_rises (container f xs) v h = null_rises r.limits null_element v h
  lifted_null_rises missing v h = cc

  document_meaning_rises : (d : ℕ) (x : Node L) → Rises (document_meaning r d x) (document_meaning (lift r) d x)
  document_meaning_rises d x = by r.documents
    where
      by : (o : Option (L → Answer (Document Number))) → Rises (document_by r o d x) (document_by (lift r) o d x)
      by None v h = lifted_null_rises x v h
      by (Some says) v h =
          map_rises (λ u. document_value (whole_document u)) (document_of r says d x) (document_of (lift r) says d x) (document_rises says d x) v h

  leaf_rises : (k : Kind) (time : Option TimestampFormat) (x : L) → Rises (leaf_meaning r k time x) (leaf_meaning (lift r) k time x)
  leaf_rises (scalar s) time x v h = settled_rises r.limits null_element (r.says s time x) v h
  leaf_rises _ time x v h = cc

  -- a container's entries that give no less together
  inside_rises : (k : Kind) (f : Form) (es us : List Entry) → ((within : is_in k f ≡ true) (s : (fold_of k f within).S)
      → Rises (folded (fold_of k f within).step s es) (folded (fold_of k f within).step s us))
      → Rises (if is_in k f then container_of k es else None) (if is_in k f then container_of k us else None)
  inside_rises k f es us up v h = go (is_in k f) refl (chosen (is_in k f) (container_of k es) v h)
    where
      go : (b : Bool) → is_in k f ≡ b → (is_in k f ≡ true) × (container_of k es ≡ Some v) → (if is_in k f then container_of k us else None) ≡ Some v
      go b is (within, meant) =
          let fold = fold_of k f within in
          rw within (fold.whole us ∙ then_rises fold.finish fold.finish (folded fold.step fold.first es) (folded fold.step fold.first us)
          (up within fold.first) (λ s z e. e) v (sym (fold.whole es) ∙ meant))

  mutual
    pub meaning_rises : (t : Table) (d : ℕ) (x : Node L) (p : Place) → Rises (meaning r t p d x) (meaning (lift r) t p d x)
    meaning_rises t d null_node p v h =
        where_rises (kind_of t p) (document_meaning r d null_node) None (document_meaning (lift r) d null_node) None (document_meaning_rises d null_node) (λ u none. none) v h
    meaning_rises t d (leaf x) p v h =
        where_rises (kind_of t p) (document_meaning r d (leaf x)) (leaf_meaning r (kind_of t p) p.time x) (document_meaning (lift r) d (leaf x))
        (leaf_meaning (lift r) (kind_of t p) p.time x) (document_meaning_rises d (leaf x)) (leaf_rises (kind_of t p) p.time x) v h
    meaning_rises t d (container f xs) p v h =
        let es = entries r t p f (suc d) xs in
        let us = entries (lift r) t p f (suc d) xs in
        let old = if is_in (kind_of t p) f then container_of (kind_of t p) es else None in
        let new = if is_in (kind_of t p) f then container_of (kind_of t p) us else None in
        where_rises (kind_of t p) (document_meaning r d (container f xs)) (at_depth r (suc d) old) (document_meaning (lift r) d (container f xs)) new
        (document_meaning_rises d (container f xs))
        (chosen_rises (is_shallow r (suc d)) old new (inside_rises (kind_of t p) f es us (λ within s. entries_rise t (suc d) xs p f within s))) v h
    meaning_rises t d missing p v h = (chosen (is_shallow r (suc d)) (missing_meaning (kind_of t p)) v h).1

    entries_rise : (t : Table) (d : ℕ) (xs : Nodes L) (p : Place) (f : Form) (within : is_in (kind_of t p) f ≡ true) (s : (fold_of (kind_of t p) f within).S)
        → Rises (folded (fold_of (kind_of t p) f within).step s (entries r t p f d xs)) (folded (fold_of (kind_of t p) f within).step s (entries (lift r) t p f d xs))
    entries_rise t d no_nodes p f within s v h = h
    entries_rise t d (node key x xs) p f within s v h =
        let k = kind_of t p in
        let fold = fold_of k f within in
        let text = key_text r f key in
        let place = place_in k (position_in r k text) in
        then_rises (λ next. folded fold.step next (entries r t p f d xs)) (λ next. folded fold.step next (entries (lift r) t p f d xs))
        (fold.step (entry_at r k f d key x (λ q. meaning r t q d x)) s) (fold.step (entry_at (lift r) k f d key x (λ q. meaning (lift r) t q d x)) s)
        (λ next. fold.rises text (position_in r k text) (option_and_then (λ q. meaning r t q d x) place) (option_and_then (λ q. meaning (lift r) t q d x) place)
        (is_absent r k text x) (may_skip r d x) (may_skip (lift r) d x) (is_null x) s next
        (then_rises (λ q. meaning r t q d x) (λ q. meaning (lift r) t q d x) place place (λ q e. e) (λ q. meaning_rises t d x q))
        (may_skip_rises d x))
        (λ next. entries_rise t d xs p f within next) v h

module _ {L : Type 0} (w : Frames L) (r : Rules L) where
  drop_rises : (k : Kind) (f : Form) (i : List ℕ) (d b : ℕ) (m : Mark) (e : ℕ) (n : Mark) → Drops w r k f i d b m e n → Drops w (lift r) k f i d b m e n
  drop_rises k f i d b m e n h = record {
    key = h.key;
    at = h.at;
    child = h.child;
    entry = h.entry;
    told = h.told;
    lies = h.lies;
    dropped = drop_rises_where (is_absent r k (key_text r f h.key) h.child) (is_mark r k (key_text r f h.key)) (may_skip r d h.child) (may_skip (lift r) d h.child)
        (may_skip_rises r d h.child) h.dropped;
  }

  drops_rise : (k : Kind) (f : Form) (count : ℕ) (i : List ℕ) (d b : ℕ) (m : Mark) (e : ℕ) (n : Mark) → DropsAll w r k f count i d b m e n
      → DropsAll w (lift r) k f count i d b m e n
  drops_rise k f zero i d b m e n h = h
  drops_rise k f (suc count) i d b m e n (c, j, one, more) = (c, j, drop_rises k f i d b m c j one, drops_rise k f count i d c j e n more)

  steps_rise : (k : Kind) (f : Form) (i : List ℕ) (d b : ℕ) (m : Mark) (text : Option (List ℕ)) (c : ℕ) (n : Mark) → StepsIn w r k f i d b m text c n
      → StepsIn w (lift r) k f i d b m text c n
  steps_rise k f i d b m text c n h = record {
    count = h.count;
    at = h.at;
    mark = h.mark;
    drops = drops_rise k f h.count i d b m h.at h.mark h.drops;
    key = h.key;
    entry = h.entry;
    told = h.told;
    names = h.names;
    unmarked = h.unmarked;
    stays = h.stays;
  }

  closes_rise : (i : List ℕ) (t : Table) (p : Place) (d b : ℕ) (m : Mark) (e : ℕ) → (relations w r).closes i t p d b m e → (relations w (lift r)).closes i t p d b m e
  closes_rise i t p d b m e (inl (f, within, ends, follows)) =
      inl (f, within, (ends.0, ends.1, ends.2, drops_rise (kind_of t p) f ends.0 i d b m ends.1 ends.2 ends.3, ends.4), follows)
  closes_rise i t p d b m e (inr h) = inr h

  pub lifting_is_below : IsBelow (relations w r) (relations w (lift r))
  lifting_is_below = record {
    position = λ t p key. refl;
    begins_null = λ i a. refl;
    allows = λ d h. refl;
    stands = λ i t p d a v e h. (h.0, h.1, meaning_rises r t d h.0 p v h.2, h.3);
    nulls = λ i d a e h. h;
    skips = λ i d a e h. (h.0, h.1, may_skip_rises r d h.0 h.2);
    opens = λ i t p d a b m h. h;
    steps = λ i t p d b m key c n h. (h.0, h.1, steps_rise (kind_of t p) h.0 i d b m key c n h.2);
    closes = closes_rise;
  }
