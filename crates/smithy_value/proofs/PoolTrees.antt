-- Trees of a pool, as they are made and seen.
use Rattle.std.proofs.Common.{◌≡◌, ◌∙◌, ◌<◌, ◌≤◌, ◌+◌, ℕ, zero, suc, List, [], ◌∷◌, ◌++◌, map as mapped, refl, ap, sym, length, take, drop, get_or, append_assoc, length-append, arith}
use Rattle.std.proofs.lemmas.List.{append-nil, drop_at, take_at, drop-append-le}
use Rattle.smithy_declarations.specs.Value.{Value, Values, value, values_of, MemberValues, no_member_values, member_value, put_member, MapEntries, no_map_entries, map_entry, put_entry, list, union}
use Rattle.smithy_tree.specs.Items.{Item, nothing, elements_of, entries_of, members_of, put_members, put_entries}
use Rattle.smithy_tree.specs.Nodes.{IsLabel, union_of, values_over}
use Rattle.smithy_tree.specs.Seen.{IsSound, ElementsStand, Grows, Holds, HoldsSlot, Waits, Closes, PutsElement, PutsElements, ClosesElements, store, values, view, waiting, item_in, elements_in}
use Rattle.smithy_tree.specs.declared.elements.Elements.{Elements}
use Rattle.smithy_tree.specs.declared.node.Node.{Node}
use Rattle.smithy_tree.specs.declared.node.Node.TheVariants as nodes
use Rattle.smithy_tree.specs.declared.node.Slot.{Slot}
use Rattle.smithy_tree.specs.declared.pool.Pool.{Pool}
use Rattle.smithy_tree.proofs.Growing.{length_values_after, slot_stays}
use Rattle.smithy_tree.proofs.Storing.{slot_kept}
use Rattle.smithy_tree.proofs.Seeing.{grows_self, grows_twice}
use Rattle.smithy_value.specs.Building.{IsMade}
use Rattle.smithy_value.specs.Pooled.{Keeps, Begun, BegunElements, slot_view, key_in, waiting_members, waiting_entries}
use Rattle.smithy_value.specs.Tree.{keyed_views, placed_views}

-- ---- single trees

pub unlabelled : (i s : List ℕ) (at : ℕ) → IsLabel i s at 0
unlabelled i s at = record { key = λ some. absurd (omega (arith, some)) }

-- a node without a label
pub holds_bare : (p : Pool) (x : Slot) (n : Node) → x.node ≡ n → x.second ≡ 0 → Holds p n → HoldsSlot p x
holds_bare p x n is bare holds = (rw is holds, rw bare (unlabelled p.input.now p.side.items x.first))

-- a tree that stands there still does as the pool grows
pub stands_still : (p q : Pool) (x : Slot) → Grows p q → HoldsSlot p x → HoldsSlot q x
stands_still p q x g h =
    let a = length_values_after (store p) [] p.nodes.items in
    let b = length_values_after (store q) [] q.nodes.items in
    let more : length (values q) ≡ length (values p) + length g.more = rw g.values (length-append (values p) g.more) in
    let longer : length p.nodes.items ≤ length q.nodes.items = omega (arith, a, b, more) in
    rw (g.input, g.side, g.rare, g.numbers) (slot_kept (store p) g.copied g.kept g.counted (length q.nodes.items) x (slot_stays (store p) (length p.nodes.items) (length q.nodes.items) x longer h))

pub made_here : (p : Pool) (x : Slot) (v : Value) → IsSound p → HoldsSlot p x → slot_view p x ≡ v → IsMade Keeps HoldsSlot slot_view p p v x
made_here p x v sound holds shows = record {
  grown = record { grows = grows_self p sound; waits = refl };
  here = holds;
  shown = shows;
}

-- ---- containers that are half built

pub begun_none : (p : Pool) (begin : ℕ) → IsSound p → begin ≡ length (waiting p) → Begun p p begin
begun_none p begin sound begins = record {
  grows = grows_self p sound;
  items = [];
  waits = sym (append-nil (waiting p));
  begins = begins;
}

pub begun_no_elements : (p : Pool) (e : Elements) → IsSound p → ElementsStand p e → e.waiting_from ≡ length (waiting p) → BegunElements p p e
begun_no_elements p e sound half begins = record {
  grows = grows_self p sound;
  half = half;
  items = [];
  waits = sym (append-nil (waiting p));
  begins = begins;
}

-- one more element of a list
pub begun_more_elements : (p q r : Pool) (e f : Elements) (v : Value) → BegunElements p q e → PutsElement q r e f v → BegunElements p r f
begun_more_elements p q r e f v b put = record {
  grows = grows_twice p q r b.grows put.grows;
  half = put.half;
  items = b.items ++ put.added;
  waits = put.waiting ∙ (ap (λ (ws : List Item). ws ++ put.added) b.waits ∙ append_assoc (waiting p) b.items put.added);
  begins = put.begins ∙ b.begins;
}

-- several more
pub begun_many_elements : (p q r : Pool) (e f : Elements) (vs : List Value) → BegunElements p q e → PutsElements q r e f vs → BegunElements p r f
begun_many_elements p q r e f vs b put = record {
  grows = grows_twice p q r b.grows put.grows;
  half = put.half;
  items = b.items ++ put.added;
  waits = put.waiting ∙ (ap (λ (ws : List Item). ws ++ put.added) b.waits ∙ append_assoc (waiting p) b.items put.added);
  begins = put.begins ∙ b.begins;
}

begins_within : (p q : Pool) (begin : ℕ) → Begun p q begin → begin ≤ length (waiting q)
begins_within p q begin b = rw b.waits (omega (arith, b.begins, length-append (waiting p) b.items))

-- one more child waits
waiting_more : (p q r : Pool) (begin : ℕ) (x : Item) → Begun p q begin → waiting r ≡ waiting q ++ x ∷ [] → drop begin (waiting r) ≡ drop begin (waiting q) ++ x ∷ []
waiting_more p q r begin x b w =
    ap (λ (ys : List Item). drop begin ys) w ∙ drop-append-le begin (waiting q) (x ∷ []) (begins_within p q begin b)

member_more : (ms : MemberValues) (xs : List Item) (x : Item) → put_members ms (xs ++ x ∷ []) ≡ put_member x.position x.shown (put_members ms xs)
member_more ms [] x = refl
member_more ms (y ∷ ys) x = member_more (put_member y.position y.shown ms) ys x

entry_more : (es : MapEntries) (xs : List Item) (x : Item) → put_entries es (xs ++ x ∷ []) ≡ put_entry x.key x.shown (put_entries es xs)
entry_more es [] x = refl
entry_more es (y ∷ ys) x = entry_more (put_entry y.key y.shown es) ys x

pub members_more : (p q r : Pool) (begin : ℕ) (x : Item) → Begun p q begin → waiting r ≡ waiting q ++ x ∷ [] → waiting_members r begin ≡ put_member x.position x.shown (waiting_members q begin)
members_more p q r begin x b w =
    ap (λ (xs : List Item). put_members no_member_values xs) (waiting_more p q r begin x b w) ∙ member_more no_member_values (drop begin (waiting q)) x

pub entries_more : (p q r : Pool) (begin : ℕ) (x : Item) → Begun p q begin → waiting r ≡ waiting q ++ x ∷ [] → waiting_entries r begin ≡ put_entry x.key x.shown (waiting_entries q begin)
entries_more p q r begin x b w =
    ap (λ (xs : List Item). put_entries no_map_entries xs) (waiting_more p q r begin x b w) ∙ entry_more no_map_entries (drop begin (waiting q)) x

-- ---- containers that were made

-- the children that waited since p are gone
pub built : (p q r : Pool) (begin : ℕ) (x : Slot) (v : Value) → Begun p q begin → Grows q r → waiting r ≡ take begin (waiting q) → HoldsSlot r x → slot_view r x ≡ v → IsMade Keeps HoldsSlot slot_view p r v x
built p q r begin x v b g w holds shows = record {
  grown = record {
    grows = grows_twice p q r b.grows g;
    waits = w ∙ (ap (λ (ys : List Item). take begin ys) b.waits ∙ take_at (waiting p) b.items begin (sym b.begins));
  };
  here = holds;
  shown = shows;
}

pub list_made : (p q r : Pool) (e : Elements) (n : Node) (x : Slot) → x.node ≡ n → x.second ≡ 0 → ClosesElements q r e n → BegunElements p q e → IsMade Keeps HoldsSlot slot_view p r (list (values_of (elements_in q e))) x
list_made p q r e n x is bare c b =
    let begun : Begun p q e.waiting_from = record { grows = b.grows; items = b.items; waits = b.waits; begins = b.begins } in
    built p q r e.waiting_from x (list (values_of (elements_in q e))) begun c.grows c.waiting (holds_bare r x n is bare c.holds) (ap (view r) is ∙ c.shows)

-- the one child of a union
only_child : (vs : List Item) (at count : ℕ) (v d : Item) → take count (drop at vs) ≡ v ∷ [] → (at < length vs) × (get_or vs at d ≡ v)
only_child [] zero zero v d is = cc
only_child [] zero (suc c) v d is = cc
only_child [] (suc at) zero v d is = cc
only_child [] (suc at) (suc c) v d is = cc
only_child (x ∷ xs) zero zero v d is = cc
only_child (x ∷ xs) zero (suc c) v d is = (omega arith, ap (λ (ys : List Item). get_or ys 0 d) is)
only_child (x ∷ xs) (suc at) count v d is =
    let rest = only_child xs at count v d is in
    (omega (arith, rest.0), rest.1)

pub union_made : (p q r : Pool) (begin at count : ℕ) (child x : Slot) → IsSound p → begin ≡ length (waiting p) → Waits p q (item_in p child) → Closes q r begin at count → x.node ≡ nodes.Union at → x.second ≡ 0
    → IsMade Keeps HoldsSlot slot_view p r (union child.first (slot_view p child)) x
union_made p q r begin at count child x sound begins w c is bare =
    let v = item_in p child in
    let one : drop begin (waiting q) ≡ v ∷ [] = ap (λ (ys : List Item). drop begin ys) w.waiting ∙ drop_at (waiting p) (v ∷ []) begin (sym begins) in
    let only = only_child (values r) at count v nothing (c.shows ∙ one) in
    let holds : at < length r.nodes.items = omega (arith, only.0, length_values_after (store r) [] r.nodes.items) in
    let b : Begun p q begin = record { grows = w.grows; items = v ∷ []; waits = w.waiting; begins = begins } in
    built p q r begin x (union child.first (slot_view p child)) b c.grows c.waiting (holds_bare r x (nodes.Union at) is bare holds) (ap (view r) is ∙ ap union_of only.1)

-- ---- children that are seen

pub elements_seen : (p : Pool) (xs : List Slot) → elements_of (values_over (store p) (values p) xs) ≡ values_of (mapped (slot_view p) xs)
elements_seen p [] = refl
elements_seen p (x ∷ xs) = ap (λ (vs : Values). value (slot_view p x) vs) (elements_seen p xs)

pub entries_seen : (p : Pool) (xs : List Slot) → entries_of (values_over (store p) (values p) xs) ≡ keyed_views (slot_view p) (key_in p) xs
entries_seen p [] = refl
entries_seen p (x ∷ xs) = ap (λ (es : MapEntries). map_entry (key_in p x) (slot_view p x) es) (entries_seen p xs)

pub members_seen : (p : Pool) (xs : List Slot) → members_of (values_over (store p) (values p) xs) ≡ placed_views (slot_view p) (λ (x : Slot). x.first) xs
members_seen p [] = refl
members_seen p (x ∷ xs) = ap (λ (ms : MemberValues). member_value x.first (slot_view p x) ms) (members_seen p xs)
