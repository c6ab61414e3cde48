-- Children in the order of their labels.
use Rattle.std.specs.Prelude.{◌≡◌, ℕ, List, [], ◌∷◌, ◌++◌, take, drop}
use Rattle.std.specs.declared.cmp.Ordering.{Ordering}
use Rattle.std.specs.Ordering.{nat_cmp, match_ordering}
use Rattle.std.specs.Cmp.Lexicographic.{slice_cmp}
use Rattle.smithy_tree.specs.Nodes.{IsLabel, slot_key}
use Rattle.smithy_tree.specs.Seen.{Grows, store}
use Rattle.smithy_tree.specs.declared.node.Slot.{Slot}
use Rattle.smithy_tree.specs.declared.order.Order.{Order}
use Rattle.smithy_tree.specs.declared.order.Order.TheVariants as orders
use Rattle.smithy_tree.specs.declared.pool.Pool.{Pool}

abbrev pub position_cmp : Slot → Slot → Ordering
position_cmp x y = nat_cmp x.first y.first

abbrev pub key_cmp : List ℕ → Slot → Slot → Ordering
key_cmp bytes x y = slice_cmp nat_cmp (slot_key bytes x) (slot_key bytes y)

abbrev pub label_cmp : Order → List ℕ → Slot → Slot → Ordering
label_cmp orders.Positions bytes x y = position_cmp x y
label_cmp orders.Keys bytes x y = key_cmp bytes x y

-- children with this one at its place, and no other with an equal label
abbrev pub put_slot : (Slot → Slot → Ordering) → Slot → List Slot → List Slot
put_slot cmp x [] = x ∷ []
put_slot cmp x (y ∷ ys) = match_ordering (cmp x y) (x ∷ y ∷ ys) (x ∷ ys) (y ∷ put_slot cmp x ys)

-- children that are put one after another
abbrev pub put_slots : (Slot → Slot → Ordering) → List Slot → List Slot → List Slot
put_slots cmp ys [] = ys
put_slots cmp ys (x ∷ xs) = put_slots cmp (put_slot cmp x ys) xs

-- each has a label
abbrev pub AreLabelled : List ℕ → List ℕ → List Slot → Type 0
AreLabelled input side [] = Unit {0}
AreLabelled input side (x ∷ xs) = IsLabel input side x.first x.second × AreLabelled input side xs

-- the child of a pair
abbrev pub second : {K : Type 0} → K × Slot → Slot
second e = e.1

-- those that wait from a place on are in order, and nothing else is changed
pub record Arranges (p q : Pool) (cmp : Slot → Slot → Ordering) (begin : ℕ) : Type 0 where
  pub grows : Grows p q
  pub store : store q ≡ store p
  pub nodes : q.nodes.items ≡ p.nodes.items
  pub waiting : q.waiting.items ≡ take begin p.waiting.items ++ put_slots cmp [] (drop begin p.waiting.items)
