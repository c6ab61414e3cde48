-- What a pool stands for.
use Rattle.std.specs.Prelude.{◌≡◌, ◌+◌, ◌-◌, ◌≤◌, ◌<◌, ℕ, ℤ, List, [], ◌∷◌, ◌++◌, map as mapped, length, take, drop}
use Rattle.smithy_declarations.specs.Value.{Value, list, values_of, no_member_values, no_map_entries}
use Rattle.smithy_tree.specs.Items.{Item, shown_of, whole_values, members_of, put_members, entries_of, put_entries}
use Rattle.smithy_tree.specs.Nodes.{Store, bytes_in, slice_of, rare_value, node_value, values_over, values_after, item, IsNode, IsSlot, IsPart, AreNodes, AreBehind}
use Rattle.smithy_tree.specs.declared.elements.Elements.{Elements}
use Rattle.smithy_tree.specs.declared.node.Node.{Node}
use Rattle.smithy_tree.specs.declared.node.Slot.{Slot}
use Rattle.smithy_tree.specs.declared.pool.Pool.{Pool}

abbrev pub store : Pool → Store
store p = record { input = p.input.now; side = p.side.items; rare = mapped rare_value p.rare.items; numbers = p.numbers.items }

-- the bytes of the input and those beside it
abbrev pub bytes_of : Pool → List ℕ
bytes_of p = bytes_in (store p)

abbrev pub values : Pool → List Item
values p = values_after (store p) [] p.nodes.items

abbrev pub view : Pool → Node → Value
view p n = node_value (store p) (values p) n

-- the values that wait for their container
abbrev pub waiting : Pool → List Item
waiting p = values_over (store p) (values p) p.waiting.items

abbrev pub Holds : Pool → Node → Type 0
Holds p n = IsNode (store p) (length p.nodes.items) n

abbrev pub item_in : Pool → Slot → Item
item_in p s = item (store p) (values p) s

abbrev pub HoldsSlot : Pool → Slot → Type 0
HoldsSlot p s = IsSlot (store p) (length p.nodes.items) s

-- each node stands behind its children, and those that wait behind all
pub record IsSound (p : Pool) : Type 0 where
  pub nodes : AreBehind (store p) 0 p.nodes.items
  pub waiting : AreNodes (store p) (length p.nodes.items) p.waiting.items

-- nothing that was there is changed
pub record Grows (p q : Pool) : Type 0 where
  pub sound : IsSound q
  pub input : q.input.now ≡ p.input.now
  pub copied : List ℕ
  pub side : q.side.items ≡ p.side.items ++ copied
  pub kept : List Value
  pub rare : mapped rare_value q.rare.items ≡ mapped rare_value p.rare.items ++ kept
  pub counted : List ℤ
  pub numbers : q.numbers.items ≡ p.numbers.items ++ counted
  pub more : List Item
  pub values : values q ≡ values p ++ more

-- a node over a pool that has grown
pub record Adds (p q : Pool) (n : Node) : Type 0 where
  pub grows : Grows p q
  pub holds : Holds q n
  pub waiting : waiting q ≡ waiting p

-- the bytes stand there, and nothing waits that didn't
pub record HasBytes (p q : Pool) (at size : ℕ) (t : List ℕ) : Type 0 where
  pub grows : Grows p q
  pub waiting : waiting q ≡ waiting p
  pub part : IsPart q.input.now q.side.items at size
  pub bytes : slice_of (bytes_of q) at size ≡ t

-- one more that waits
pub record Waits (p q : Pool) (v : Item) : Type 0 where
  pub grows : Grows p q
  pub waiting : waiting q ≡ waiting p ++ v ∷ []

-- those that wait from a place on have become children, so many from a place on
pub record Closes (p q : Pool) (begin at count : ℕ) : Type 0 where
  pub grows : Grows p q
  pub behind : at ≡ length p.nodes.items
  pub holds : at + count ≤ length q.nodes.items
  pub shows : take count (drop at (values q)) ≡ drop begin (waiting p)
  pub waiting : waiting q ≡ take begin (waiting p)

-- those that wait from a place on have become members, of which the last of a position counts
pub record ClosesMembers (p q : Pool) (begin at count : ℕ) : Type 0 where
  pub grows : Grows p q
  pub holds : at + count ≤ length q.nodes.items
  pub shows : members_of (take count (drop at (values q))) ≡ put_members no_member_values (drop begin (waiting p))
  pub waiting : waiting q ≡ take begin (waiting p)

-- those that wait from a place on have become entries, of which the last of a key counts
pub record ClosesEntries (p q : Pool) (begin at count : ℕ) : Type 0 where
  pub grows : Grows p q
  pub holds : at + count ≤ length q.nodes.items
  pub shows : entries_of (take count (drop at (values q))) ≡ put_entries no_map_entries (drop begin (waiting p))
  pub waiting : waiting q ≡ take begin (waiting p)

-- the numbers with which a list begins that is half built
abbrev pub numbers_in : Pool → Elements → List ℤ
numbers_in p e = take (e.numbers_to - e.numbers_from) (drop e.numbers_from p.numbers.items)

-- the elements of a list that is half built: its numbers, and behind them those that wait
abbrev pub elements_in : Pool → Elements → List Value
elements_in p e = whole_values (numbers_in p e) ++ shown_of (drop e.waiting_from (waiting p))

-- these elements stand in the pool
pub record ElementsStand (p : Pool) (e : Elements) : Type 0 where
  pub ordered : e.numbers_from ≤ e.numbers_to
  pub numbers : e.numbers_to ≤ length p.numbers.items
  pub waiting : e.waiting_from ≤ length (waiting p)

-- whole numbers alone, one at least: the list takes no memory
pub record AreNumbersAlone (p : Pool) (e : Elements) : Type 0 where
  pub some : e.numbers_from < e.numbers_to
  pub none_waits : length (waiting p) ≡ e.waiting_from

-- an element stands behind the others
pub record PutsElement (p q : Pool) (e f : Elements) (v : Value) : Type 0 where
  pub grows : Grows p q
  pub half : ElementsStand q f
  pub begins : f.waiting_from ≡ e.waiting_from
  pub added : List Item
  pub waiting : waiting q ≡ waiting p ++ added
  pub elements : elements_in q f ≡ elements_in p e ++ v ∷ []

-- these values have come behind the elements
pub record PutsElements (p q : Pool) (e f : Elements) (vs : List Value) : Type 0 where
  pub grows : Grows p q
  pub half : ElementsStand q f
  pub begins : f.waiting_from ≡ e.waiting_from
  pub added : List Item
  pub waiting : waiting q ≡ waiting p ++ added
  pub elements : elements_in q f ≡ elements_in p e ++ vs

-- the elements have become those of a list
pub record ClosesElements (p q : Pool) (e : Elements) (n : Node) : Type 0 where
  pub grows : Grows p q
  pub holds : Holds q n
  pub shows : view q n ≡ list (values_of (elements_in p e))
  pub waiting : waiting q ≡ take e.waiting_from (waiting p)
