-- Trees in a pool, as a reader builds them and a writer goes through them.
use Rattle.std.specs.Prelude.{◌≡◌, ℕ, List, ◌++◌, length, drop}
use Rattle.smithy_declarations.specs.Value.{Value, MapEntries, no_map_entries, MemberValues, no_member_values}
use Rattle.smithy_tree.specs.Items.{Item, put_members, put_entries}
use Rattle.smithy_tree.specs.Nodes.{slot_key}
use Rattle.smithy_tree.specs.Seen.{IsSound, ElementsStand, Grows, bytes_of, view, waiting}
use Rattle.smithy_tree.specs.declared.elements.Elements.{Elements}
use Rattle.smithy_tree.specs.declared.node.Slot.{Slot}
use Rattle.smithy_tree.specs.declared.pool.Pool.{Pool}

-- what a child stands for, without its label
abbrev pub slot_view : Pool → Slot → Value
slot_view p s = view p s.node

-- the key of a child that is an entry of a map
abbrev pub key_in : Pool → Slot → List ℕ
key_in p s = slot_key (bytes_of p) s

-- the pool is sound, and one of this input
pub record IsPoolOf (p : Pool) (bytes : List ℕ) : Type 0 where
  pub sound : IsSound p
  pub input : p.input.now ≡ bytes

-- the pool q has grown from p, and the same children wait
pub record Keeps (p q : Pool) : Type 0 where
  pub grows : Grows p q
  pub waits : waiting q ≡ waiting p

-- the pool q has grown from p, and behind the children that waited in p others wait, which are of this list
pub record BegunElements (p q : Pool) (e : Elements) : Type 0 where
  pub grows : Grows p q
  pub half : ElementsStand q e
  pub items : List Item
  pub waits : waiting q ≡ waiting p ++ items
  pub begins : e.waiting_from ≡ length (waiting p)

-- the pool q has grown from p, and behind the children that waited in p others wait from `begin` on
pub record Begun (p q : Pool) (begin : ℕ) : Type 0 where
  pub grows : Grows p q
  pub items : List Item
  pub waits : waiting q ≡ waiting p ++ items
  pub begins : begin ≡ length (waiting p)

-- the children that wait from `begin` on
abbrev pub waiting_entries : Pool → ℕ → MapEntries
waiting_entries p begin = put_entries no_map_entries (drop begin (waiting p))

abbrev pub waiting_members : Pool → ℕ → MemberValues
waiting_members p begin = put_members no_member_values (drop begin (waiting p))
