-- More bytes beside the input, more rare values and more numbers leave what nodes stand for.
use Rattle.std.proofs.Common.{◌≡◌, refl, ap, ℕ, ℤ, ◌+◌, ◌≤◌, List, [], ◌∷◌, ◌++◌, length, take, drop, append_assoc, length-append, arith, suc, zero}
use Rattle.smithy_declarations.specs.Value.{Value, scalar_value, text, bytes, list, null_element, values_of}
use Rattle.smithy_tree.specs.Items.{Item, whole_values}
use Rattle.smithy_tree.specs.Nodes.{Store, node_value, values_over, values_after, item, IsPart, IsSpan, IsLabel, IsNode, IsSlot, AreNodes, AreBehind}
use Rattle.smithy_tree.specs.declared.node.Node.{Node}
use Rattle.smithy_tree.specs.declared.node.Slot.{Slot}
use Rattle.smithy_tree.specs.declared.node.Node.TheVariants as nodes
use Rattle.smithy_tree.proofs.Growing.{part_stays, get_stays}

-- the store with more bytes, more rare values and more numbers
abbrev pub more : Store → List ℕ → List Value → List ℤ → Store
more s t r ns = record { input = s.input; side = s.side ++ t; rare = s.rare ++ r; numbers = s.numbers ++ ns }

bytes_stay : (i s t : List ℕ) (at size : ℕ) → at + size ≤ length i + length s → take size (drop at (i ++ (s ++ t))) ≡ take size (drop at (i ++ s))
bytes_stay i s t at size within =
    let fits : at + size ≤ length (i ++ s) = omega (arith, within, length-append i s) in
    rw (← append_assoc i s t) (part_stays at size (i ++ s) t fits)

part_kept : (i s t : List ℕ) (at size : ℕ) → IsPart i s at size → IsPart i (s ++ t) at size
part_kept i s t at size is = record {
  within = omega (arith, is.within, length-append s t);
  apart = is.apart;
}

span_kept : (i s t : List ℕ) (at size : ℕ) → IsSpan i s at size → IsSpan i (s ++ t) at size
span_kept i s t at size is = record {
  part = part_kept i s t at size is.part;
  text = rw (bytes_stay i s t at size is.part.within) is.text;
}

pub label_kept : (i s t : List ℕ) (at size : ℕ) → IsLabel i s at size → IsLabel i (s ++ t) at size
label_kept i s t at size is = record { key = λ some. span_kept i s t at size (is.key some) }

key_kept : (i s t : List ℕ) (at size : ℕ) → IsLabel i s at size → take size (drop at (i ++ (s ++ t))) ≡ take size (drop at (i ++ s))
key_kept i s t at zero is = refl
key_kept i s t at (suc n) is = bytes_stay i s t at (suc n) (is.key (omega arith)).part.within

pub node_kept : (s : Store) (t : List ℕ) (r : List Value) (ns : List ℤ) (k : ℕ) (n : Node) → IsNode s k n → IsNode (more s t r ns) k n
node_kept s t r ns k (nodes.Boolean b) is = is
node_kept s t r ns k (nodes.Whole n) is = is
node_kept s t r ns k (nodes.Timestamp nanos secs) is = is
node_kept s t r ns k (nodes.Text at size) is = span_kept s.input s.side t at size is
node_kept s t r ns k (nodes.Bytes at size) is = part_kept s.input s.side t at size is
node_kept s t r ns k (nodes.List at count) is = is
node_kept s t r ns k (nodes.Numbers at count) is = omega (arith, is, length-append s.numbers ns)
node_kept s t r ns k (nodes.Map at count) is = is
node_kept s t r ns k (nodes.Structure at count) is = is
node_kept s t r ns k (nodes.Union at) is = is
node_kept s t r ns k nodes.Null is = is
node_kept s t r ns k (nodes.Rare n) is = omega (arith, is, length-append s.rare r)

pub slot_kept : (s : Store) (t : List ℕ) (r : List Value) (ns : List ℤ) (k : ℕ) (x : Slot) → IsSlot s k x → IsSlot (more s t r ns) k x
slot_kept s t r ns k x is = (node_kept s t r ns k x.node is.0, label_kept s.input s.side t x.first x.second is.1)

pub nodes_kept : (s : Store) (t : List ℕ) (r : List Value) (ns : List ℤ) (k : ℕ) (xs : List Slot) → AreNodes s k xs → AreNodes (more s t r ns) k xs
nodes_kept s t r ns k [] are = tt
nodes_kept s t r ns k (x ∷ xs) are = (slot_kept s t r ns k x are.0, nodes_kept s t r ns k xs are.1)

pub behind_kept : (s : Store) (t : List ℕ) (r : List Value) (ns : List ℤ) (k : ℕ) (xs : List Slot) → AreBehind s k xs → AreBehind (more s t r ns) k xs
behind_kept s t r ns k [] are = tt
behind_kept s t r ns k (x ∷ xs) are = (slot_kept s t r ns k x are.0, behind_kept s t r ns (k + 1) xs are.1)

pub value_kept : (s : Store) (t : List ℕ) (r : List Value) (ns : List ℤ) (vs : List Item) (k : ℕ) (n : Node) → IsNode s k n → node_value (more s t r ns) vs n ≡ node_value s vs n
value_kept s t r ns vs k (nodes.Boolean b) is = refl
value_kept s t r ns vs k (nodes.Whole n) is = refl
value_kept s t r ns vs k (nodes.Timestamp nanos secs) is = refl
value_kept s t r ns vs k (nodes.Text at size) is = ap (λ (b : List ℕ). scalar_value (text b)) (bytes_stay s.input s.side t at size is.part.within)
value_kept s t r ns vs k (nodes.Bytes at size) is = ap (λ (b : List ℕ). scalar_value (bytes b)) (bytes_stay s.input s.side t at size is.within)
value_kept s t r ns vs k (nodes.List at count) is = refl
value_kept s t r ns vs k (nodes.Numbers at count) is = ap (λ (xs : List ℤ). list (values_of (whole_values xs))) (part_stays at count s.numbers ns is)
value_kept s t r ns vs k (nodes.Map at count) is = refl
value_kept s t r ns vs k (nodes.Structure at count) is = refl
value_kept s t r ns vs k (nodes.Union at) is = refl
value_kept s t r ns vs k nodes.Null is = refl
value_kept s t r ns vs k (nodes.Rare n) is = get_stays n s.rare r null_element is

item_kept : (s : Store) (t : List ℕ) (r : List Value) (ns : List ℤ) (vs : List Item) (k : ℕ) (x : Slot) → IsSlot s k x → item (more s t r ns) vs x ≡ item s vs x
item_kept s t r ns vs k x is =
    rw (key_kept s.input s.side t x.first x.second is.1, value_kept s t r ns vs k x.node is.0) refl

pub values_over_kept : (s : Store) (t : List ℕ) (r : List Value) (ns : List ℤ) (vs : List Item) (k : ℕ) (xs : List Slot) → AreNodes s k xs → values_over (more s t r ns) vs xs ≡ values_over s vs xs
values_over_kept s t r ns vs k [] are = refl
values_over_kept s t r ns vs k (x ∷ xs) are = rw (item_kept s t r ns vs k x are.0) (ap (λ (ps : List Item). item s vs x ∷ ps) (values_over_kept s t r ns vs k xs are.1))

pub values_after_kept : (s : Store) (t : List ℕ) (r : List Value) (ns : List ℤ) (vs : List Item) (k : ℕ) (xs : List Slot) → AreBehind s k xs → values_after (more s t r ns) vs xs ≡ values_after s vs xs
values_after_kept s t r ns vs k [] are = refl
values_after_kept s t r ns vs k (x ∷ xs) are = rw (item_kept s t r ns vs k x are.0) (values_after_kept s t r ns (vs ++ item s vs x ∷ []) (k + 1) xs are.1)
