-- Containers whose children were put in order.
use Rattle.std.proofs.Common.{◌≡◌, ◌∙◌, ◌≤◌, ℕ, List, [], ◌++◌, ap, length, take, drop, arith, length-append, Ordering}
use Rattle.std.proofs.lemmas.List.{drop_at, take_at, length-take-le}
use Rattle.smithy_declarations.specs.Value.{no_member_values, no_map_entries}
use Rattle.smithy_tree.specs.Items.{Item, members_of, put_members, entries_of, put_entries}
use Rattle.smithy_tree.specs.Nodes.{Store, values_over, values_after}
use Rattle.smithy_tree.specs.Order.{position_cmp, key_cmp, put_slots, Arranges}
use Rattle.smithy_tree.specs.Seen.{store, values, waiting, bytes_of, Closes, ClosesMembers, ClosesEntries}
use Rattle.smithy_tree.specs.declared.node.Slot.{Slot}
use Rattle.smithy_tree.specs.declared.pool.Pool.{Pool}
use Rattle.smithy_tree.proofs.Growing.{values_over-append, values_over-take, values_over-drop}
use Rattle.smithy_tree.proofs.Arranging.{members_put, entries_put}
use Rattle.smithy_tree.proofs.Seeing.{grows_twice}

module _ (p q : Pool) (cmp : Slot → Slot → Ordering) (b : ℕ) (begins : b ≤ length (waiting p)) (a : Arranges p q cmp b) where
  -- the children in their order
  abbrev pub behind : List Item
  behind = values_over (store p) (values p) (put_slots cmp [] (drop b p.waiting.items))

  pub arranged : waiting q ≡ take b (waiting p) ++ behind
  arranged =
      ap (λ (t : Store). values_over t (values_after t [] q.nodes.items) q.waiting.items) a.store
      ∙ (ap (λ (xs : List Slot). values_over (store p) (values_after (store p) [] xs) q.waiting.items) a.nodes
      ∙ (ap (λ (xs : List Slot). values_over (store p) (values p) xs) a.waiting
      ∙ (values_over-append (store p) (values p) (take b p.waiting.items) (put_slots cmp [] (drop b p.waiting.items))
      ∙ ap (λ (vs : List Item). vs ++ behind) (values_over-take (store p) (values p) b p.waiting.items))))

  front : length (take b (waiting p)) ≡ b
  front = length-take-le b (waiting p) begins

  pub begins_still : b ≤ length (waiting q)
  begins_still = rw arranged (omega (arith, front, length-append (take b (waiting p)) behind))

  shown : (r : Pool) (at count : ℕ) → Closes q r b at count → take count (drop at (values r)) ≡ behind
  shown r at count c = c.shows ∙ (ap (λ (vs : List Item). drop b vs) arranged ∙ drop_at (take b (waiting p)) behind b front)

  left : (r : Pool) (at count : ℕ) → Closes q r b at count → waiting r ≡ take b (waiting p)
  left r at count c = c.waiting ∙ (ap (λ (vs : List Item). take b vs) arranged ∙ take_at (take b (waiting p)) behind b front)

pub closes_members : (p q r : Pool) (b at count : ℕ) → b ≤ length (waiting p) → Arranges p q position_cmp b → Closes q r b at count → ClosesMembers p r b at count
closes_members p q r b at count begins a c = record {
  grows = grows_twice p q r a.grows c.grows;
  holds = c.holds;
  shows = ap members_of (shown p q position_cmp b begins a r at count c)
      ∙ (members_put (store p) (values p) [] (drop b p.waiting.items)
      ∙ ap (λ (vs : List Item). put_members no_member_values vs) (values_over-drop (store p) (values p) b p.waiting.items));
  waiting = left p q position_cmp b begins a r at count c;
}

pub closes_entries : (p q r : Pool) (b at count : ℕ) → b ≤ length (waiting p) → Arranges p q (key_cmp (bytes_of p)) b → Closes q r b at count → ClosesEntries p r b at count
closes_entries p q r b at count begins a c = record {
  grows = grows_twice p q r a.grows c.grows;
  holds = c.holds;
  shows = ap entries_of (shown p q (key_cmp (bytes_of p)) b begins a r at count c)
      ∙ (entries_put (store p) (values p) [] (drop b p.waiting.items)
      ∙ ap (λ (vs : List Item). put_entries no_map_entries vs) (values_over-drop (store p) (values p) b p.waiting.items));
  waiting = left p q (key_cmp (bytes_of p)) b begins a r at count c;
}
