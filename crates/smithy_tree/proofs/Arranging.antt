-- What children stand for that are put in order.
use Rattle.std.proofs.Common.{◌≡◌, ◌∙◌, ℕ, ◌++◌, List, [], ◌∷◌, Ordering, Less, Equal, Greater, refl, ap}
use Rattle.std.specs.Cmp.Lexicographic.{slice_cmp}
use Rattle.std.specs.Ordering.{nat_cmp, match_ordering}
use Rattle.smithy_declarations.specs.Value.{MemberValues, member_value, put_member, MapEntries, map_entry, put_entry}
use Rattle.smithy_tree.specs.Items.{Item, members_of, put_members, entries_of, put_entries}
use Rattle.smithy_tree.specs.Nodes.{Store, item, values_over, AreNodes, IsSlot}
use Rattle.smithy_tree.specs.Order.{position_cmp, key_cmp, put_slot, put_slots, AreLabelled}
use Rattle.smithy_tree.specs.declared.node.Slot.{Slot}
use Rattle.smithy_tree.proofs.Mapping.{same_number, same_numbers}

pub labelled : (s : Store) (k : ℕ) (xs : List Slot) → AreNodes s k xs → AreLabelled s.input s.side xs
labelled s k [] are = tt
labelled s k (x ∷ xs) are = (are.0.1, labelled s k xs are.1)

module _ (s : Store) (cmp : Slot → Slot → Ordering) where
  put_nodes_at : (k : ℕ) (o : Ordering) (x y : Slot) (ys : List Slot) → IsSlot s k x → AreNodes s k (y ∷ ys) → AreNodes s k (put_slot cmp x ys)
      → AreNodes s k (match_ordering o (x ∷ y ∷ ys) (x ∷ ys) (y ∷ put_slot cmp x ys))
  put_nodes_at k Less x y ys is are rest = (is, are)
  put_nodes_at k Equal x y ys is are rest = (is, are.1)
  put_nodes_at k Greater x y ys is are rest = (are.0, rest)

  put_nodes : (k : ℕ) (x : Slot) (ys : List Slot) → IsSlot s k x → AreNodes s k ys → AreNodes s k (put_slot cmp x ys)
  put_nodes k x [] is are = (is, tt)
  put_nodes k x (y ∷ ys) is are = put_nodes_at k (cmp x y) x y ys is are (put_nodes k x ys is are.1)

  pub ordered_nodes : (k : ℕ) (ys xs : List Slot) → AreNodes s k ys → AreNodes s k xs → AreNodes s k (put_slots cmp ys xs)
  ordered_nodes k ys [] a b = a
  ordered_nodes k ys (x ∷ xs) a b = ordered_nodes k (put_slot cmp x ys) xs (put_nodes k x ys b.0 a) b.1

module _ (s : Store) (vs : List Item) where
  member_put_at : (o : Ordering) (x y : Slot) (ys : List Slot) → nat_cmp x.first y.first ≡ o → members_of (values_over s vs (put_slot position_cmp x ys)) ≡ put_member x.first (item s vs x).shown (members_of (values_over s vs ys))
      → members_of (values_over s vs (match_ordering o (x ∷ y ∷ ys) (x ∷ ys) (y ∷ put_slot position_cmp x ys)))
      ≡ match_ordering o (member_value x.first (item s vs x).shown (members_of (values_over s vs (y ∷ ys)))) (member_value y.first (item s vs x).shown (members_of (values_over s vs ys))) (member_value y.first (item s vs y).shown (put_member x.first (item s vs x).shown (members_of (values_over s vs ys))))
  member_put_at Less x y ys is rest = refl
  member_put_at Equal x y ys is rest = ap (λ (n : ℕ). member_value n (item s vs x).shown (members_of (values_over s vs ys))) (same_number x.first y.first is)
  member_put_at Greater x y ys is rest = ap (λ (ms : MemberValues). member_value y.first (item s vs y).shown ms) rest

  member_put : (x : Slot) (ys : List Slot) → members_of (values_over s vs (put_slot position_cmp x ys)) ≡ put_member x.first (item s vs x).shown (members_of (values_over s vs ys))
  member_put x [] = refl
  member_put x (y ∷ ys) = member_put_at (nat_cmp x.first y.first) x y ys refl (member_put x ys)

  pub members_put : (ys xs : List Slot) → members_of (values_over s vs (put_slots position_cmp ys xs)) ≡ put_members (members_of (values_over s vs ys)) (values_over s vs xs)
  members_put ys [] = refl
  members_put ys (x ∷ xs) =
      members_put (put_slot position_cmp x ys) xs ∙ ap (λ (ms : MemberValues). put_members ms (values_over s vs xs)) (member_put x ys)

  entry_put_at : (o : Ordering) (x y : Slot) (ys : List Slot) → slice_cmp nat_cmp (item s vs x).key (item s vs y).key ≡ o → entries_of (values_over s vs (put_slot (key_cmp (s.input ++ s.side)) x ys)) ≡ put_entry (item s vs x).key (item s vs x).shown (entries_of (values_over s vs ys))
      → entries_of (values_over s vs (match_ordering o (x ∷ y ∷ ys) (x ∷ ys) (y ∷ put_slot (key_cmp (s.input ++ s.side)) x ys)))
      ≡ match_ordering o (map_entry (item s vs x).key (item s vs x).shown (entries_of (values_over s vs (y ∷ ys)))) (map_entry (item s vs y).key (item s vs x).shown (entries_of (values_over s vs ys))) (map_entry (item s vs y).key (item s vs y).shown (put_entry (item s vs x).key (item s vs x).shown (entries_of (values_over s vs ys))))
  entry_put_at Less x y ys is rest = refl
  entry_put_at Equal x y ys is rest = ap (λ (k : List ℕ). map_entry k (item s vs x).shown (entries_of (values_over s vs ys))) (same_numbers (item s vs x).key (item s vs y).key is)
  entry_put_at Greater x y ys is rest = ap (λ (es : MapEntries). map_entry (item s vs y).key (item s vs y).shown es) rest

  entry_put : (x : Slot) (ys : List Slot) → entries_of (values_over s vs (put_slot (key_cmp (s.input ++ s.side)) x ys)) ≡ put_entry (item s vs x).key (item s vs x).shown (entries_of (values_over s vs ys))
  entry_put x [] = refl
  entry_put x (y ∷ ys) = entry_put_at (slice_cmp nat_cmp (item s vs x).key (item s vs y).key) x y ys refl (entry_put x ys)

  pub entries_put : (ys xs : List Slot) → entries_of (values_over s vs (put_slots (key_cmp (s.input ++ s.side)) ys xs)) ≡ put_entries (entries_of (values_over s vs ys)) (values_over s vs xs)
  entries_put ys [] = refl
  entries_put ys (x ∷ xs) =
      entries_put (put_slot (key_cmp (s.input ++ s.side)) x ys) xs ∙ ap (λ (es : MapEntries). put_entries es (values_over s vs xs)) (entry_put x ys)
