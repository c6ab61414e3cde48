-- Children that are put in order.
use Rattle.std.proofs.Common.{arith, ◌≡◌, ◌∙◌, ◌<◌, ◌≤◌, ◌+◌, ◌-◌, ℕ, zero, suc, List, [], ◌∷◌, ◌++◌, length, take, drop, get_or, slice_set, Ordering, Less, Equal, Greater, refl, sym, ap, true, false}
use Rattle.std.proofs.lemmas.List.{take_more, drop_more, set_split}
use Rattle.std.proofs.lemmas.Cmp.{on_total, nat_cmp_total, nat_list_cmp_total}
use Rattle.std.specs.Cmp.{IsTotalOrder}
use Rattle.std.specs.Ordering.{match_ordering, ordering_reverse, is_lt}
use Rattle.smithy_tree.specs.Nodes.{IsLabel, slot_key}
use Rattle.smithy_tree.specs.Order.{label_cmp, put_slot, put_slots, AreLabelled}
use Rattle.smithy_tree.specs.declared.node.Slot.{Slot}
use Rattle.smithy_tree.specs.declared.node.Node.TheVariants as nodes
use Rattle.smithy_tree.specs.declared.order.Order.{Order}
use Rattle.smithy_tree.specs.declared.order.Order.TheVariants as orders

pub label_total : (order : Order) (bytes : List ℕ) → IsTotalOrder (label_cmp order bytes)
label_total orders.Positions bytes = on_total (λ (x : Slot). x.first) nat_cmp_total
label_total orders.Keys bytes = on_total (slot_key bytes) nat_list_cmp_total

pub labelled_at : (input side : List ℕ) (xs : List Slot) (i : ℕ) (d : Slot) → i < length xs → AreLabelled input side xs → IsLabel input side (get_or xs i d).first (get_or xs i d).second
labelled_at input side [] i d within are = absurd (omega (arith, within))
labelled_at input side (x ∷ xs) zero d within are = are.0
labelled_at input side (x ∷ xs) (suc i) d within are = labelled_at input side xs i d (omega (arith, within)) are.1

-- what stands at no place
abbrev pub blank : Slot
blank = record { first = 0; second = 0; node = nodes.Boolean false }

pub less_is : (o : Ordering) → is_lt o ≡ true → o ≡ Less
less_is Less is = refl
less_is Equal is = cc
less_is Greater is = cc

module _ (cmp : Slot → Slot → Ordering) where
  -- the label stands behind all of them
  abbrev pub AllBelow : Slot → List Slot → Type 0
  AllBelow x [] = Unit {0}
  AllBelow x (y ∷ ys) = (cmp x y ≡ Greater) × AllBelow x ys

  pub put_last : (x : Slot) (ys : List Slot) → AllBelow x ys → put_slot cmp x ys ≡ ys ++ x ∷ []
  put_last x [] below = refl
  put_last x (y ∷ ys) below = rw below.0 (ap (λ (zs : List Slot). y ∷ zs) (put_last x ys below.1))

  pub put_slots-append : (ys xs zs : List Slot) → put_slots cmp ys (xs ++ zs) ≡ put_slots cmp (put_slots cmp ys xs) zs
  put_slots-append ys [] zs = refl
  put_slots-append ys (x ∷ xs) zs = put_slots-append (put_slot cmp x ys) xs zs

  put_labelled_at : (input side : List ℕ) (o : Ordering) (x y : Slot) (ys : List Slot) → IsLabel input side x.first x.second → AreLabelled input side (y ∷ ys) → AreLabelled input side (put_slot cmp x ys)
      → AreLabelled input side (match_ordering o (x ∷ y ∷ ys) (x ∷ ys) (y ∷ put_slot cmp x ys))
  put_labelled_at input side Less x y ys is are rest = (is, are)
  put_labelled_at input side Equal x y ys is are rest = (is, are.1)
  put_labelled_at input side Greater x y ys is are rest = (are.0, rest)

  pub put_labelled : (input side : List ℕ) (x : Slot) (ys : List Slot) → IsLabel input side x.first x.second → AreLabelled input side ys → AreLabelled input side (put_slot cmp x ys)
  put_labelled input side x [] is are = (is, tt)
  put_labelled input side x (y ∷ ys) is are = put_labelled_at input side (cmp x y) x y ys is are (put_labelled input side x ys is are.1)

  -- the child takes the place of the one with an equal label
  pub stands_at : (x : Slot) (ys : List Slot) (i : ℕ) (d : Slot) → i < length ys → cmp x (get_or ys i d) ≡ Equal
      → put_slot cmp x ys ≡ take i ys ++ put_slot cmp x (drop i ys) → slice_set ys i x ≡ put_slot cmp x ys
  stands_at x ys i d within equal rest =
      let y = get_or ys i d in
      let r = drop (i + 1) ys in
      let on : suc i ≡ i + 1 = omega arith in
      set_split ys i x within ∙ (ap (λ (k : ℕ). take i ys ++ x ∷ drop k ys) on
      ∙ sym (rest ∙ (ap (λ (zs : List Slot). take i ys ++ put_slot cmp x zs) (drop_more ys i d within) ∙ ap (λ (o : Ordering). take i ys ++ match_ordering o (x ∷ y ∷ r) (x ∷ r) (y ∷ put_slot cmp x r)) equal)))

  module _ (order : IsTotalOrder cmp) where
    turned : (x y : Slot) → cmp x y ≡ Greater → cmp y x ≡ Less
    turned x y is = order.antisymm y x ∙ ap ordering_reverse is

    turned_back : (x y : Slot) → cmp x y ≡ Less → cmp y x ≡ Greater
    turned_back x y is = order.antisymm y x ∙ ap ordering_reverse is

    below_next : (last x : Slot) (ys : List Slot) → AllBelow last ys → cmp last x ≡ Less → AllBelow x (ys ++ last ∷ [])
    below_next last x [] below less = (turned_back last x less, tt)
    below_next last x (y ∷ ys) below less =
        (turned_back y x (order.trans y last x (turned last y below.0) less), below_next last x ys below.1 less)

    -- one more child stands behind all before it
    pub next_below : (xs : List Slot) (i : ℕ) (d : Slot) → 1 ≤ i → i < length xs → cmp (get_or xs (i - 1) d) (get_or xs i d) ≡ Less
        → AllBelow (get_or xs (i - 1) d) (take (i - 1) xs) → AllBelow (get_or xs i d) (take i xs)
    next_below xs i d some within less below =
        let j : i - 1 + 1 ≡ i = omega arith in
        let more : take i xs ≡ take (i - 1) xs ++ get_or xs (i - 1) d ∷ [] = ap (λ (k : ℕ). take k xs) (sym j) ∙ take_more xs (i - 1) d (omega (arith, within, some)) in
        rw more (below_next (get_or xs (i - 1) d) (get_or xs i d) (take (i - 1) xs) below less)

  pub next_ordered : (xs : List Slot) (i : ℕ) (d : Slot) → i < length xs → AllBelow (get_or xs i d) (take i xs)
      → put_slots cmp [] (take i xs) ≡ take i xs → put_slots cmp [] (take (i + 1) xs) ≡ take (i + 1) xs
  next_ordered xs i d within below done =
      rw (take_more xs i d within, put_slots-append [] (take i xs) (get_or xs i d ∷ []), done) (put_last (get_or xs i d) (take i xs) below)
