-- Children that a map of the library puts in order.
use Rattle.std.proofs.Common.{◌≡◌, ◌∙◌, ◌<◌, ℕ, List, [], ◌∷◌, Ordering, Less, Equal, Greater, refl, sym, ap}
use Rattle.std.specs.Prelude.{map as mapped}
use Rattle.std.specs.BTreeMap.{insert_entry}
use Rattle.std.specs.Cmp.{ranks}
use Rattle.std.specs.Cmp.Lexicographic.{slice_cmp}
use Rattle.std.specs.Ordering.{nat_cmp, match_ordering, ordering_then, MatchOrdering}
use Rattle.smithy_tree.specs.Nodes.{slot_key}
use Rattle.smithy_tree.specs.Order.{position_cmp, key_cmp, put_slot, second}
use Rattle.smithy_tree.specs.declared.node.Slot.{Slot}

same_number_at : (o : Ordering) (x y : ℕ) → MatchOrdering o (x < y) (x ≡ y) (y < x) → o ≡ Equal → x ≡ y
same_number_at Less x y told is = cc
same_number_at Equal x y told is = told
same_number_at Greater x y told is = cc

pub same_number : (x y : ℕ) → nat_cmp x y ≡ Equal → x ≡ y
same_number x y is = same_number_at (nat_cmp x y) x y (ranks x y) is

both_equal : (o p : Ordering) → ordering_then o p ≡ Equal → (o ≡ Equal) × (p ≡ Equal)
both_equal Less p is = cc
both_equal Equal p is = (refl, is)
both_equal Greater p is = cc

pub same_numbers : (xs ys : List ℕ) → slice_cmp nat_cmp xs ys ≡ Equal → xs ≡ ys
same_numbers [] [] is = refl
same_numbers [] (y ∷ ys) is = cc
same_numbers (x ∷ xs) [] is = cc
same_numbers (x ∷ xs) (y ∷ ys) is =
    let both = both_equal (nat_cmp x y) (slice_cmp nat_cmp xs ys) is in
    rw (same_number x y both.0, same_numbers xs ys both.1) refl

-- each child stands under its label
abbrev pub AreMarked : {K : Type 0} → (K → Slot → Type 0) → List (K × Slot) → Type 0
AreMarked Marks [] = Unit {0}
AreMarked Marks (e ∷ es) = Marks e.0 e.1 × AreMarked Marks es

-- keys are ordered as the children that they mark, and equal keys mark the same children
pub record Orders {K : Type 0} (keys : K → K → Ordering) (cmp : Slot → Slot → Ordering) (Marks : K → Slot → Type 0) : Type 0 where
  pub agrees : (k l : K) (x y : Slot) → Marks k x → Marks l y → keys k l ≡ cmp x y
  pub equal : (k l : K) (x : Slot) → Marks k x → keys k l ≡ Equal → Marks l x

module _ {K : Type 0} (keys : K → K → Ordering) (cmp : Slot → Slot → Ordering) (Marks : K → Slot → Type 0) (orders : Orders keys cmp Marks) where
  put_at : (o : Ordering) (k : K) (x : Slot) (e : K × Slot) (es : List (K × Slot)) → mapped second (insert_entry keys es k x) ≡ put_slot cmp x (mapped second es)
      → mapped second (match_ordering o ((k, x) ∷ e ∷ es) ((e.0, x) ∷ es) (e ∷ insert_entry keys es k x)) ≡ match_ordering o (x ∷ e.1 ∷ mapped second es) (x ∷ mapped second es) (e.1 ∷ put_slot cmp x (mapped second es))
  put_at Less k x e es rest = refl
  put_at Equal k x e es rest = refl
  put_at Greater k x e es rest = ap (λ (ys : List Slot). e.1 ∷ ys) rest

  pub entry_put : (es : List (K × Slot)) (k : K) (x : Slot) → Marks k x → AreMarked Marks es → mapped second (insert_entry keys es k x) ≡ put_slot cmp x (mapped second es)
  entry_put [] k x marks are = refl
  entry_put (e ∷ es) k x marks are =
      let same = orders.agrees k e.0 x e.1 marks are.0 in
      put_at (keys k e.0) k x e es (entry_put es k x marks are.1)
      ∙ ap (λ (o : Ordering). match_ordering o (x ∷ e.1 ∷ mapped second es) (x ∷ mapped second es) (e.1 ∷ put_slot cmp x (mapped second es))) same

  marked_at : (o : Ordering) (k : K) (x : Slot) (e : K × Slot) (es : List (K × Slot)) → keys k e.0 ≡ o → Marks k x → AreMarked Marks (e ∷ es) → AreMarked Marks (insert_entry keys es k x)
      → AreMarked Marks (match_ordering o ((k, x) ∷ e ∷ es) ((e.0, x) ∷ es) (e ∷ insert_entry keys es k x))
  marked_at Less k x e es is marks are rest = (marks, are)
  marked_at Equal k x e es is marks are rest = (orders.equal k e.0 x marks is, are.1)
  marked_at Greater k x e es is marks are rest = (are.0, rest)

  pub entry_marked : (es : List (K × Slot)) (k : K) (x : Slot) → Marks k x → AreMarked Marks es → AreMarked Marks (insert_entry keys es k x)
  entry_marked [] k x marks are = (marks, tt)
  entry_marked (e ∷ es) k x marks are = marked_at (keys k e.0) k x e es refl marks are (entry_marked es k x marks are.1)

abbrev pub IsPosition : ℕ → Slot → Type 0
IsPosition k x = k ≡ x.first

pub positions_order : Orders nat_cmp position_cmp IsPosition
positions_order = record {
  agrees = λ (k l : ℕ) (x y : Slot) (a : k ≡ x.first) (b : l ≡ y.first). rw (a, b) refl;
  equal = λ (k l : ℕ) (x : Slot) (a : k ≡ x.first) (is : nat_cmp k l ≡ Equal). sym (same_number k l is) ∙ a;
}

-- a key that is the text
abbrev pub IsKey : {K : Type 0} → (K → List ℕ) → List ℕ → K → Slot → Type 0
IsKey text bytes k x = text k ≡ slot_key bytes x

pub keys_order : {K : Type 0} (text : K → List ℕ) (bytes : List ℕ) → Orders (λ (k l : K). slice_cmp nat_cmp (text k) (text l)) (key_cmp bytes) (IsKey text bytes)
keys_order {K} text bytes = record {
  agrees = λ (k l : K) (x y : Slot) (a : text k ≡ slot_key bytes x) (b : text l ≡ slot_key bytes y). rw (a, b) refl;
  equal = λ (k l : K) (x : Slot) (a : text k ≡ slot_key bytes x) (is : slice_cmp nat_cmp (text k) (text l) ≡ Equal). sym (same_numbers (text k) (text l) is) ∙ a;
}
