-- Where an item stands in an input, and that it is the only one there.
use Rattle.std.specs.Prelude.{◌≡◌, ◌<◌, ◌≤◌, ◌-◌, ℕ, length, take, drop, List, ◌++◌, slice_range}
use Rattle.std.proofs.Common.{sym, ◌∙◌, arith, subst, inl, inr}
use Rattle.std.proofs.lemmas.Bool.{cases_lt}
use Rattle.std.proofs.lemmas.List.Folds.{drop_split}
use Rattle.cbor_item.specs.Item.{Item}
use Rattle.cbor_item.specs.WellFormed.{IsEncodingOf, IsItemAt}
use Rattle.cbor_item.proofs.FirstByte.{not_empty}
use Rattle.cbor_item.proofs.OneItem.{one_place, same_item}
use Rattle.smithy_cbor_values.specs.Private.Slices.{front_slice, same_place}

-- ---- the bytes of an item

-- an item ends past its start
pub item_ahead : (x : Item) (i : List ℕ) (a e : ℕ) → IsItemAt x i a e → a < e
item_ahead x i a e h = elim (cases_lt a e) [ inl less ↦ less | inr least ↦ absurd (empty least) ]
  where
    empty : e ≤ a → ⊥
    empty least =
        let none : e - a ≡ 0 = omega (arith, least) in
        not_empty x (subst (λ (n : ℕ). IsEncodingOf x (take n (drop a i))) none h.1)

-- what stands from a on is the encoding of the item, and then the rest
pub item_front : (x : Item) (i : List ℕ) (a e : ℕ) → IsItemAt x i a e → drop a i ≡ slice_range i a e ++ drop e i
item_front x i a e h = drop_split i a e (omega (arith, item_ahead x i a e h))

-- where bytes that stand in front encode an item, it stands there
pub item_at : (x : Item) (text i : List ℕ) (a e : ℕ) → a ≤ e → e ≤ length i → drop a i ≡ text ++ drop e i → IsEncodingOf x text → IsItemAt x i a e
item_at x text i a e up within is encodes =
    (within, subst (λ (s : List ℕ). IsEncodingOf x s) (sym (front_slice text i a e up within is)) encodes)

-- ---- the only one

-- an item that stands at a place is determined, and so is its end
pub one_item : (x y : Item) (i : List ℕ) (a e f : ℕ) → IsItemAt x i a e → IsItemAt y i a f → (x ≡ y) × (e ≡ f)
one_item x y i a e f h k =
    let both = one_place x y (slice_range i a e) (slice_range i a f) (drop e i) (drop f i) h.1 k.1
    (sym (item_front x i a e h) ∙ item_front y i a f k) in (
      same_item x y (slice_range i a e) h.1 (subst (λ (s : List ℕ). IsEncodingOf y s) (sym both.0) k.1),
      same_place i e f h.0 k.0 both.1,
    )
