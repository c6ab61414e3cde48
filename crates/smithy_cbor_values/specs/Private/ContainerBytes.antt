-- Where the head of an array or a map stands and where its entries end: after as many as the head
-- announces, or by a break.
use Rattle.std.specs.Prelude.{◌≡◌, ◌<◌, ◌≤◌, ◌-◌, ◌⊎◌, ℕ, suc, length, drop, List, [], ◌∷◌, ◌++◌, Option, Some, None, true, slice_range, refl}
use Rattle.std.proofs.Common.{sym, ◌∙◌, ap, arith, subst, inl, inr, append_assoc}
use Rattle.std.proofs.lemmas.List.Folds.{drop_split}
use Rattle.smithy_schema.specs.Reading.{Mark}
use Rattle.cbor_item.specs.Head.{HeadRead, initial_byte, MayBeIndefinite, BeginsWithHead}
use Rattle.cbor_item.specs.Item.{Item}
use Rattle.cbor_item.specs.WellFormed.{HeadThen, UntilBreak, IsItemAt, break}
use Rattle.cbor_item.proofs.HeadLemmas.{head_is_only, head_in_front, front_begins_low, opening_begins, head_is_some}
use Rattle.smithy_cbor.specs.Reading.{OpensAt}
use Rattle.smithy_cbor_values.specs.Standing.{begins_with, mark_with, HasEntry}
use Rattle.smithy_cbor_values.specs.Private.Slices.{rest_length, front_slice, slices_join, slices_part}
use Rattle.smithy_cbor_values.specs.Private.ItemPlaces.{item_ahead}
use Rattle.smithy_cbor_values.specs.Private.FirstBytes.{byte_front, byte_within, no_break_at}
use Rattle.smithy_cbor_values.specs.Private.Entries.{no_due, same_due}

-- ---- the head

pub same_head : (s : List ℕ) (h k : HeadRead) → 0 < h.length → BeginsWithHead s h → BeginsWithHead s k → h ≡ k
same_head [] h k some p q = let within : h.length ≤ 0 = p.0 in absurd (omega (arith, within, some))
same_head (b ∷ s) h k some p q = head_is_only b s h p ∙ sym (head_is_only b s k q)

-- the head of a container is determined
pub same_opens_at : (major : ℕ) (due due' : Option ℕ) (i : List ℕ) (a b c : ℕ) → OpensAt major due i a b → OpensAt major due' i a c → (b ≡ c) × (due ≡ due')
same_opens_at major due due' i a b c h k =
    let one = same_head (drop a i) (record { major = major; argument = due; length = b - a }) (record { major = major; argument = due'; length = c - a })
    (omega (arith, h.0)) h.1 k.1 in
    let size : b - a ≡ c - a = ap (λ (r : HeadRead). r.length) one in
    (omega (arith, h.0, k.0, size), ap (λ (r : HeadRead). r.argument) one)

-- the head of a container stands in the input
pub opens_within : (major : ℕ) (due : Option ℕ) (i : List ℕ) (a b : ℕ) → OpensAt major due i a b → 0 < length (drop a i)
opens_within major due i a b h = let within : b - a ≤ length (drop a i) = h.1.0 in omega (arith, h.0, within)

-- ---- the end of the entries

-- so many entries of a container come up to l, and the container ends at e
abbrev pub EndsAfter : ℕ → List ℕ → Mark → ℕ → ℕ → Type 0
EndsAfter count i m l e =
    ((m.due ≡ Some count) × (e ≡ l))
    ⊎ ((m.due ≡ None) × (begins_with break (drop l i) ≡ true) × (e ≡ suc l))

-- the entries up to the end of a container are one more with another entry in front of them
pub ends_after_entry : (count : ℕ) (i : List ℕ) (b l e : ℕ) (m n : Mark) → HasEntry i b m n → EndsAfter count i n l e → EndsAfter (suc count) i m l e
ends_after_entry count i b l e m n (some, inl h) (inl k) =
    let left : n.due ≡ Some h.0 = ap (λ (x : Mark). x.due) h.2 in
    let same : h.0 ≡ count = same_due n.due h.0 count left k.0 in
    inl (h.1 ∙ ap (λ c. Some (suc c)) same, k.1)
ends_after_entry count i b l e m n (some, inl h) (inr k) =
    let left : n.due ≡ Some h.0 = ap (λ (x : Mark). x.due) h.2 in absurd (no_due n.due h.0 left k.0)
ends_after_entry count i b l e m n (some, inr h) (inl k) =
    let left : n.due ≡ None = ap (λ (x : Mark). x.due) h.2 in absurd (no_due n.due count k.0 left)
ends_after_entry count i b l e m n (some, inr h) (inr k) = inr (h.0, k.1, k.2)

-- where entries are left up to the end of a container and an item stands first, an entry comes, and one entry less is left behind
-- it
pub entry_of_ends : (count : ℕ) (i : List ℕ) (b f l e : ℕ) (m : Mark) (x : Item) → IsItemAt x i b f → EndsAfter (suc count) i m l e
    → (n : Mark) × HasEntry i b m n × EndsAfter count i n l e
entry_of_ends count i b f l e m x at ends =
    by (omega (arith, item_ahead x i b f at, at.0)) ends
  where
    by : b < length i → EndsAfter (suc count) i m l e → (n : Mark) × HasEntry i b m n × EndsAfter count i n l e
    by some (inl h) = (mark_with (Some count), (some, inl (count, h.0, refl)), inl (refl, h.1))
    by some (inr h) = (mark_with None, (some, inr (h.0, no_break_at x i b f at, refl)), inr (refl, h.1, h.2))

-- ---- from places to bytes

-- the inside begins in the input
pub inside_within : (major : ℕ) (due : Option ℕ) (i : List ℕ) (a b : ℕ) → OpensAt major due i a b → b ≤ length i
inside_within major due i a b h = let within : b - a ≤ length (drop a i) = h.1.0 in omega (arith, h.0, within, rest_length i a)

-- a head that announces a number, and then the body
pub definite_bytes : (major n : ℕ) (i : List ℕ) (a b e : ℕ) → OpensAt major (Some n) i a b → b ≤ e → e ≤ length i
    → HeadThen major n (slice_range i b e) (slice_range i a e)
definite_bytes major n i a b e h on within = (slice_range i a b, h.1.1.1, slices_join i a b e (omega (arith, h.0)) on within)

-- a head of indefinite length, the body and a break
pub indefinite_bytes : (major : ℕ) (i : List ℕ) (a b l : ℕ) → OpensAt major None i a b → b ≤ l → begins_with break (drop l i) ≡ true
    → UntilBreak major (slice_range i b l) (slice_range i a (suc l))
indefinite_bytes major i a b l h on closed =
    let within : suc l ≤ length i = omega (arith, byte_within break i l closed) in
    let last : slice_range i l (suc l) ≡ break ∷ [] = front_slice (break ∷ []) i l (suc l) (omega arith) within (byte_front break i l closed) in
    slices_join i a b (suc l) (omega (arith, h.0)) (omega (arith, on)) within
    ∙ ap (λ s. s ++ slice_range i b (suc l)) h.1.1.1
    ∙ ap (λ s. initial_byte major 31 ∷ s) (slices_join i b l (suc l) on (omega arith) within ∙ ap (λ s. slice_range i b l ++ s) last)

-- ---- and back

-- the head of a container stands at a, and behind it the body, which ends at l
pub record Framed (major : ℕ) (due : Option ℕ) (body i : List ℕ) (a l : ℕ) : Type 0 where
  pub inside : ℕ
  pub opens : OpensAt major due i a inside
  pub on : inside ≤ l
  pub body_is : slice_range i inside l ≡ body

pub definite_framed : (major n : ℕ) (body i : List ℕ) (a e : ℕ) → major ≤ 6 → a ≤ e → e ≤ length i → HeadThen major n body (slice_range i a e)
    → Framed major (Some n) body i a e
definite_framed major n body i a e low up within (head, spelled, is) =
    let part = slices_part head body i a e up within is in
    let whole : drop a i ≡ head ++ (body ++ drop e i) = drop_split i a e up ∙ ap (λ s. s ++ drop e i) is ∙ append_assoc head body (drop e i) in
    let begins = front_begins_low major n head (body ++ drop e i) low spelled in
    let some : 0 < length head = head_is_some (head ++ (body ++ drop e i)) (head_in_front major n head) begins in
    let size : length head ≡ part.middle - a = omega (arith, part.size) in
    let there : BeginsWithHead (drop a i) (head_in_front major n head) = subst (λ (s : List ℕ). BeginsWithHead s (head_in_front major n head)) (sym whole) begins in
    record {
      inside = part.middle;
      opens = (
        omega (arith, part.size, some),
        subst (λ (k : ℕ). BeginsWithHead (drop a i) (record { major = major; argument = Some n; length = k })) size there,
      );
      on = part.on;
      body_is = part.more_is;
    }

-- with the place of the break
pub record Closed (major : ℕ) (body i : List ℕ) (a e : ℕ) : Type 0 where
  pub last : ℕ
  pub framed : Framed major None body i a last
  pub closed : begins_with break (drop last i) ≡ true
  pub end : e ≡ suc last

pub indefinite_framed : (major : ℕ) (body i : List ℕ) (a e : ℕ) → MayBeIndefinite major → a ≤ e → e ≤ length i → UntilBreak major body (slice_range i a e)
    → Closed major body i a e
indefinite_framed major body i a e may up within is =
    let head = slices_part (initial_byte major 31 ∷ []) (body ++ break ∷ []) i a e up within is in
    let rest = slices_part body (break ∷ []) i head.middle e head.on within head.more_is in
    let whole : drop a i ≡ initial_byte major 31 ∷ ((body ++ break ∷ []) ++ drop e i) = drop_split i a e up ∙ ap (λ s. s ++ drop e i) is in
    let one : length (initial_byte major 31 ∷ []) ≡ 1 = refl in
    let size : 1 ≡ head.middle - a = omega (arith, head.size, one) in
    let there = subst (λ (s : List ℕ). BeginsWithHead s (record { major = major; argument = None; length = 1 })) (sym whole)
    (opening_begins major ((body ++ break ∷ []) ++ drop e i) may) in
    let behind : drop rest.middle i ≡ break ∷ drop e i = drop_split i rest.middle e rest.on ∙ ap (λ s. s ++ drop e i) rest.more_is in
    record {
      last = rest.middle;
      framed = record {
        inside = head.middle;
        opens = (
          omega (arith, head.size, one),
          subst (λ (k : ℕ). BeginsWithHead (drop a i) (record { major = major; argument = None; length = k })) size there,
        );
        on = rest.up;
        body_is = rest.first_is;
      };
      closed = ap (begins_with break) behind;
      end = omega (arith, rest.on, within, ap length behind, one_more (drop e i), rest_length i rest.middle, rest_length i e);
    }
  where
    one_more : (s : List ℕ) → length (break ∷ s) ≡ suc (length s)
    one_more s = omega arith
