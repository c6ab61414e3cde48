-- Skipping stops as cut off where the bytes end inside an item.
use Rattle.std.proofs.Common.{◌≡◌, ◌≢◌, ◌⊎◌, inl, inr, ℕ, suc, zero, ◌+◌, ◌-◌, ◌*◌, ◌%◌, ◌<◌, ◌≤◌, List, [], ◌∷◌, ◌++◌, length, ◌∙◌, ap, subst, arith, Some, refl, append_assoc, append-nil, true, false, eq-eqb}
use Rattle.std.specs.Prelude.{◌==◌, nat_lt}
use Rattle.std.proofs.lemmas.Bool.{cases_lt}
use Rattle.std.proofs.lemmas.Bool.Decides.{nat_tests}
use Rattle.cbor_item.specs.declared.skip.Due.{Due}
use Rattle.cbor_item.specs.declared.skip.Due.TheVariants.{Items, Pairs, ValueAndPairs, ItemsUntilBreak, PairsUntilBreak, ValueUntilBreak, ChunksUntilBreak}
use Rattle.cbor_item.specs.Head.{initial_byte, IsCutHead, argument_length}
use Rattle.cbor_item.specs.Item.{Items as ItemList, no_items, item, item_count}
use Rattle.cbor_item.specs.WellFormed.{HeadThen, AreEncodingsOf}
use Rattle.cbor_item.specs.CutShort.{IsCutChunk, IsCutString, announced_items, IsCutShort, in_head, in_string, in_announced, in_indefinite}
use Rattle.cbor_item.specs.Private.Chunk.{whole, cut_head, begins_with_break}
use Rattle.cbor_item.specs.Private.Skip.{cut, between, at_item, at_chunk, stopped, after_payload, after_head, Reaches}
use Rattle.cbor_item.proofs.HeadLemmas.{head_in_front, front_begins_low, drop_front}
use Rattle.cbor_item.proofs.Passing.{through, reaches_same, go_on_between, at_head, at_chunk_head, after_its_head, head_is_no_break, item_is_no_break, past_item, past_items, past_items_until, past_chunks, along, step_to, opened, opened_string, string_type}

-- past a head, to the bytes that follow it
to_body : (major n : ℕ) (body bytes : List ℕ) (due : List Due) → major ≤ 6 → HeadThen major n body bytes
    → Reaches (at_item due bytes) (after_head major (Some n) due body)
to_body major n body bytes due low (head, spelled, e) =
    along (at_item due) bytes (head ++ body) (after_head major (Some n) due body) e (after_its_head major n head body due low spelled)

string_to_body : (major n : ℕ) (body bytes : List ℕ) (due : List Due) → (major ≡ 2) ⊎ (major ≡ 3) → HeadThen major n body bytes
    → Reaches (at_item due bytes) (after_payload n due body)
string_to_body major n body bytes due (inl e) h = to_body 2 n body bytes due (omega arith) (subst (λ (m : ℕ). HeadThen m n body bytes) e h)
string_to_body major n body bytes due (inr e) h = to_body 3 n body bytes due (omega arith) (subst (λ (m : ℕ). HeadThen m n body bytes) e h)

pub cut_payload : (n : ℕ) (body : List ℕ) (due : List Due) → length body < n → after_payload n due body ≡ stopped cut
cut_payload n body due short = let test : nat_lt (length body) n ≡ true = grind (arith, nat_tests) in rw test refl

-- where a head of another type than 7 stands there is no break
head_no_break : (major n : ℕ) (body bytes : List ℕ) → major ≤ 6 → HeadThen major n body bytes → begins_with_break bytes ≡ false
head_no_break major n body bytes low h = subst (λ (l : List ℕ). begins_with_break l ≡ false) (append-nil bytes) (head_is_no_break major n body bytes [] low h)

cut_head_no_break : (bytes : List ℕ) → IsCutHead bytes → begins_with_break bytes ≡ false
cut_head_no_break [] h = refl
cut_head_no_break (b ∷ rest) h =
    let other : b ≢ 0xff = λ e.
    let info : b % 32 ≡ 31 = omega arith in
    let none : argument_length (b % 32) ≡ 0 = ap argument_length info in omega arith in
    grind (arith, nat_tests)

opening_no_break : (major : ℕ) (rest bytes : List ℕ) → major ≤ 6 → bytes ≡ initial_byte major 31 ∷ rest → begins_with_break bytes ≡ false
opening_no_break major rest bytes low e = ap begins_with_break e ∙ test
  where
    test : (32 * major + 31 == 0xff) ≡ false
    test = grind (arith, nat_tests)

-- a chunk of the type that is cut off
chunk_cut : (major : ℕ) (last : List ℕ) (due : List Due) → major ≤ 6 → IsCutHead last ⊎ IsCutChunk major last → Reaches (at_chunk major due last) (stopped cut)
chunk_cut major last due low (inl h) = at_chunk_head major due last cut_head h
chunk_cut major last due low (inr (n, body, (head, spelled, e), short)) =
    along (at_chunk major due) last (head ++ body) (stopped cut) e
    (through _ _ _ (at_chunk_head major due (head ++ body) (whole (head_in_front major n head)) (front_begins_low major n head body low spelled))
    (reaches_same _ _ (rw (eq-eqb major major refl, drop_front head body) (cut_payload n body due short))))

chunk_no_break : (major : ℕ) (last : List ℕ) → major ≤ 6 → IsCutHead last ⊎ IsCutChunk major last → begins_with_break last ≡ false
chunk_no_break major last low (inl h) = cut_head_no_break last h
chunk_no_break major last low (inr (n, body, h, short)) = head_no_break major n body last low h

string_cut : (major : ℕ) (bytes : List ℕ) (due : List Due) → (major ≡ 2) ⊎ (major ≡ 3) → IsCutString major bytes → Reaches (at_item due bytes) (stopped cut)
string_cut major bytes due type (inl (n, body, h, short)) =
    through _ _ _ (string_to_body major n body bytes due type h) (reaches_same _ _ (cut_payload n body due short))
string_cut major bytes due type (inr (chunks, before, last, p, h, e)) =
    let low = string_type major type in
    along (at_item due) bytes (initial_byte major 31 ∷ (before ++ last)) (stopped cut) e
    (through _ _ _ (opened_string major (before ++ last) due type)
    (through _ _ _ (past_chunks major chunks before last due low p)
    (through _ _ _ (step_to (ChunksUntilBreak major ∷ due) last (at_chunk major (ChunksUntilBreak major ∷ due) last) (rw (chunk_no_break major last low h) refl))
    (chunk_cut major last (ChunksUntilBreak major ∷ due) low h))))

-- past keys and values, to the next of them
mutual
  to_key : (is : ItemList) (before last : List ℕ) (due : List Due) (n : ℕ) → AreEncodingsOf is before → item_count is < 2 * n
      → (below : List Due) × Reaches (between (Pairs n ∷ due) (before ++ last)) (at_item below last)
  to_key no_items before last due zero e h = absurd (omega arith)
  to_key no_items before last due (suc n) e h =
      (ValueAndPairs n ∷ due, along (between (Pairs (suc n) ∷ due)) (before ++ last) last (at_item (ValueAndPairs n ∷ due) last) (ap (λ l. l ++ last) e) (go_on_between (Pairs (suc n) ∷ due) last))
  to_key (item i is) before last due zero p h = absurd (omega arith)
  to_key (item i is) before last due (suc n) (first, more, hi, p, e) h =
      let inner = to_value is more last due n p (omega arith) in (
        inner.0,
        along (between (Pairs (suc n) ∷ due)) (before ++ last) (first ++ (more ++ last)) (at_item inner.0 last) (ap (λ l. l ++ last) e ∙ append_assoc first more last)
            (through _ _ _ (go_on_between (Pairs (suc n) ∷ due) (first ++ (more ++ last)))
            (through _ _ _ (past_item i first (more ++ last) (ValueAndPairs n ∷ due) hi) inner.1)),
      )

  to_value : (is : ItemList) (before last : List ℕ) (due : List Due) (n : ℕ) → AreEncodingsOf is before → item_count is < 2 * n + 1
      → (below : List Due) × Reaches (between (ValueAndPairs n ∷ due) (before ++ last)) (at_item below last)
  to_value no_items before last due n e h =
      (Pairs n ∷ due, along (between (ValueAndPairs n ∷ due)) (before ++ last) last (at_item (Pairs n ∷ due) last) (ap (λ l. l ++ last) e) (go_on_between (ValueAndPairs n ∷ due) last))
  to_value (item i is) before last due n (first, more, hi, p, e) h =
      let inner = to_key is more last due n p (omega arith) in (
        inner.0,
        along (between (ValueAndPairs n ∷ due)) (before ++ last) (first ++ (more ++ last)) (at_item inner.0 last) (ap (λ l. l ++ last) e ∙ append_assoc first more last)
            (through _ _ _ (go_on_between (ValueAndPairs n ∷ due) (first ++ (more ++ last)))
            (through _ _ _ (past_item i first (more ++ last) (Pairs n ∷ due) hi) inner.1)),
      )

-- and where a break ends them
mutual
  to_key_until : (is : ItemList) (before last : List ℕ) (due : List Due) → AreEncodingsOf is before → begins_with_break last ≡ false
      → (below : List Due) × Reaches (between (PairsUntilBreak ∷ due) (before ++ last)) (at_item below last)
  to_key_until no_items before last due e other =
      (ValueUntilBreak ∷ due, along (between (PairsUntilBreak ∷ due)) (before ++ last) last (at_item (ValueUntilBreak ∷ due) last) (ap (λ l. l ++ last) e) (step_to (PairsUntilBreak ∷ due) last (at_item (ValueUntilBreak ∷ due) last) (rw other refl)))
  to_key_until (item i is) before last due (first, more, hi, p, e) other =
      let inner = to_value_until is more last due p other in (
        inner.0,
        along (between (PairsUntilBreak ∷ due)) (before ++ last) (first ++ (more ++ last)) (at_item inner.0 last) (ap (λ l. l ++ last) e ∙ append_assoc first more last)
            (through _ _ _ (step_to (PairsUntilBreak ∷ due) (first ++ (more ++ last)) (at_item (ValueUntilBreak ∷ due) (first ++ (more ++ last))) (rw (item_is_no_break i first (more ++ last) hi) refl))
            (through _ _ _ (past_item i first (more ++ last) (ValueUntilBreak ∷ due) hi) inner.1)),
      )

  to_value_until : (is : ItemList) (before last : List ℕ) (due : List Due) → AreEncodingsOf is before → begins_with_break last ≡ false
      → (below : List Due) × Reaches (between (ValueUntilBreak ∷ due) (before ++ last)) (at_item below last)
  to_value_until no_items before last due e other =
      (PairsUntilBreak ∷ due, along (between (ValueUntilBreak ∷ due)) (before ++ last) last (at_item (PairsUntilBreak ∷ due) last) (ap (λ l. l ++ last) e) (go_on_between (ValueUntilBreak ∷ due) last))
  to_value_until (item i is) before last due (first, more, hi, p, e) other =
      let inner = to_key_until is more last due p other in (
        inner.0,
        along (between (ValueUntilBreak ∷ due)) (before ++ last) (first ++ (more ++ last)) (at_item inner.0 last) (ap (λ l. l ++ last) e ∙ append_assoc first more last)
            (through _ _ _ (go_on_between (ValueUntilBreak ∷ due) (first ++ (more ++ last)))
            (through _ _ _ (past_item i first (more ++ last) (PairsUntilBreak ∷ due) hi) inner.1)),
      )

decide_eq : (a b : ℕ) → (a ≡ b) ⊎ (a ≢ b)
decide_eq a b = elim (cases_lt a b) [ inl below ↦ inr (λ e. omega arith) | inr above ↦ elim (cases_lt b a) [ inl over ↦ inr (λ e. omega arith) | inr same ↦ inl (omega arith) ] ]

-- which heads announce items
announced_case : (major argument k : ℕ) → k < announced_items major argument
    → ((major ≡ 4) × (k < argument)) ⊎ ((major ≡ 5) × (k < 2 * argument)) ⊎ ((major ≡ 6) × (k < 1))
announced_case major argument k h = elim (decide_eq major 4) [
  | inl four ↦ inl (four, subst (λ (m : ℕ). k < announced_items m argument) four h)
  | inr not_four ↦ elim (decide_eq major 5) [
    | inl five ↦ inr (inl (five, subst (λ (m : ℕ). k < announced_items m argument) five h))
    | inr not_five ↦ elim (decide_eq major 6) [
      | inl six ↦ inr (inr (six, subst (λ (m : ℕ). k < announced_items m argument) six h))
      | inr not_six ↦ absurd (none not_four not_five not_six)
    ]
  ]
]
  where
    none : major ≢ 4 → major ≢ 5 → major ≢ 6 → ⊥
    none not_four not_five not_six =
        let fourth : (major == 4) ≡ false = grind (arith, nat_tests) in
        let fifth : (major == 5) ≡ false = grind (arith, nat_tests) in
        let sixth : (major == 6) ≡ false = grind (arith, nat_tests) in
        let zero_items : announced_items major argument ≡ 0 = rw (fourth, fifth, sixth) refl in
        omega arith

-- past so many items, to the next of them
to_next : (is : ItemList) (before last : List ℕ) (due : List Due) (n : ℕ) → AreEncodingsOf is before → item_count is < n
    → (below : List Due) × Reaches (between (Items n ∷ due) (before ++ last)) (at_item below last)
to_next is before last due n p h =
    let left = n - item_count is - 1 in
    let count : n ≡ item_count is + suc left = omega arith in (
      Items left ∷ due,
      through _ _ _ (reaches_same _ _ (ap (λ k. between (Items k ∷ due) (before ++ last)) count))
          (through _ _ _ (past_items is before last due (suc left) p) (go_on_between (Items (suc left) ∷ due) last)),
    )

pub cut_is_no_break : {bytes : List ℕ} → IsCutShort bytes → begins_with_break bytes ≡ false
cut_is_no_break (in_head bytes h) = cut_head_no_break bytes h
cut_is_no_break (in_string major bytes type (inl (n, body, h, short))) = head_no_break major n body bytes (string_type major type) h
cut_is_no_break (in_string major bytes type (inr (chunks, before, last, p, h, e))) = opening_no_break major (before ++ last) bytes (string_type major type) e
cut_is_no_break (in_announced major argument is before last bytes count p inner h) = head_no_break major argument (before ++ last) bytes (low (announced_case major argument (item_count is) count)) h
  where
    low : ((major ≡ 4) × (item_count is < argument)) ⊎ ((major ≡ 5) × (item_count is < 2 * argument)) ⊎ ((major ≡ 6) × (item_count is < 1)) → major ≤ 6
    low (inl (e, c)) = omega arith
    low (inr (inl (e, c))) = omega arith
    low (inr (inr (e, c))) = omega arith
cut_is_no_break (in_indefinite major is before last bytes (inl type) p inner e) = opening_no_break major (before ++ last) bytes (omega arith) e
cut_is_no_break (in_indefinite major is before last bytes (inr type) p inner e) = opening_no_break major (before ++ last) bytes (omega arith) e

-- past a head and some of the items that it announces, to the next of them
to_announced : (major argument : ℕ) (is : ItemList) (before last bytes : List ℕ) (due : List Due)
    → ((major ≡ 4) × (item_count is < argument)) ⊎ ((major ≡ 5) × (item_count is < 2 * argument)) ⊎ ((major ≡ 6) × (item_count is < 1))
    → AreEncodingsOf is before → HeadThen major argument (before ++ last) bytes
    → (below : List Due) × Reaches (at_item due bytes) (at_item below last)
to_announced major argument is before last bytes due (inl (e, c)) p h =
    let to = to_next is before last due argument p c in
    (to.0, through _ _ _ (to_body 4 argument (before ++ last) bytes due (omega arith) (subst (λ (m : ℕ). HeadThen m argument (before ++ last) bytes) e h)) to.1)
to_announced major argument is before last bytes due (inr (inl (e, c))) p h =
    let to = to_key is before last due argument p c in
    (to.0, through _ _ _ (to_body 5 argument (before ++ last) bytes due (omega arith) (subst (λ (m : ℕ). HeadThen m argument (before ++ last) bytes) e h)) to.1)
to_announced major argument is before last bytes due (inr (inr (e, c))) p h =
    let to = to_next is before last due 1 p c in
    (to.0, through _ _ _ (to_body 6 argument (before ++ last) bytes due (omega arith) (subst (λ (m : ℕ). HeadThen m argument (before ++ last) bytes) e h)) to.1)

-- skipping stops as cut off
pub stops_cut : {bytes : List ℕ} → IsCutShort bytes → (due : List Due) → Reaches (at_item due bytes) (stopped cut)
stops_cut (in_head bytes h) due = at_head due bytes cut_head h
stops_cut (in_string major bytes type h) due = string_cut major bytes due type h
stops_cut (in_announced major argument is before last bytes count p inner h) due =
    let to = to_announced major argument is before last bytes due (announced_case major argument (item_count is) count) p h in
    through _ _ _ to.1 (stops_cut inner to.0)
stops_cut (in_indefinite major is before last bytes (inl type) p inner e) due =
    along (at_item due) bytes (initial_byte major 31 ∷ (before ++ last)) (stopped cut) e
    (through _ _ _ (opened major ItemsUntilBreak (before ++ last) due (inl (type, refl)))
    (through _ _ _ (past_items_until is before last due p)
    (through _ _ _ (step_to (ItemsUntilBreak ∷ due) last (at_item (ItemsUntilBreak ∷ due) last) (rw (cut_is_no_break inner) refl))
    (stops_cut inner (ItemsUntilBreak ∷ due)))))
stops_cut (in_indefinite major is before last bytes (inr type) p inner e) due =
    let to = to_key_until is before last due p (cut_is_no_break inner) in
    along (at_item due) bytes (initial_byte major 31 ∷ (before ++ last)) (stopped cut) e
    (through _ _ _ (opened major PairsUntilBreak (before ++ last) due (inr (type, refl)))
    (through _ _ _ to.1 (stops_cut inner to.0)))
