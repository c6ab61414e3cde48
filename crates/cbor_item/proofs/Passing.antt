-- Skipping passes over a well-formed item, whatever follows it.
use Rattle.std.proofs.Common.{◌≡◌, ◌⊎◌, inl, inr, ℕ, suc, zero, ◌+◌, ◌*◌, ◌%◌, ◌<◌, ◌≤◌, List, [], ◌∷◌, ◌++◌, length, drop, sym, ◌∙◌, ap, subst, arith, slice_index, Some, None, refl, append_assoc, length-append, false, eq-eqb, append-nil, zero-add, get_or, ◌^◌}
use Rattle.std.specs.Prelude.{◌==◌, nat_lt, All}
use Rattle.std.specs.Int.{w16, w32, w64, from_be_bytes}
use Rattle.std.proofs.lemmas.Bool.Decides.{nat_tests}
use Rattle.std.proofs.lemmas.Nat.{be_bytes_2, be_bytes_4, be_bytes_8}
use Rattle.cbor_item.specs.declared.skip.Due.{Due}
use Rattle.cbor_item.specs.declared.skip.Due.TheVariants.{Items, Pairs, ValueAndPairs, ItemsUntilBreak, PairsUntilBreak, ValueUntilBreak, ChunksUntilBreak}
use Rattle.cbor_item.specs.Head.{initial_byte, immediate, one, two, four, eight, IsHead, IsShortSimple, HeadRead}
use Rattle.cbor_item.specs.Item.{Extent, definite, indefinite, Item, unsigned, negative, byte_string, text_string, array, map as map_item, tag, simple, float, Items as ItemList, no_items, item, item_count, Pairs as PairList, no_pairs, pair, pair_count}
use Rattle.cbor_item.specs.WellFormed.{break, HeadThen, UntilBreak, AreChunks, IsString, IsSimple, IsFloat, IsEncodingOf, AreEncodingsOf, ArePairEncodingsOf}
use Rattle.cbor_item.specs.Private.Chunk.{HeadAnswer, whole, IsHeadAnswer, begins_with_break}
use Rattle.cbor_item.specs.Private.Skip.{State, between, at_item, at_chunk, next, after_payload, after_head, after_chunk_head, item_state, chunk_state, Leads, goes_on, Reaches}
use Rattle.cbor_item.proofs.HeadLemmas.{head_in_front, front_begins, front_begins_low, opening_begins, drop_front}
use Rattle.cbor_item.proofs.FirstByte.{head_then_begins, head_then_not_empty, StartsAnItem, item_starts, not_empty}

-- one after the other
pub through : (s t u : State) → Reaches s t → Reaches t u → Reaches s u
through s t u p q o leads = p o (q o leads)

pub reaches_same : (s t : State) → s ≡ t → Reaches s t
reaches_same s t e o leads = let P : State → Type 0 = λ u. Leads u o in subst P (sym e) leads

-- one step between two items
pub go_on_between : (due : List Due) (bytes : List ℕ) → Reaches (between due bytes) (next due bytes)
go_on_between due bytes o leads = goes_on refl leads

pub at_head : (due : List Due) (bytes : List ℕ) (a : HeadAnswer) → IsHeadAnswer bytes a → Reaches (at_item due bytes) (item_state a due bytes)
at_head due bytes a p o leads = goes_on (a, p, refl) leads

pub at_chunk_head : (major : ℕ) (due : List Due) (bytes : List ℕ) (a : HeadAnswer) → IsHeadAnswer bytes a
    → Reaches (at_chunk major due bytes) (chunk_state major a due bytes)
at_chunk_head major due bytes a p o leads = goes_on (a, p, refl) leads

-- past a head
pub after_its_head : (major n : ℕ) (head rest : List ℕ) (due : List Due) → major ≤ 6 → IsHead major n head
    → Reaches (at_item due (head ++ rest)) (after_head major (Some n) due rest)
after_its_head major n head rest due low spelled =
    let here : Reaches (at_item due (head ++ rest)) (after_head major (Some n) due (drop (length head) (head ++ rest))) =
    at_head due (head ++ rest) (whole (head_in_front major n head)) (front_begins_low major n head rest low spelled) in
    subst (λ (bytes : List ℕ). Reaches (at_item due (head ++ rest)) (after_head major (Some n) due bytes)) (drop_front head rest) here

pub past_head : (major n : ℕ) (body first rest : List ℕ) (due : List Due) → major ≤ 6 → HeadThen major n body first
    → Reaches (at_item due (first ++ rest)) (after_head major (Some n) due (body ++ rest))
past_head major n body first rest due low (head, spelled, e) =
    let split : first ++ rest ≡ head ++ (body ++ rest) = ap (λ l. l ++ rest) e ∙ append_assoc head body rest in
    subst (λ (bytes : List ℕ). Reaches (at_item due bytes) (after_head major (Some n) due (body ++ rest))) (sym split)
    (after_its_head major n head (body ++ rest) due low spelled)

-- past the bytes of a definite string
not_less : (a b : ℕ) → b ≤ a → nat_lt a b ≡ false
not_less a b h = grind (arith, nat_tests)

pub past_payload : (chunk rest : List ℕ) (due : List Due) → after_payload (length chunk) due (chunk ++ rest) ≡ between due rest
past_payload chunk rest due =
    let there = not_less (length (chunk ++ rest)) (length chunk) (omega (arith, length-append chunk rest)) in
    rw (there, drop_front chunk rest) refl

-- where a head of another type than 7 stands there is no break
pub head_is_no_break : (major n : ℕ) (body first rest : List ℕ) → major ≤ 6 → HeadThen major n body first → begins_with_break (first ++ rest) ≡ false
head_is_no_break major n body [] rest low h = absurd (head_then_not_empty major n body h)
head_is_no_break major n body (b ∷ first) rest low h =
    let p = head_then_begins major n body b first h in grind (arith, nat_tests)

pub item_is_no_break : (i : Item) (first rest : List ℕ) → IsEncodingOf i first → begins_with_break (first ++ rest) ≡ false
item_is_no_break i [] rest h = absurd (not_empty i h)
item_is_no_break i (b ∷ first) rest h = other b (item_starts i b first h)
  where
    other : (b : ℕ) → StartsAnItem b → (b == break) ≡ false
    other b (inl low) = grind (arith, nat_tests)
    other b (inr (info, low, high)) = grind (arith, nat_tests)

-- past one chunk
pub past_chunk : (major : ℕ) (chunk first rest : List ℕ) (due : List Due) → major ≤ 6 → HeadThen major (length chunk) chunk first
    → Reaches (at_chunk major due (first ++ rest)) (between due rest)
past_chunk major chunk first rest due low (head, spelled, e) =
    let split : first ++ rest ≡ head ++ (chunk ++ rest) = ap (λ l. l ++ rest) e ∙ append_assoc head chunk rest in
    let here : Reaches (at_chunk major due (head ++ (chunk ++ rest))) (after_chunk_head major major (Some (length chunk)) due (drop (length head) (head ++ (chunk ++ rest)))) =
    at_chunk_head major due (head ++ (chunk ++ rest)) (whole (head_in_front major (length chunk) head)) (front_begins_low major (length chunk) head (chunk ++ rest) low spelled) in
    let last : after_chunk_head major major (Some (length chunk)) due (drop (length head) (head ++ (chunk ++ rest))) ≡ between due rest =
    rw (eq-eqb major major refl, drop_front head (chunk ++ rest)) (past_payload chunk rest due) in
    subst (λ (bytes : List ℕ). Reaches (at_chunk major due bytes) (between due rest)) (sym split)
    (through _ _ _ here (reaches_same _ _ last))

pub past_chunks : (major : ℕ) (chunks : List (List ℕ)) (body rest : List ℕ) (due : List Due) → major ≤ 6 → AreChunks major chunks body
    → Reaches (between (ChunksUntilBreak major ∷ due) (body ++ rest)) (between (ChunksUntilBreak major ∷ due) rest)
past_chunks major [] body rest due low e = reaches_same _ _ (ap (λ l. between (ChunksUntilBreak major ∷ due) (l ++ rest)) e)
past_chunks major (chunk ∷ chunks) body rest due low (first, more, h, p, e) =
    let split : body ++ rest ≡ first ++ (more ++ rest) = ap (λ l. l ++ rest) e ∙ append_assoc first more rest in
    let goes : next (ChunksUntilBreak major ∷ due) (first ++ (more ++ rest)) ≡ at_chunk major (ChunksUntilBreak major ∷ due) (first ++ (more ++ rest)) =
    rw (head_is_no_break major (length chunk) chunk first (more ++ rest) low h) refl in
    subst (λ (bytes : List ℕ). Reaches (between (ChunksUntilBreak major ∷ due) bytes) (between (ChunksUntilBreak major ∷ due) rest)) (sym split)
    (through _ _ _ (through _ _ _ (go_on_between (ChunksUntilBreak major ∷ due) (first ++ (more ++ rest))) (reaches_same _ _ goes))
    (through _ _ _ (past_chunk major chunk first (more ++ rest) (ChunksUntilBreak major ∷ due) low h)
    (past_chunks major chunks more rest due low p)))

-- the break that is due
pub past_break : (d : Due) (rest : List ℕ) (due : List Due) → (d ≡ ItemsUntilBreak) ⊎ (d ≡ PairsUntilBreak) ⊎ ((major : ℕ) × (d ≡ ChunksUntilBreak major))
    → Reaches (between (d ∷ due) (break ∷ rest)) (between due rest)
past_break d rest due (inl e) = rw e (go_on_between (ItemsUntilBreak ∷ due) (break ∷ rest))
past_break d rest due (inr (inl e)) = rw e (go_on_between (PairsUntilBreak ∷ due) (break ∷ rest))
past_break d rest due (inr (inr (major, e))) = rw e (go_on_between (ChunksUntilBreak major ∷ due) (break ∷ rest))

add-zero_sym : (n : ℕ) → n ≡ n + 0
add-zero_sym n = omega arith

pub along : (s : List ℕ → State) (bytes there : List ℕ) (t : State) → bytes ≡ there → Reaches (s there) t → Reaches (s bytes) t
along s bytes there t e p = subst (λ (l : List ℕ). Reaches (s l) t) (sym e) p

-- one step between two items, to a state that is known
pub step_to : (due : List Due) (bytes : List ℕ) (s : State) → next due bytes ≡ s → Reaches (between due bytes) s
step_to due bytes s e = through _ _ _ (go_on_between due bytes) (reaches_same _ _ e)

-- the head of an indefinite length
abbrev pub opening : ℕ → HeadRead
opening major = record { major = major; argument = None; length = 1 }

-- the opening of an array or a map until a break
pub opened : (major : ℕ) (d : Due) (bytes : List ℕ) (due : List Due) → ((major ≡ 4) × (d ≡ ItemsUntilBreak)) ⊎ ((major ≡ 5) × (d ≡ PairsUntilBreak))
    → Reaches (at_item due (initial_byte major 31 ∷ bytes)) (between (d ∷ due) bytes)
opened major d bytes due (inl (m, e)) = rw (m, e) (at_head due (initial_byte 4 31 ∷ bytes) (whole (opening 4)) (opening_begins 4 bytes (inl (omega arith, omega arith))))
opened major d bytes due (inr (m, e)) = rw (m, e) (at_head due (initial_byte 5 31 ∷ bytes) (whole (opening 5)) (opening_begins 5 bytes (inl (omega arith, omega arith))))

-- from an opening, past what stands before the break
until_break : (major : ℕ) (d : Due) (body first rest : List ℕ) (due : List Due) → ((major ≡ 4) × (d ≡ ItemsUntilBreak)) ⊎ ((major ≡ 5) × (d ≡ PairsUntilBreak)) → UntilBreak major body first
    → Reaches (between (d ∷ due) (body ++ break ∷ rest)) (between (d ∷ due) (break ∷ rest))
    → Reaches (at_item due (first ++ rest)) (between due rest)
until_break major d body first rest due type e inner =
    let split : first ++ rest ≡ initial_byte major 31 ∷ (body ++ break ∷ rest) = ap (λ l. l ++ rest) e ∙ ap (λ l. initial_byte major 31 ∷ l) (append_assoc body (break ∷ []) rest) in
    along (at_item due) (first ++ rest) (initial_byte major 31 ∷ (body ++ break ∷ rest)) (between due rest) split
    (through _ _ _ (opened major d (body ++ break ∷ rest) due type)
    (through _ _ _ inner (past_break d rest due (ends type))))
  where
    ends : ((major ≡ 4) × (d ≡ ItemsUntilBreak)) ⊎ ((major ≡ 5) × (d ≡ PairsUntilBreak)) → (d ≡ ItemsUntilBreak) ⊎ (d ≡ PairsUntilBreak) ⊎ ((m : ℕ) × (d ≡ ChunksUntilBreak m))
    ends (inl (m, e)) = inl e
    ends (inr (m, e)) = inr (inl e)

pub string_type : (major : ℕ) → (major ≡ 2) ⊎ (major ≡ 3) → major ≤ 6
string_type major (inl e) = omega arith
string_type major (inr e) = omega arith

pub opened_string : (major : ℕ) (bytes : List ℕ) (due : List Due) → (major ≡ 2) ⊎ (major ≡ 3)
    → Reaches (at_item due (initial_byte major 31 ∷ bytes)) (between (ChunksUntilBreak major ∷ due) bytes)
opened_string major bytes due (inl e) = rw e (at_head due (initial_byte 2 31 ∷ bytes) (whole (opening 2)) (opening_begins 2 bytes (inl (omega arith, omega arith))))
opened_string major bytes due (inr e) = rw e (at_head due (initial_byte 3 31 ∷ bytes) (whole (opening 3)) (opening_begins 3 bytes (inl (omega arith, omega arith))))

pub past_string_head : (major n : ℕ) (body first rest : List ℕ) (due : List Due) → (major ≡ 2) ⊎ (major ≡ 3) → HeadThen major n body first
    → Reaches (at_item due (first ++ rest)) (after_payload n due (body ++ rest))
past_string_head major n body first rest due (inl e) h = past_head 2 n body first rest due (omega arith) (subst (λ (m : ℕ). HeadThen m n body first) e h)
past_string_head major n body first rest due (inr e) h = past_head 3 n body first rest due (omega arith) (subst (λ (m : ℕ). HeadThen m n body first) e h)

past_string : (major : ℕ) (extent : Extent) (chunks : List (List ℕ)) (first rest : List ℕ) (due : List Due) → (major ≡ 2) ⊎ (major ≡ 3) → IsString major extent chunks first
    → Reaches (at_item due (first ++ rest)) (between due rest)
past_string major definite [] first rest due type (single, p) = absurd (cc)
past_string major definite (chunk ∷ other ∷ chunks) first rest due type (single, p) = absurd (omega arith)
past_string major definite (chunk ∷ []) first rest due type (single, (bytes, more, h, none, e)) =
    let split : first ++ rest ≡ bytes ++ rest = ap (λ l. l ++ rest) (e ∙ ap (λ l. bytes ++ l) none ∙ append-nil bytes) in
    along (at_item due) (first ++ rest) (bytes ++ rest) (between due rest) split
    (through _ _ _ (past_string_head major (length chunk) chunk bytes rest due type h) (reaches_same _ _ (past_payload chunk rest due)))
past_string major indefinite chunks first rest due type (body, p, e) =
    let split : first ++ rest ≡ initial_byte major 31 ∷ (body ++ break ∷ rest) = ap (λ l. l ++ rest) e ∙ ap (λ l. initial_byte major 31 ∷ l) (append_assoc body (break ∷ []) rest) in
    along (at_item due) (first ++ rest) (initial_byte major 31 ∷ (body ++ break ∷ rest)) (between due rest) split
    (through _ _ _ (opened_string major (body ++ break ∷ rest) due type)
    (through _ _ _ (past_chunks major chunks body (break ∷ rest) due (string_type major type) p) (past_break (ChunksUntilBreak major) rest due (inr (inr (major, refl))))))

-- a number and a simple value in the initial byte
past_plain : (major n : ℕ) (first rest : List ℕ) (due : List Due) → (major ≡ 0) ⊎ (major ≡ 1) → IsHead major n first → Reaches (at_item due (first ++ rest)) (between due rest)
past_plain major n first rest due (inl e) h = subst (λ (m : ℕ). IsHead m n first → Reaches (at_item due (first ++ rest)) (between due rest)) (sym e) (after_its_head 0 n first rest due (omega arith)) h
past_plain major n first rest due (inr e) h = subst (λ (m : ℕ). IsHead m n first → Reaches (at_item due (first ++ rest)) (between due rest)) (sym e) (after_its_head 1 n first rest due (omega arith)) h

past_seven : (n : ℕ) (head rest : List ℕ) (due : List Due) → IsHead 7 n head → ¬ (IsShortSimple head) → Reaches (at_item due (head ++ rest)) (between due rest)
past_seven n head rest due spelled long =
    let here : Reaches (at_item due (head ++ rest)) (between due (drop (length head) (head ++ rest))) =
    at_head due (head ++ rest) (whole (head_in_front 7 n head)) (front_begins 7 n head rest (omega arith) spelled long) in
    subst (λ (bytes : List ℕ). Reaches (at_item due (head ++ rest)) (between due bytes)) (drop_front head rest) here

past_simple : (n : ℕ) (first rest : List ℕ) (due : List Due) → IsSimple n first → Reaches (at_item due (first ++ rest)) (between due rest)
past_simple n first rest due (inl (low, e)) =
    past_seven n first rest due (record { width = immediate; fits = low; spelled = e })
    (λ (k, small, short). let p : 32 * 7 + n ≡ 0xf8 = ap (λ l. slice_index l 0) (sym e ∙ short) in omega arith)
past_simple n first rest due (inr (low, high, e)) =
    let byte : n % 256 ≡ n = omega arith in
    past_seven n first rest due (record { width = one; fits = high; spelled = e ∙ ap (λ b. 0xf8 ∷ b ∷ []) (sym byte) })
    (λ (k, small, short). let p : n ≡ k = ap (λ l. slice_index l 1) (sym e ∙ short) in omega arith)

all_digits : (digits : List ℕ) → All (λ b. b < 256) digits → (i : ℕ) → get_or digits i 0 < 256
all_digits [] h i = omega arith
all_digits (d ∷ digits) h zero = h 0 0 (omega arith)
all_digits (d ∷ digits) h (suc i) = all_digits digits (λ k e p. h (suc k) e (omega arith)) i

float_not_short : (b : ℕ) (digits head : List ℕ) → 0xf8 < b → head ≡ b ∷ digits → ¬ (IsShortSimple head)
float_not_short b digits head high e (k, small, short) = let p : b ≡ 0xf8 = ap (λ l. slice_index l 0) (sym e ∙ short) in omega arith

past_float : (digits first rest : List ℕ) (due : List Due) → IsFloat digits first → Reaches (at_item due (first ++ rest)) (between due rest)
past_float digits first rest due (bytes, inl (size, e)) =
    let below = all_digits digits bytes in
    let zeroth = below 0 in let second = below 1 in
    let n = from_be_bytes w16 digits in
    let fits : n < 2 ^ 16 = omega arith in
    past_seven n first rest due (record { width = two; fits = fits; spelled = e ∙ ap (λ l. 0xf9 ∷ l) (sym (be_bytes_2 digits n size below refl)) }) (float_not_short 0xf9 digits first (omega arith) e)
past_float digits first rest due (bytes, inr (inl (size, e))) =
    let below = all_digits digits bytes in
    let zeroth = below 0 in let second = below 1 in let third = below 2 in let fourth = below 3 in
    let n = from_be_bytes w32 digits in
    let fits : n < 2 ^ 32 = omega arith in
    past_seven n first rest due (record { width = four; fits = fits; spelled = e ∙ ap (λ l. 0xfa ∷ l) (sym (be_bytes_4 digits n size below refl)) }) (float_not_short 0xfa digits first (omega arith) e)
past_float digits first rest due (bytes, inr (inr (size, e))) =
    let below = all_digits digits bytes in
    let zeroth = below 0 in let second = below 1 in let third = below 2 in let fourth = below 3 in
    let fifth = below 4 in let sixth = below 5 in let seventh = below 6 in let eighth = below 7 in
    let n = from_be_bytes w64 digits in
    let fits : n < 2 ^ 64 = omega arith in
    past_seven n first rest due (record { width = eight; fits = fits; spelled = e ∙ ap (λ l. 0xfb ∷ l) (sym (be_bytes_8 digits n size below refl)) }) (float_not_short 0xfb digits first (omega arith) e)

pub pair_split : (key value more body rest : List ℕ) → body ≡ key ++ value ++ more → body ++ rest ≡ key ++ (value ++ (more ++ rest))
pair_split key value more body rest e = ap (λ l. l ++ rest) e ∙ simp append_assoc

mutual
  -- past an item
  pub past_item : (i : Item) (first rest : List ℕ) (due : List Due) → IsEncodingOf i first → Reaches (at_item due (first ++ rest)) (between due rest)
  past_item (unsigned n) first rest due h = past_plain 0 n first rest due (inl refl) h
  past_item (negative n) first rest due h = past_plain 1 n first rest due (inr refl) h
  past_item (byte_string extent chunks) first rest due h = past_string 2 extent chunks first rest due (inl refl) h
  past_item (text_string extent chunks) first rest due h = past_string 3 extent chunks first rest due (inr refl) h
  past_item (array definite is) first rest due (body, p, h) =
      through _ _ _ (past_head 4 (item_count is) body first rest due (omega arith) h)
      (through _ _ _ (reaches_same _ _ (ap (λ n. between (Items n ∷ due) (body ++ rest)) (add-zero_sym (item_count is))))
      (through _ _ _ (past_items is body rest due 0 p) (go_on_between (Items 0 ∷ due) rest)))
  past_item (array indefinite is) first rest due (body, p, e) = until_break 4 ItemsUntilBreak body first rest due (inl (refl, refl)) e (past_items_until is body (break ∷ rest) due p)
  past_item (map_item definite ps) first rest due (body, p, h) =
      through _ _ _ (past_head 5 (pair_count ps) body first rest due (omega arith) h)
      (through _ _ _ (reaches_same _ _ (ap (λ n. between (Pairs n ∷ due) (body ++ rest)) (add-zero_sym (pair_count ps))))
      (through _ _ _ (past_pairs ps body rest due 0 p) (go_on_between (Pairs 0 ∷ due) rest)))
  past_item (map_item indefinite ps) first rest due (body, p, e) = until_break 5 PairsUntilBreak body first rest due (inr (refl, refl)) e (past_pairs_until ps body (break ∷ rest) due p)
  past_item (tag n i) first rest due (body, p, h) =
      through _ _ _ (past_head 6 n body first rest due (omega arith) h)
      (through _ _ _ (go_on_between (Items 1 ∷ due) (body ++ rest))
      (through _ _ _ (past_item i body rest (Items 0 ∷ due) p) (go_on_between (Items 0 ∷ due) rest)))
  past_item (simple n) first rest due h = past_simple n first rest due h
  past_item (float digits) first rest due h = past_float digits first rest due h

  -- past so many items, of these and more
  pub past_items : (is : ItemList) (body rest : List ℕ) (due : List Due) (n : ℕ) → AreEncodingsOf is body
      → Reaches (between (Items (item_count is + n) ∷ due) (body ++ rest)) (between (Items n ∷ due) rest)
  past_items no_items body rest due n e =
      reaches_same _ _ (ap (λ l. between (Items (0 + n) ∷ due) (l ++ rest)) e ∙ ap (λ k. between (Items k ∷ due) rest) (zero-add n))
  past_items (item i is) body rest due n (first, more, h, p, e) =
      let one_more : suc (item_count is) + n ≡ suc (item_count is + n) = omega arith in
      along (between (Items (suc (item_count is) + n) ∷ due)) (body ++ rest) (first ++ (more ++ rest)) (between (Items n ∷ due) rest) (ap (λ l. l ++ rest) e ∙ append_assoc first more rest)
      (through _ _ _ (reaches_same _ _ (ap (λ k. between (Items k ∷ due) (first ++ (more ++ rest))) one_more))
      (through _ _ _ (go_on_between (Items (suc (item_count is + n)) ∷ due) (first ++ (more ++ rest)))
      (through _ _ _ (past_item i first (more ++ rest) (Items (item_count is + n) ∷ due) h) (past_items is more rest due n p))))

  -- past items where a break may follow
  pub past_items_until : (is : ItemList) (body rest : List ℕ) (due : List Due) → AreEncodingsOf is body
      → Reaches (between (ItemsUntilBreak ∷ due) (body ++ rest)) (between (ItemsUntilBreak ∷ due) rest)
  past_items_until no_items body rest due e = reaches_same _ _ (ap (λ l. between (ItemsUntilBreak ∷ due) (l ++ rest)) e)
  past_items_until (item i is) body rest due (first, more, h, p, e) =
      along (between (ItemsUntilBreak ∷ due)) (body ++ rest) (first ++ (more ++ rest)) (between (ItemsUntilBreak ∷ due) rest) (ap (λ l. l ++ rest) e ∙ append_assoc first more rest)
      (through _ _ _ (step_to (ItemsUntilBreak ∷ due) (first ++ (more ++ rest)) (at_item (ItemsUntilBreak ∷ due) (first ++ (more ++ rest))) (rw (item_is_no_break i first (more ++ rest) h) refl))
      (through _ _ _ (past_item i first (more ++ rest) (ItemsUntilBreak ∷ due) h) (past_items_until is more rest due p)))

  pub past_pairs : (ps : PairList) (body rest : List ℕ) (due : List Due) (n : ℕ) → ArePairEncodingsOf ps body
      → Reaches (between (Pairs (pair_count ps + n) ∷ due) (body ++ rest)) (between (Pairs n ∷ due) rest)
  past_pairs no_pairs body rest due n e =
      reaches_same _ _ (ap (λ l. between (Pairs (0 + n) ∷ due) (l ++ rest)) e ∙ ap (λ k. between (Pairs k ∷ due) rest) (zero-add n))
  past_pairs (pair k v ps) body rest due n (key, value, more, hk, hv, p, e) =
      let one_more : suc (pair_count ps) + n ≡ suc (pair_count ps + n) = omega arith in
      along (between (Pairs (suc (pair_count ps) + n) ∷ due)) (body ++ rest) (key ++ (value ++ (more ++ rest))) (between (Pairs n ∷ due) rest) (pair_split key value more body rest e)
      (through _ _ _ (reaches_same _ _ (ap (λ c. between (Pairs c ∷ due) (key ++ (value ++ (more ++ rest)))) one_more))
      (through _ _ _ (go_on_between (Pairs (suc (pair_count ps + n)) ∷ due) (key ++ (value ++ (more ++ rest))))
      (through _ _ _ (past_item k key (value ++ (more ++ rest)) (ValueAndPairs (pair_count ps + n) ∷ due) hk)
      (through _ _ _ (go_on_between (ValueAndPairs (pair_count ps + n) ∷ due) (value ++ (more ++ rest)))
      (through _ _ _ (past_item v value (more ++ rest) (Pairs (pair_count ps + n) ∷ due) hv) (past_pairs ps more rest due n p))))))

  pub past_pairs_until : (ps : PairList) (body rest : List ℕ) (due : List Due) → ArePairEncodingsOf ps body
      → Reaches (between (PairsUntilBreak ∷ due) (body ++ rest)) (between (PairsUntilBreak ∷ due) rest)
  past_pairs_until no_pairs body rest due e = reaches_same _ _ (ap (λ l. between (PairsUntilBreak ∷ due) (l ++ rest)) e)
  past_pairs_until (pair k v ps) body rest due (key, value, more, hk, hv, p, e) =
      along (between (PairsUntilBreak ∷ due)) (body ++ rest) (key ++ (value ++ (more ++ rest))) (between (PairsUntilBreak ∷ due) rest) (pair_split key value more body rest e)
      (through _ _ _ (step_to (PairsUntilBreak ∷ due) (key ++ (value ++ (more ++ rest))) (at_item (ValueUntilBreak ∷ due) (key ++ (value ++ (more ++ rest)))) (rw (item_is_no_break k key (value ++ (more ++ rest)) hk) refl))
      (through _ _ _ (past_item k key (value ++ (more ++ rest)) (ValueUntilBreak ∷ due) hk)
      (through _ _ _ (go_on_between (ValueUntilBreak ∷ due) (value ++ (more ++ rest)))
      (through _ _ _ (past_item v value (more ++ rest) (PairsUntilBreak ∷ due) hv) (past_pairs_until ps more rest due p)))))
