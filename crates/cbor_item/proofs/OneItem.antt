-- Bytes are the encoding of at most one item, and no encoding is the beginning of another.
use Rattle.std.proofs.Common.{◌≡◌, ◌⊎◌, inl, inr, ℕ, suc, ◌+◌, ◌*◌, ◌<◌, ◌≤◌, List, [], ◌∷◌, ◌++◌, length, take, drop, sym, ◌∙◌, ap, subst, arith, slice_index, Some, refl, append_assoc, length-append, Bool, true, false}
use Rattle.cbor_item.specs.Head.{IsHead, HeadRead}
use Rattle.cbor_item.specs.Item.{Extent, definite, indefinite, Item, unsigned, negative, byte_string, text_string, array, map as map_item, tag, simple, float, Items as ItemList, no_items, item, item_count, Pairs as PairList, no_pairs, pair, pair_count}
use Rattle.cbor_item.specs.WellFormed.{break, HeadThen, UntilBreak, AreChunks, IsString, IsSimple, IsFloat, IsEncodingOf, AreEncodingsOf, ArePairEncodingsOf}
use Rattle.cbor_item.specs.Private.Chunk.{whole, IsHeadAnswer, begins_with_break}
use Rattle.cbor_item.specs.Private.Skip.{Outcome, ended, State, between, at_item, at_chunk, stopped, Becomes, Leads, at_end, goes_on, item_state, chunk_state}
use Rattle.cbor_item.proofs.FirstByte.{head_then_begins, item_major, major_of, not_empty}
use Rattle.cbor_item.proofs.HeadLemmas.{one_answer, head_in_front, front_begins_low, take_front, drop_front}
use Rattle.cbor_item.proofs.Passing.{pair_split, past_item, head_is_no_break, item_is_no_break}

-- a state becomes one state
becomes_one : (s t u : State) → Becomes s t → Becomes s u → t ≡ u
becomes_one (between due bytes) t u p q = p ∙ sym q
becomes_one (at_item due bytes) t u (a, here, p) (c, there, q) = p ∙ ap (λ x. item_state x due bytes) (one_answer bytes a c here there) ∙ sym q
becomes_one (at_chunk major due bytes) t u (a, here, p) (c, there, q) = p ∙ ap (λ x. chunk_state major x due bytes) (one_answer bytes a c here there) ∙ sym q
becomes_one (stopped o) t u p q = absurd p

-- and ends in one way
pub one_end : {s : State} {o : Outcome} → Leads s o → (p : Outcome) → Leads s p → o ≡ p
one_end at_end p at_end = refl
one_end at_end p (goes_on never leads) = absurd never
one_end (goes_on never leads) p at_end = absurd never
one_end (goes_on {s} {t} {o} b leads) p (goes_on {s = r} {t = u} {o = q} c other) =
    one_end leads p (subst (λ (v : State). Leads v p) (sym (becomes_one s t u b c)) other)

-- an item ends where the bytes after it begin
item_ends : (i : Item) (first rest : List ℕ) → IsEncodingOf i first → Leads (at_item [] (first ++ rest)) (ended rest)
item_ends i first rest h = past_item i first rest [] h (ended rest) (goes_on refl at_end)

-- lists of one length, in front of others
fronts : (a b x y : List ℕ) → length a ≡ length b → a ++ x ≡ b ++ y → (a ≡ b) × (x ≡ y)
fronts a b x y size e =
    let rest : drop (length a) (a ++ x) ≡ drop (length b) (b ++ y) = ap (λ l. drop (length a) l) e ∙ ap (λ n. drop n (b ++ y)) size in
    let front : take (length a) (a ++ x) ≡ take (length b) (b ++ y) = ap (λ l. take (length a) l) e ∙ ap (λ n. take n (b ++ y)) size in
    (sym (take_front a x) ∙ front ∙ take_front b y, sym (drop_front a x) ∙ rest ∙ drop_front b y)

-- no encoding is the beginning of another
pub one_place : (i j : Item) (a b x y : List ℕ) → IsEncodingOf i a → IsEncodingOf j b → a ++ x ≡ b ++ y → (a ≡ b) × (x ≡ y)
one_place i j a b x y h k e =
    let other = item_ends j b y k in
    let same = one_end (item_ends i a x h) (ended y) (subst (λ (l : List ℕ). Leads (at_item [] l) (ended y)) (sym e) other) in
    let rest : x ≡ y = cc in
    let size : length a ≡ length b = omega (arith, ap length e, length-append a x, length-append b y, ap length rest) in
    fronts a b x y size e

-- bytes begin with one head of a type
one_head : (major n m : ℕ) (a b x y : List ℕ) → major ≤ 6 → IsHead major n a → IsHead major m b → a ++ x ≡ b ++ y → (n ≡ m) × (x ≡ y)
one_head major n m a b x y low h k e =
    let same : whole (head_in_front major n a) ≡ whole (head_in_front major m b) =
    one_answer (a ++ x) (whole (head_in_front major n a)) (whole (head_in_front major m b)) (front_begins_low major n a x low h)
    (subst (λ (l : List ℕ). IsHeadAnswer l (whole (head_in_front major m b))) (sym e) (front_begins_low major m b y low k)) in
    let heads : head_in_front major n a ≡ head_in_front major m b = cc in
    let arguments : Some n ≡ Some m = ap (λ (r : HeadRead). r.argument) heads in
    let argument : n ≡ m = cc in
    let size : length a ≡ length b = ap (λ (r : HeadRead). r.length) heads in
    (argument, (fronts a b x y size e).1)

-- and with one chunk
one_chunk : (major : ℕ) (c d first second x y : List ℕ) → major ≤ 6 → HeadThen major (length c) c first → HeadThen major (length d) d second
    → first ++ x ≡ second ++ y → (c ≡ d) × (x ≡ y)
one_chunk major c d first second x y low (head, h, p) (other, k, q) e =
    let split : head ++ (c ++ x) ≡ other ++ (d ++ y) =
    sym (ap (λ l. l ++ x) p ∙ append_assoc head c x) ∙ e ∙ ap (λ l. l ++ y) q ∙ append_assoc other d y in
    let heads = one_head major (length c) (length d) head other (c ++ x) (d ++ y) low h k split in
    fronts c d x y heads.0 heads.1

chunks_same : (major : ℕ) (cs ds : List (List ℕ)) (a b x y : List ℕ) → major ≤ 6 → AreChunks major cs a → AreChunks major ds b
    → begins_with_break x ≡ true → begins_with_break y ≡ true → a ++ x ≡ b ++ y → cs ≡ ds
chunks_same major [] [] a b x y low p q ends closes e = refl
chunks_same major [] (d ∷ ds) a b x y low p (second, others, k, q, r) ends closes e =
    let split : x ≡ second ++ (others ++ y) = sym (ap (λ l. l ++ x) p) ∙ e ∙ ap (λ l. l ++ y) r ∙ append_assoc second others y in
    let none = head_is_no_break major (length d) d second (others ++ y) low k in
    absurd (differ (ap begins_with_break split) ends none)
  where
    differ : {s t : Bool} → s ≡ t → s ≡ true → t ≡ false → ⊥
    differ p q r = cc
chunks_same major (c ∷ cs) [] a b x y low (first, more, h, p, r) q ends closes e =
    let split : first ++ (more ++ x) ≡ y = sym (ap (λ l. l ++ x) r ∙ append_assoc first more x) ∙ e ∙ ap (λ l. l ++ y) q in
    let none = head_is_no_break major (length c) c first (more ++ x) low h in
    absurd (differ (ap begins_with_break split) none closes)
  where
    differ : {s t : Bool} → s ≡ t → s ≡ false → t ≡ true → ⊥
    differ p q r = cc
chunks_same major (c ∷ cs) (d ∷ ds) a b x y low (first, more, h, p, r) (second, others, k, q, t) ends closes e =
    let split : first ++ (more ++ x) ≡ second ++ (others ++ y) =
    sym (ap (λ l. l ++ x) r ∙ append_assoc first more x) ∙ e ∙ ap (λ l. l ++ y) t ∙ append_assoc second others y in
    let one = one_chunk major c d first second (more ++ x) (others ++ y) low h k split in
    let rest = chunks_same major cs ds more others x y low p q ends closes one.1 in
    cons_same one.0 rest
  where
    cons_same : {c d : List ℕ} {cs ds : List (List ℕ)} → c ≡ d → cs ≡ ds → c ∷ cs ≡ d ∷ ds
    cons_same p q = cc

-- a body before a break
before_break : (major : ℕ) (a b bytes : List ℕ) → UntilBreak major a bytes → UntilBreak major b bytes → a ++ break ∷ [] ≡ b ++ break ∷ []
before_break major a b bytes p q = ap (drop 1) (sym p ∙ q)

-- a definite length and an indefinite one
definite_or_not : (major n : ℕ) (body other bytes : List ℕ) → major ≤ 6 → HeadThen major n body bytes → UntilBreak major other bytes → ⊥
definite_or_not major n body other [] low h u = cc
definite_or_not major n body other (b ∷ rest) low h u =
    let info = (head_then_begins major n body b rest h).1 in
    let first : b ≡ 32 * major + 31 = ap (λ l. slice_index l 0) u in omega arith

strings_same : (major : ℕ) (extent other : Extent) (cs ds : List (List ℕ)) (bytes : List ℕ) → major ≤ 6 → IsString major extent cs bytes → IsString major other ds bytes → (extent ≡ other) × (cs ≡ ds)
strings_same major definite definite [] ds bytes low (size, p) (count, q) = absurd (omega arith)
strings_same major definite definite (c ∷ c2 ∷ cs) ds bytes low (size, p) (count, q) = absurd (omega arith)
strings_same major definite definite (c ∷ []) [] bytes low (size, p) (count, q) = absurd (omega arith)
strings_same major definite definite (c ∷ []) (d ∷ d2 ∷ ds) bytes low (size, p) (count, q) = absurd (omega arith)
strings_same major definite definite (c ∷ []) (d ∷ []) bytes low (size, (first, more, h, p, r)) (count, (second, others, k, q, t)) =
    let one = one_chunk major c d first second more others low h k (sym r ∙ t) in (refl, ap (λ l. l ∷ []) one.0)
strings_same major definite indefinite [] ds bytes low (size, p) u = absurd (omega arith)
strings_same major definite indefinite (c ∷ cs) ds bytes low (size, (first, more, (head, h, s), p, r)) (body, q, u) =
    absurd (definite_or_not major (length c) (c ++ more) body bytes low (head, h, r ∙ ap (λ l. l ++ more) s ∙ append_assoc head c more) u)
strings_same major indefinite definite cs [] bytes low u (size, p) = absurd (omega arith)
strings_same major indefinite definite cs (d ∷ ds) bytes low (body, q, u) (size, (first, more, (head, h, s), p, r)) =
    absurd (definite_or_not major (length d) (d ++ more) body bytes low (head, h, r ∙ ap (λ l. l ++ more) s ∙ append_assoc head d more) u)
strings_same major indefinite indefinite cs ds bytes low (a, p, u) (b, q, v) =
    (refl, chunks_same major cs ds a b (break ∷ []) (break ∷ []) low p q refl refl (before_break major a b bytes u v))

-- two lists of items end at one place: after as many, or before a break
abbrev EndTogether : ℕ → ℕ → List ℕ → List ℕ → Type 0
EndTogether n m x y = (n ≡ m) ⊎ ((begins_with_break x ≡ true) × (begins_with_break y ≡ true))

break_or_item : (i : Item) (first rest z : List ℕ) → IsEncodingOf i first → begins_with_break z ≡ true → z ≡ first ++ rest → ⊥
break_or_item i first rest z h closed e = differ (ap begins_with_break e) closed (item_is_no_break i first rest h)
  where
    differ : {s t : Bool} → s ≡ t → s ≡ true → t ≡ false → ⊥
    differ p q r = cc

one_less : (n m : ℕ) (x y : List ℕ) → EndTogether (suc n) (suc m) x y → EndTogether n m x y
one_less n m x y (inl count) = inl (omega arith)
one_less n m x y (inr closed) = inr closed

-- the first byte tells the major type
same_major : (i j : Item) (bytes : List ℕ) → IsEncodingOf i bytes → IsEncodingOf j bytes → major_of i ≡ major_of j
same_major i j [] h k = absurd (not_empty i h)
same_major i j (b ∷ rest) h k = sym (item_major i b rest h) ∙ item_major j b rest k

float_digits : (digits bytes : List ℕ) → IsFloat digits bytes → drop 1 bytes ≡ digits
float_digits digits bytes (all, inl (size, e)) = ap (drop 1) e
float_digits digits bytes (all, inr (inl (size, e))) = ap (drop 1) e
float_digits digits bytes (all, inr (inr (size, e))) = ap (drop 1) e

float_first : (digits bytes : List ℕ) → IsFloat digits bytes → 0xf8 < slice_index bytes 0
float_first digits bytes (all, inl (size, e)) = let p : slice_index bytes 0 ≡ 0xf9 = ap (λ l. slice_index l 0) e in omega arith
float_first digits bytes (all, inr (inl (size, e))) = let p : slice_index bytes 0 ≡ 0xfa = ap (λ l. slice_index l 0) e in omega arith
float_first digits bytes (all, inr (inr (size, e))) = let p : slice_index bytes 0 ≡ 0xfb = ap (λ l. slice_index l 0) e in omega arith

simple_first : (n : ℕ) (bytes : List ℕ) → IsSimple n bytes → slice_index bytes 0 ≤ 0xf8
simple_first n bytes (inl (low, e)) = let p : slice_index bytes 0 ≡ 32 * 7 + n = ap (λ l. slice_index l 0) e in omega arith
simple_first n bytes (inr (low, high, e)) = let p : slice_index bytes 0 ≡ 0xf8 = ap (λ l. slice_index l 0) e in omega arith

simple_same : (n m : ℕ) (bytes : List ℕ) → IsSimple n bytes → IsSimple m bytes → n ≡ m
simple_same n m bytes (inl (low, e)) (inl (small, f)) = let p : 32 * 7 + n ≡ 32 * 7 + m = ap (λ l. slice_index l 0) (sym e ∙ f) in omega arith
simple_same n m bytes (inl (low, e)) (inr (large, below, f)) = let p : 32 * 7 + n ≡ 0xf8 = ap (λ l. slice_index l 0) (sym e ∙ f) in absurd (omega arith)
simple_same n m bytes (inr (large, below, e)) (inl (small, f)) = let p : 0xf8 ≡ 32 * 7 + m = ap (λ l. slice_index l 0) (sym e ∙ f) in absurd (omega arith)
simple_same n m bytes (inr (large, below, e)) (inr (more, above, f)) = ap (λ l. slice_index l 1) (sym e ∙ f)

mutual
  unfolding major_of

  -- bytes are the encoding of at most one item
  pub same_item : (i j : Item) (bytes : List ℕ) → IsEncodingOf i bytes → IsEncodingOf j bytes → i ≡ j
  same_item (unsigned n) (unsigned m) bytes h k = ap unsigned (one_head 0 n m bytes bytes [] [] (omega arith) h k refl).0
  same_item (negative n) (negative m) bytes h k = ap negative (one_head 1 n m bytes bytes [] [] (omega arith) h k refl).0
  same_item (byte_string extent cs) (byte_string other ds) bytes h k =
      let s = strings_same 2 extent other cs ds bytes (omega arith) h k in rw (s.0, s.1) refl
  same_item (text_string extent cs) (text_string other ds) bytes h k =
      let s = strings_same 3 extent other cs ds bytes (omega arith) h k in rw (s.0, s.1) refl
  same_item (array definite is) (array definite js) bytes (body, p, (head, h, e)) (other, q, (front, k, f)) =
      let heads = one_head 4 (item_count is) (item_count js) head front body other (omega arith) h k (sym e ∙ f) in
      ap (array definite) (same_items is js body other [] [] p q (ap (λ l. l ++ []) heads.1) (inl heads.0))
  same_item (array definite is) (array indefinite js) bytes (body, p, h) (other, q, u) = absurd (definite_or_not 4 (item_count is) body other bytes (omega arith) h u)
  same_item (array indefinite is) (array definite js) bytes (other, q, u) (body, p, h) = absurd (definite_or_not 4 (item_count js) body other bytes (omega arith) h u)
  same_item (array indefinite is) (array indefinite js) bytes (body, p, u) (other, q, v) =
      ap (array indefinite) (same_items is js body other (break ∷ []) (break ∷ []) p q (before_break 4 body other bytes u v) (inr (refl, refl)))
  same_item (map_item definite ps) (map_item definite qs) bytes (body, p, (head, h, e)) (other, q, (front, k, f)) =
      let heads = one_head 5 (pair_count ps) (pair_count qs) head front body other (omega arith) h k (sym e ∙ f) in
      ap (map_item definite) (same_pairs ps qs body other [] [] p q (ap (λ l. l ++ []) heads.1) (inl heads.0))
  same_item (map_item definite ps) (map_item indefinite qs) bytes (body, p, h) (other, q, u) = absurd (definite_or_not 5 (pair_count ps) body other bytes (omega arith) h u)
  same_item (map_item indefinite ps) (map_item definite qs) bytes (other, q, u) (body, p, h) = absurd (definite_or_not 5 (pair_count qs) body other bytes (omega arith) h u)
  same_item (map_item indefinite ps) (map_item indefinite qs) bytes (body, p, u) (other, q, v) =
      ap (map_item indefinite) (same_pairs ps qs body other (break ∷ []) (break ∷ []) p q (before_break 5 body other bytes u v) (inr (refl, refl)))
  same_item (tag n i) (tag m j) bytes (body, p, (head, h, e)) (other, q, (front, k, f)) =
      let heads = one_head 6 n m head front body other (omega arith) h k (sym e ∙ f) in
      let content : i ≡ j = same_item i j body p (subst (λ (l : List ℕ). IsEncodingOf j l) (sym heads.1) q) in
      rw (heads.0, content) refl
  same_item (simple n) (simple m) bytes h k = ap simple (simple_same n m bytes h k)
  same_item (float ds) (float es) bytes h k = ap float (sym (float_digits ds bytes h) ∙ float_digits es bytes k)
  same_item (simple n) (float es) bytes h k = let p = simple_first n bytes h in let q = float_first es bytes k in absurd (omega arith)
  same_item (float ds) (simple m) bytes h k = let p = simple_first m bytes k in let q = float_first ds bytes h in absurd (omega arith)
  same_item i j bytes h k = let e : major_of i ≡ major_of j = same_major i j bytes h k in absurd (omega arith)

  same_items : (is js : ItemList) (a b x y : List ℕ) → AreEncodingsOf is a → AreEncodingsOf js b → a ++ x ≡ b ++ y
      → EndTogether (item_count is) (item_count js) x y → is ≡ js
  same_items no_items no_items a b x y p q e ends = refl
  same_items no_items (item j js) a b x y p (second, others, k, q, t) e (inl count) = absurd (omega arith)
  same_items no_items (item j js) a b x y p (second, others, k, q, t) e (inr closed) =
      absurd (break_or_item j second (others ++ y) x k closed.0 (sym (ap (λ l. l ++ x) p) ∙ e ∙ ap (λ l. l ++ y) t ∙ append_assoc second others y))
  same_items (item i is) no_items a b x y (first, more, h, p, r) q e (inl count) = absurd (omega arith)
  same_items (item i is) no_items a b x y (first, more, h, p, r) q e (inr closed) =
      absurd (break_or_item i first (more ++ x) y h closed.1 (sym (ap (λ l. l ++ y) q) ∙ sym e ∙ ap (λ l. l ++ x) r ∙ append_assoc first more x))
  same_items (item i is) (item j js) a b x y (first, more, h, p, r) (second, others, k, q, t) e ends =
      let split : first ++ (more ++ x) ≡ second ++ (others ++ y) =
      sym (ap (λ l. l ++ x) r ∙ append_assoc first more x) ∙ e ∙ ap (λ l. l ++ y) t ∙ append_assoc second others y in
      let place = one_place i j first second (more ++ x) (others ++ y) h k split in
      let one : i ≡ j = same_item i j first h (subst (λ (l : List ℕ). IsEncodingOf j l) (sym place.0) k) in
      let rest : is ≡ js = same_items is js more others x y p q place.1 (one_less (item_count is) (item_count js) x y ends) in
      rw (one, rest) refl

  same_pairs : (ps qs : PairList) (a b x y : List ℕ) → ArePairEncodingsOf ps a → ArePairEncodingsOf qs b → a ++ x ≡ b ++ y
      → EndTogether (pair_count ps) (pair_count qs) x y → ps ≡ qs
  same_pairs no_pairs no_pairs a b x y p q e ends = refl
  same_pairs no_pairs (pair k v qs) a b x y p (key, value, others, hk, hv, q, t) e (inl count) = absurd (omega arith)
  same_pairs no_pairs (pair k v qs) a b x y p (key, value, others, hk, hv, q, t) e (inr closed) =
      absurd (break_or_item k key (value ++ (others ++ y)) x hk closed.0 (sym (ap (λ l. l ++ x) p) ∙ e ∙ pair_split key value others b y t))
  same_pairs (pair k v ps) no_pairs a b x y (key, value, more, hk, hv, p, r) q e (inl count) = absurd (omega arith)
  same_pairs (pair k v ps) no_pairs a b x y (key, value, more, hk, hv, p, r) q e (inr closed) =
      absurd (break_or_item k key (value ++ (more ++ x)) y hk closed.1 (sym (ap (λ l. l ++ y) q) ∙ sym e ∙ pair_split key value more a x r))
  same_pairs (pair k v ps) (pair l w qs) a b x y (key, value, more, hk, hv, p, r) (name, content, others, hl, hw, q, t) e ends =
      let split : key ++ (value ++ (more ++ x)) ≡ name ++ (content ++ (others ++ y)) = sym (pair_split key value more a x r) ∙ e ∙ pair_split name content others b y t in
      let keys = one_place k l key name (value ++ (more ++ x)) (content ++ (others ++ y)) hk hl split in
      let values = one_place v w value content (more ++ x) (others ++ y) hv hw keys.1 in
      let one : k ≡ l = same_item k l key hk (subst (λ (bs : List ℕ). IsEncodingOf l bs) (sym keys.0) hl) in
      let two : v ≡ w = same_item v w value hv (subst (λ (bs : List ℕ). IsEncodingOf w bs) (sym values.0) hw) in
      let rest : ps ≡ qs = same_pairs ps qs more others x y p q values.1 (one_less (pair_count ps) (pair_count qs) x y ends) in
      rw (one, two, rest) refl
