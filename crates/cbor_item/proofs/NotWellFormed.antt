-- Bytes that are no well-formed encoding of any item (RFC 8949, appendix F), so that a rule that takes
-- too much does not check.
use Rattle.std.proofs.Common.{subst, ◌≡◌, ◌≢◌, ◌⊎◌, inl, inr, ℕ, ◌+◌, ◌*◌, ◌/◌, ◌%◌, ◌<◌, ◌≤◌, List, [], ◌∷◌, ◌++◌, sym, ap, arith, slice_index}
use Rattle.cbor_item.proofs.FirstByte.{chunks_front, head_then_begins, StartsAnItem, item_starts, major_of, not_of, not_empty}
use Rattle.cbor_item.specs.Head.{initial_byte}
use Rattle.cbor_item.specs.Item.{Extent, definite, indefinite, Item, unsigned, negative, byte_string, text_string, array, map as map_item, tag, simple, float, no_pairs, pair, pair_count, Pairs}
use Rattle.cbor_item.specs.WellFormed.{UntilBreak, AreChunks, IsString, IsFloat, IsEncodingOf, ArePairEncodingsOf}

no_start : (b : ℕ) → StartsAnItem b → 28 ≤ b % 32 → (b % 32 ≡ 31 → (b / 32 < 2) ⊎ (5 < b / 32)) → ⊥
no_start b (inl low) high none = omega arith
no_start b (inr (info, low, high)) up none = elim (none info) [ inl small ↦ omega arith | inr large ↦ omega arith ]

-- not well-formed (appendix F): a lone break, the reserved information 28 to 30, information 31
-- under the types 0, 1 and 6, whatever follows
pub no_break : (i : Item) (rest : List ℕ) → ¬ (IsEncodingOf i (0xff ∷ rest))
no_break i rest h = no_start 0xff (item_starts i 0xff rest h) (omega arith) (λ _. inr (omega arith))

pub no_reserved : (i : Item) (rest : List ℕ) → ¬ (IsEncodingOf i (0x1c ∷ rest)) × ¬ (IsEncodingOf i (0xfe ∷ rest))
no_reserved i rest = (λ h. no_start 0x1c (item_starts i 0x1c rest h) (omega arith) (λ no. inl (omega arith)), λ h. no_start 0xfe (item_starts i 0xfe rest h) (omega arith) (λ no. inr (omega arith)))

pub no_indefinite_number : (i : Item) (rest : List ℕ) → ¬ (IsEncodingOf i (0x1f ∷ rest)) × ¬ (IsEncodingOf i (0x3f ∷ rest)) × ¬ (IsEncodingOf i (0xdf ∷ rest))
no_indefinite_number i rest = (
  λ h. no_start 0x1f (item_starts i 0x1f rest h) (omega arith) (λ _. inl (omega arith)),
  λ h. no_start 0x3f (item_starts i 0x3f rest h) (omega arith) (λ _. inl (omega arith)),
  λ h. no_start 0xdf (item_starts i 0xdf rest h) (omega arith) (λ _. inr (omega arith)),
)

float_first : (digits : List ℕ) (b : ℕ) (rest : List ℕ) → IsFloat digits (b ∷ rest) → 0xf9 ≤ b
float_first digits b rest (bytes, inl (n, e)) = let p : b ≡ 0xf9 = ap (λ l. slice_index l 0) e in omega arith
float_first digits b rest (bytes, inr (inl (n, e))) = let p : b ≡ 0xfa = ap (λ l. slice_index l 0) e in omega arith
float_first digits b rest (bytes, inr (inr (n, e))) = let p : b ≡ 0xfb = ap (λ l. slice_index l 0) e in omega arith

short_first : (m b : ℕ) (rest : List ℕ) → m < 24 → b ∷ rest ≡ initial_byte 7 m ∷ [] → 0xf8 ≤ b → ⊥
short_first m b rest low e high = let p : b ≡ 32 * 7 + m = ap (λ l. slice_index l 0) e in omega arith

-- nor is a two-byte simple value below 32
pub no_short_simple : (i : Item) (n : ℕ) (rest : List ℕ) → n < 32 → ¬ (IsEncodingOf i (0xf8 ∷ n ∷ rest))
unfolding major_of
no_short_simple (simple m) n rest small_n (inl (low, e)) = short_first m 0xf8 (n ∷ rest) low e (omega arith)
no_short_simple (simple m) n rest small_n (inr (low, high, e)) = let p : n ≡ m = ap (λ l. slice_index l 1) e in omega arith
no_short_simple (float digits) n rest small_n h = let p = float_first digits 0xf8 (n ∷ rest) h in omega arith
no_short_simple (unsigned m) n rest small_n h = not_of (unsigned m) 0xf8 (n ∷ rest) (omega arith) h
no_short_simple (negative m) n rest small_n h = not_of (negative m) 0xf8 (n ∷ rest) (omega arith) h
no_short_simple (byte_string extent chunks) n rest small_n h = not_of (byte_string extent chunks) 0xf8 (n ∷ rest) (omega arith) h
no_short_simple (text_string extent chunks) n rest small_n h = not_of (text_string extent chunks) 0xf8 (n ∷ rest) (omega arith) h
no_short_simple (array extent is) n rest small_n h = not_of (array extent is) 0xf8 (n ∷ rest) (omega arith) h
no_short_simple (map_item extent ps) n rest small_n h = not_of (map_item extent ps) 0xf8 (n ∷ rest) (omega arith) h
no_short_simple (tag m i) n rest small_n h = not_of (tag m i) 0xf8 (n ∷ rest) (omega arith) h

wrong_body : (chunks : List (List ℕ)) (body : List ℕ) → AreChunks 2 chunks body → 0x5f ∷ 0x61 ∷ 0x61 ∷ 0xff ∷ [] ≡ 0x5f ∷ (body ++ 0xff ∷ []) → ⊥
wrong_body [] [] p e = cc
wrong_body [] (b ∷ body) p e = cc
wrong_body (c ∷ cs) [] p e = cc
wrong_body (c ∷ cs) (b ∷ body) p e =
    let same : b ≡ 0x61 = sym (ap (λ l. slice_index l 1) e) in
    let front = (chunks_front 2 c cs b body p).0 in omega arith

wrong_string : (extent : Extent) (chunks : List (List ℕ)) → IsString 2 extent chunks (0x5f ∷ 0x61 ∷ 0x61 ∷ 0xff ∷ []) → ⊥
wrong_string definite [] (single, p) = cc
wrong_string definite (c ∷ cs) (single, p) = let front = (chunks_front 2 c cs 0x5f (0x61 ∷ 0x61 ∷ 0xff ∷ []) p).1 in omega arith
wrong_string indefinite chunks (body, p, e) = wrong_body chunks body p e

-- nor is a text string as a chunk of a byte string
pub no_other_chunk : (i : Item) → ¬ (IsEncodingOf i (0x5f ∷ 0x61 ∷ 0x61 ∷ 0xff ∷ []))
unfolding major_of
no_other_chunk (byte_string extent chunks) h = wrong_string extent chunks h
no_other_chunk (unsigned m) h = not_of (unsigned m) 0x5f (0x61 ∷ 0x61 ∷ 0xff ∷ []) (omega arith) h
no_other_chunk (negative m) h = not_of (negative m) 0x5f (0x61 ∷ 0x61 ∷ 0xff ∷ []) (omega arith) h
no_other_chunk (text_string extent chunks) h = not_of (text_string extent chunks) 0x5f (0x61 ∷ 0x61 ∷ 0xff ∷ []) (omega arith) h
no_other_chunk (array extent is) h = not_of (array extent is) 0x5f (0x61 ∷ 0x61 ∷ 0xff ∷ []) (omega arith) h
no_other_chunk (map_item extent ps) h = not_of (map_item extent ps) 0x5f (0x61 ∷ 0x61 ∷ 0xff ∷ []) (omega arith) h
no_other_chunk (tag m i) h = not_of (tag m i) 0x5f (0x61 ∷ 0x61 ∷ 0xff ∷ []) (omega arith) h
no_other_chunk (simple m) h = not_of (simple m) 0x5f (0x61 ∷ 0x61 ∷ 0xff ∷ []) (omega arith) h
no_other_chunk (float digits) h = not_of (float digits) 0x5f (0x61 ∷ 0x61 ∷ 0xff ∷ []) (omega arith) h

-- what begins with bf is a map of indefinite length
map_alone : (i : Item) (rest : List ℕ) → IsEncodingOf i (0xbf ∷ rest)
    → (ps : Pairs) × (body : List ℕ) × ArePairEncodingsOf ps body × UntilBreak 5 body (0xbf ∷ rest)
unfolding major_of
map_alone (map_item indefinite ps) rest (body, p, e) = (ps, body, p, e)
map_alone (map_item definite ps) rest (body, p, h) = let front = (head_then_begins 5 (pair_count ps) body 0xbf rest h).1 in absurd (omega arith)
map_alone (unsigned m) rest h = absurd (not_of (unsigned m) 0xbf rest (omega arith) h)
map_alone (negative m) rest h = absurd (not_of (negative m) 0xbf rest (omega arith) h)
map_alone (byte_string extent chunks) rest h = absurd (not_of (byte_string extent chunks) 0xbf rest (omega arith) h)
map_alone (text_string extent chunks) rest h = absurd (not_of (text_string extent chunks) 0xbf rest (omega arith) h)
map_alone (array extent is) rest h = absurd (not_of (array extent is) 0xbf rest (omega arith) h)
map_alone (tag m i) rest h = absurd (not_of (tag m i) 0xbf rest (omega arith) h)
map_alone (simple m) rest h = absurd (not_of (simple m) 0xbf rest (omega arith) h)
map_alone (float digits) rest h = absurd (not_of (float digits) 0xbf rest (omega arith) h)

last_of_three : (a b c : ℕ) (body : List ℕ) → a ∷ b ∷ c ∷ [] ≡ 0xbf ∷ (body ++ 0xff ∷ []) → c ≡ 0xff
last_of_three a b c [] e = absurd (cc)
last_of_three a b c (x ∷ []) e = ap (λ l. slice_index l 2) e
last_of_three a b c (x ∷ y ∷ []) e = absurd (cc)
last_of_three a b c (x ∷ y ∷ z ∷ body) e = absurd (cc)

-- nor is a map of indefinite length without its break, or with a byte after it: bf 61 61, bf ff 00
pub no_unfinished_map : (i : Item) (b c : ℕ) → c ≢ 0xff → ¬ (IsEncodingOf i (0xbf ∷ b ∷ c ∷ []))
no_unfinished_map i b c other h =
    let m = map_alone i (b ∷ c ∷ []) h in
    other (last_of_three 0xbf b c m.1 m.3)

half_pair : (ps : Pairs) (body : List ℕ) (a : ℕ) → ArePairEncodingsOf ps body → 0xbf ∷ a ∷ 0xff ∷ [] ≡ 0xbf ∷ (body ++ 0xff ∷ []) → ArePairEncodingsOf ps (a ∷ [])
half_pair ps [] a p e = absurd (cc)
half_pair ps (x ∷ []) a p e = let same : a ≡ x = ap (λ l. slice_index l 1) e in let P : ℕ → Type 0 = λ v. ArePairEncodingsOf ps (v ∷ []) in subst P (sym same) p
half_pair ps (x ∷ y ∷ body) a p e = absurd (go x y body e)
  where
    go : (x y : ℕ) (body : List ℕ) → 0xbf ∷ a ∷ 0xff ∷ [] ≡ 0xbf ∷ ((x ∷ y ∷ body) ++ 0xff ∷ []) → ⊥
    go x y [] e = cc
    go x y (z ∷ body) e = cc

no_pair_in_one_byte : (ps : Pairs) (a : ℕ) → ArePairEncodingsOf ps (a ∷ []) → ⊥
no_pair_in_one_byte no_pairs a p = cc
no_pair_in_one_byte (pair k v rest) a (key, value, more, pk, pv, p, e) = go key value pk pv e
  where
    go : (key value : List ℕ) → IsEncodingOf k key → IsEncodingOf v value → a ∷ [] ≡ key ++ value ++ more → ⊥
    go [] value pk pv e = not_empty k pk
    go (x ∷ key) [] pk pv e = not_empty v pv
    go (x ∷ []) (y ∷ value) pk pv e = cc
    go (x ∷ z ∷ key) (y ∷ value) pk pv e = cc

-- nor is a map with a key alone: bf 00 ff
pub no_half_pair : (i : Item) (a : ℕ) → ¬ (IsEncodingOf i (0xbf ∷ a ∷ 0xff ∷ []))
no_half_pair i a h =
    let m = map_alone i (a ∷ 0xff ∷ []) h in
    no_pair_in_one_byte m.0 a (half_pair m.0 m.1 a m.2 m.3)
