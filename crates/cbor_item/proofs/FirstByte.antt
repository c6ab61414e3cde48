-- What the first byte of a head, a chunk and an item tells.
use Rattle.std.proofs.Common.{◌≡◌, ◌≢◌, ◌⊎◌, inl, inr, ℕ, ◌+◌, ◌*◌, ◌/◌, ◌%◌, ◌<◌, ◌≤◌, List, [], ◌∷◌, ◌++◌, length, ◌∙◌, ap, arith, slice_index, append_assoc}
use Rattle.cbor_item.specs.Head.{ArgumentWidth, immediate, one, two, four, eight, width_limit, head_bytes}
use Rattle.cbor_item.specs.Item.{Extent, definite, indefinite, Item, unsigned, negative, byte_string, text_string, array, map as map_item, tag, simple, float, item_count, pair_count}
use Rattle.cbor_item.specs.WellFormed.{HeadThen, UntilBreak, AreChunks, IsString, IsSimple, IsFloat, IsEncodingOf}

-- a head begins with its major type, and with additional information up to 27
pub head_begins : (major n : ℕ) (w : ArgumentWidth) (b : ℕ) (rest : List ℕ) → n < width_limit w → b ∷ rest ≡ head_bytes major w n
    → (b / 32 ≡ major) × (b % 32 ≤ 27)
head_begins major n immediate b rest f e = let p : b ≡ 32 * major + n = ap (λ l. slice_index l 0) e in (omega arith, omega arith)
head_begins major n one b rest f e = let p : b ≡ 32 * major + 24 = ap (λ l. slice_index l 0) e in (omega arith, omega arith)
head_begins major n two b rest f e = let p : b ≡ 32 * major + 25 = ap (λ l. slice_index l 0) e in (omega arith, omega arith)
head_begins major n four b rest f e = let p : b ≡ 32 * major + 26 = ap (λ l. slice_index l 0) e in (omega arith, omega arith)
head_begins major n eight b rest f e = let p : b ≡ 32 * major + 27 = ap (λ l. slice_index l 0) e in (omega arith, omega arith)

-- the same where a body follows the head
pub head_then_begins : (major n : ℕ) (body : List ℕ) (b : ℕ) (rest : List ℕ) → HeadThen major n body (b ∷ rest) → (b / 32 ≡ major) × (b % 32 ≤ 27)
head_then_begins major n body b rest (head, h, e) = go head h.width h.fits h.spelled e
  where
    go : (bytes : List ℕ) (w : ArgumentWidth) → n < width_limit w → bytes ≡ head_bytes major w n → b ∷ rest ≡ bytes ++ body → (b / 32 ≡ major) × (b % 32 ≤ 27)
    go [] immediate f s e = cc
    go [] one f s e = cc
    go [] two f s e = cc
    go [] four f s e = cc
    go [] eight f s e = cc
    go (a ∷ bytes) w f s e =
        let same : b ≡ a = ap (λ l. slice_index l 0) e in
        let p = head_begins major n w a bytes f s in
        (omega arith, omega arith)

-- and where more follows these
pub head_front : (major n : ℕ) (body first more : List ℕ) (b : ℕ) (rest : List ℕ) → HeadThen major n body first → b ∷ rest ≡ first ++ more → (b / 32 ≡ major) × (b % 32 ≤ 27)
head_front major n body first more b rest (head, h, e) same =
    head_then_begins major n (body ++ more) b rest (head, h, same ∙ ap (λ l. l ++ more) e ∙ append_assoc head body more)

pub chunks_front : (major : ℕ) (c : List ℕ) (cs : List (List ℕ)) (b : ℕ) (rest : List ℕ) → AreChunks major (c ∷ cs) (b ∷ rest) → (b / 32 ≡ major) × (b % 32 ≤ 27)
chunks_front major c cs b rest (first, more, h, p, e) = head_front major (length c) c first more b rest h e

-- information up to 27, or 31 under the types of strings and containers
abbrev pub StartsAnItem : ℕ → Type 0
StartsAnItem b = (b % 32 ≤ 27) ⊎ ((b % 32 ≡ 31) × (2 ≤ b / 32) × (b / 32 ≤ 5))

-- the first byte of an indefinite length
opens_indefinite : (major : ℕ) (body : List ℕ) (b : ℕ) (rest : List ℕ) → 2 ≤ major → major ≤ 5 → UntilBreak major body (b ∷ rest) → StartsAnItem b
opens_indefinite major body b rest low high e = let p : b ≡ 32 * major + 31 = ap (λ l. slice_index l 0) e in inr (omega arith, omega arith, omega arith)

string_starts : (major : ℕ) (extent : Extent) (chunks : List (List ℕ)) (b : ℕ) (rest : List ℕ) → 2 ≤ major → major ≤ 5 → IsString major extent chunks (b ∷ rest) → StartsAnItem b
string_starts major definite [] b rest low high (single, p) = absurd (cc)
string_starts major definite (c ∷ cs) b rest low high (single, p) = inl (chunks_front major c cs b rest p).1
string_starts major indefinite chunks b rest low high (body, p, e) = opens_indefinite major body b rest low high e

simple_starts : (n b : ℕ) (rest : List ℕ) → IsSimple n (b ∷ rest) → StartsAnItem b
simple_starts n b rest (inl (low, e)) = let p : b ≡ 32 * 7 + n = ap (λ l. slice_index l 0) e in inl (omega arith)
simple_starts n b rest (inr (low, high, e)) = let p : b ≡ 0xf8 = ap (λ l. slice_index l 0) e in inl (omega arith)

float_starts : (digits : List ℕ) (b : ℕ) (rest : List ℕ) → IsFloat digits (b ∷ rest) → StartsAnItem b
float_starts digits b rest (bytes, inl (n, e)) = let p : b ≡ 0xf9 = ap (λ l. slice_index l 0) e in inl (omega arith)
float_starts digits b rest (bytes, inr (inl (n, e))) = let p : b ≡ 0xfa = ap (λ l. slice_index l 0) e in inl (omega arith)
float_starts digits b rest (bytes, inr (inr (n, e))) = let p : b ≡ 0xfb = ap (λ l. slice_index l 0) e in inl (omega arith)

pub item_starts : (i : Item) (b : ℕ) (rest : List ℕ) → IsEncodingOf i (b ∷ rest) → StartsAnItem b
item_starts (unsigned n) b rest h = inl (head_begins 0 n h.width b rest h.fits h.spelled).1
item_starts (negative n) b rest h = inl (head_begins 1 n h.width b rest h.fits h.spelled).1
item_starts (byte_string extent chunks) b rest h = string_starts 2 extent chunks b rest (omega arith) (omega arith) h
item_starts (text_string extent chunks) b rest h = string_starts 3 extent chunks b rest (omega arith) (omega arith) h
item_starts (array definite is) b rest (body, p, h) = inl (head_then_begins 4 (item_count is) body b rest h).1
item_starts (array indefinite is) b rest (body, p, e) = opens_indefinite 4 body b rest (omega arith) (omega arith) e
item_starts (map_item definite ps) b rest (body, p, h) = inl (head_then_begins 5 (pair_count ps) body b rest h).1
item_starts (map_item indefinite ps) b rest (body, p, e) = opens_indefinite 5 body b rest (omega arith) (omega arith) e
item_starts (tag n i) b rest (body, p, h) = inl (head_then_begins 6 n body b rest h).1
item_starts (simple n) b rest h = simple_starts n b rest h
item_starts (float digits) b rest h = float_starts digits b rest h

-- the major type of an item
unfoldable pub major_of : Item → ℕ
major_of (unsigned n) = 0
major_of (negative n) = 1
major_of (byte_string extent chunks) = 2
major_of (text_string extent chunks) = 3
major_of (array extent is) = 4
major_of (map_item extent ps) = 5
major_of (tag n i) = 6
major_of (simple n) = 7
major_of (float digits) = 7

indefinite_major : (major : ℕ) (body : List ℕ) (b : ℕ) (rest : List ℕ) → UntilBreak major body (b ∷ rest) → b / 32 ≡ major
indefinite_major major body b rest e = let p : b ≡ 32 * major + 31 = ap (λ l. slice_index l 0) e in omega arith

string_major : (major : ℕ) (extent : Extent) (chunks : List (List ℕ)) (b : ℕ) (rest : List ℕ) → IsString major extent chunks (b ∷ rest) → b / 32 ≡ major
string_major major definite [] b rest (single, p) = absurd (cc)
string_major major definite (c ∷ cs) b rest (single, p) = (chunks_front major c cs b rest p).0
string_major major indefinite chunks b rest (body, p, e) = indefinite_major major body b rest e

simple_major : (n b : ℕ) (rest : List ℕ) → IsSimple n (b ∷ rest) → b / 32 ≡ 7
simple_major n b rest (inl (low, e)) = let p : b ≡ 32 * 7 + n = ap (λ l. slice_index l 0) e in omega arith
simple_major n b rest (inr (low, high, e)) = let p : b ≡ 0xf8 = ap (λ l. slice_index l 0) e in omega arith

float_major : (digits : List ℕ) (b : ℕ) (rest : List ℕ) → IsFloat digits (b ∷ rest) → b / 32 ≡ 7
float_major digits b rest (bytes, inl (n, e)) = let p : b ≡ 0xf9 = ap (λ l. slice_index l 0) e in omega arith
float_major digits b rest (bytes, inr (inl (n, e))) = let p : b ≡ 0xfa = ap (λ l. slice_index l 0) e in omega arith
float_major digits b rest (bytes, inr (inr (n, e))) = let p : b ≡ 0xfb = ap (λ l. slice_index l 0) e in omega arith

-- the first byte tells the major type
pub item_major : (i : Item) (b : ℕ) (rest : List ℕ) → IsEncodingOf i (b ∷ rest) → b / 32 ≡ major_of i
unfolding major_of
item_major (unsigned n) b rest h = (head_begins 0 n h.width b rest h.fits h.spelled).0
item_major (negative n) b rest h = (head_begins 1 n h.width b rest h.fits h.spelled).0
item_major (byte_string extent chunks) b rest h = string_major 2 extent chunks b rest h
item_major (text_string extent chunks) b rest h = string_major 3 extent chunks b rest h
item_major (array definite is) b rest (body, p, h) = (head_then_begins 4 (item_count is) body b rest h).0
item_major (array indefinite is) b rest (body, p, e) = indefinite_major 4 body b rest e
item_major (map_item definite ps) b rest (body, p, h) = (head_then_begins 5 (pair_count ps) body b rest h).0
item_major (map_item indefinite ps) b rest (body, p, e) = indefinite_major 5 body b rest e
item_major (tag n i) b rest (body, p, h) = (head_then_begins 6 n body b rest h).0
item_major (simple n) b rest h = simple_major n b rest h
item_major (float digits) b rest h = float_major digits b rest h

pub not_of : (i : Item) (b : ℕ) (rest : List ℕ) → b / 32 ≢ major_of i → ¬ (IsEncodingOf i (b ∷ rest))
not_of i b rest other h = other (item_major i b rest h)

head_not_empty : (major n : ℕ) (w : ArgumentWidth) → [] ≡ head_bytes major w n → ⊥
head_not_empty major n immediate e = cc
head_not_empty major n one e = cc
head_not_empty major n two e = cc
head_not_empty major n four e = cc
head_not_empty major n eight e = cc

pub head_then_not_empty : (major n : ℕ) (body : List ℕ) → HeadThen major n body [] → ⊥
head_then_not_empty major n body (head, h, e) = go head h.width h.spelled e
  where
    go : (bytes : List ℕ) (w : ArgumentWidth) → bytes ≡ head_bytes major w n → [] ≡ bytes ++ body → ⊥
    go [] w s e = head_not_empty major n w s
    go (a ∷ bytes) w s e = cc

pub string_not_empty : (major : ℕ) (extent : Extent) (chunks : List (List ℕ)) → IsString major extent chunks [] → ⊥
string_not_empty major definite [] (single, p) = cc
string_not_empty major definite (c ∷ cs) (single, (first, more, h, p, e)) = go first h e
  where
    go : (bytes : List ℕ) → HeadThen major (length c) c bytes → [] ≡ bytes ++ more → ⊥
    go [] k e = head_then_not_empty major (length c) c k
    go (a ∷ bytes) k e = cc
string_not_empty major indefinite chunks (body, p, e) = cc

-- an item takes at least one byte
pub not_empty : (i : Item) → ¬ (IsEncodingOf i [])
not_empty (unsigned n) h = head_not_empty 0 n h.width h.spelled
not_empty (negative n) h = head_not_empty 1 n h.width h.spelled
not_empty (byte_string extent chunks) h = string_not_empty 2 extent chunks h
not_empty (text_string extent chunks) h = string_not_empty 3 extent chunks h
not_empty (array definite is) (body, p, h) = head_then_not_empty 4 (item_count is) body h
not_empty (array indefinite is) (body, p, e) = cc
not_empty (map_item definite ps) (body, p, h) = head_then_not_empty 5 (pair_count ps) body h
not_empty (map_item indefinite ps) (body, p, e) = cc
not_empty (tag n i) (body, p, h) = head_then_not_empty 6 n body h
not_empty (simple n) (inl (low, e)) = cc
not_empty (simple n) (inr (low, high, e)) = cc
not_empty (float digits) (bytes, inl (n, e)) = cc
not_empty (float digits) (bytes, inr (inl (n, e))) = cc
not_empty (float digits) (bytes, inr (inr (n, e))) = cc
