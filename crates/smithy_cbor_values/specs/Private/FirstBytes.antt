-- A null is told by the byte that comes first, and so is a break, with which no item begins.
use Rattle.std.specs.Prelude.{◌≡◌, ◌<◌, ◌+◌, ◌*◌, ◌/◌, ◌==◌, ℕ, suc, length, drop, List, [], ◌∷◌, ◌++◌, slice_range, Bool, true, false, refl}
use Rattle.std.proofs.Common.{◌∙◌, ap, arith, inl, inr, slice_index, length-drop}
use Rattle.std.proofs.lemmas.Bool.Decides.{nat_tests}
use Rattle.std.proofs.lemmas.List.{drop-drop}
use Rattle.cbor_item.specs.Item.{Item, unsigned, negative, byte_string, text_string, array, map as map_item, tag, simple, float}
use Rattle.cbor_item.specs.WellFormed.{IsSimple, IsFloat, IsEncodingOf, IsItemAt, break}
use Rattle.cbor_item.proofs.FirstByte.{item_major, major_of, not_empty}
use Rattle.cbor_item.proofs.Passing.{item_is_no_break}
use Rattle.smithy_cbor.specs.Scalar.{null_value}
use Rattle.smithy_cbor_values.specs.Standing.{begins_with, null_byte}
use Rattle.smithy_cbor_values.specs.Private.ItemPlaces.{item_front, item_at, one_item}

-- ---- a byte at a place

first_is : (byte : ℕ) (s : List ℕ) → begins_with byte s ≡ true → s ≡ byte ∷ drop 1 s
first_is byte [] h = cc
first_is byte (b ∷ s) h = let same : b ≡ byte = grind (arith, nat_tests) in ap (λ c. c ∷ s) same

-- the byte that comes first, and then the rest
pub byte_front : (byte : ℕ) (i : List ℕ) (a : ℕ) → begins_with byte (drop a i) ≡ true → drop a i ≡ byte ∷ drop (suc a) i
byte_front byte i a h =
    let next : a + 1 ≡ suc a = omega arith in
    first_is byte (drop a i) h ∙ ap (λ s. byte ∷ s) (drop-drop 1 a i ∙ ap (λ n. drop n i) next)

filled : (s : List ℕ) (b : ℕ) (rest : List ℕ) → s ≡ b ∷ rest → 0 < length s
filled s b rest h = rw h (omega arith)

-- a byte that comes first at a place stands in the input
pub byte_within : (byte : ℕ) (i : List ℕ) (a : ℕ) → begins_with byte (drop a i) ≡ true → a < length i
byte_within byte i a h = omega (arith, length-drop a i, filled (drop a i) byte (drop (suc a) i) (byte_front byte i a h))

-- no byte comes first in an empty input
pub no_byte_in_nothing : (byte : ℕ) (i : List ℕ) (a : ℕ) → i ≡ [] → begins_with byte (drop a i) ≡ true → ⊥
no_byte_in_nothing byte i a empty h = omega (arith, ap length empty, byte_within byte i a h)

-- ---- nulls

abbrev pub is_null : Item → Bool
is_null (simple n) = n == null_value
is_null _ = false

simple_begins : (n b : ℕ) (rest : List ℕ) → IsSimple n (b ∷ rest) → (b == null_byte) ≡ is_null (simple n)
simple_begins n b rest (inl (low, e)) = let p : b ≡ 32 * 7 + n = ap (λ l. slice_index l 0) e in grind (arith, nat_tests)
simple_begins n b rest (inr (low, high, e)) = let p : b ≡ 0xf8 = ap (λ l. slice_index l 0) e in grind (arith, nat_tests)

float_begins : (digits : List ℕ) (b : ℕ) (rest : List ℕ) → IsFloat digits (b ∷ rest) → (b == null_byte) ≡ false
float_begins digits b rest (bytes, inl (n, e)) = let p : b ≡ 0xf9 = ap (λ l. slice_index l 0) e in grind (arith, nat_tests)
float_begins digits b rest (bytes, inr (inl (n, e))) = let p : b ≡ 0xfa = ap (λ l. slice_index l 0) e in grind (arith, nat_tests)
float_begins digits b rest (bytes, inr (inr (n, e))) = let p : b ≡ 0xfb = ap (λ l. slice_index l 0) e in grind (arith, nat_tests)

low_begins : (b major : ℕ) → b / 32 ≡ major → major < 7 → (b == null_byte) ≡ false
low_begins b major h low = grind (arith, nat_tests)

-- null alone begins so
item_begins : (x : Item) (b : ℕ) (rest : List ℕ) → IsEncodingOf x (b ∷ rest) → (b == null_byte) ≡ is_null x
unfolding major_of
item_begins (unsigned n) b rest h = low_begins b 0 (item_major (unsigned n) b rest h) (omega arith)
item_begins (negative n) b rest h = low_begins b 1 (item_major (negative n) b rest h) (omega arith)
item_begins (byte_string extent chunks) b rest h = low_begins b 2 (item_major (byte_string extent chunks) b rest h) (omega arith)
item_begins (text_string extent chunks) b rest h = low_begins b 3 (item_major (text_string extent chunks) b rest h) (omega arith)
item_begins (array extent is) b rest h = low_begins b 4 (item_major (array extent is) b rest h) (omega arith)
item_begins (map_item extent ps) b rest h = low_begins b 5 (item_major (map_item extent ps) b rest h) (omega arith)
item_begins (tag n x) b rest h = low_begins b 6 (item_major (tag n x) b rest h) (omega arith)
item_begins (simple n) b rest h = simple_begins n b rest h
item_begins (float digits) b rest h = float_begins digits b rest h

encoding_begins : (x : Item) (s r : List ℕ) → IsEncodingOf x s → begins_with null_byte (s ++ r) ≡ is_null x
encoding_begins x [] r h = absurd (not_empty x h)
encoding_begins x (b ∷ s) r h = item_begins x b s h

-- an item is null exactly where the byte of null comes first
pub null_begins_item : (x : Item) (i : List ℕ) (a e : ℕ) → IsItemAt x i a e → begins_with null_byte (drop a i) ≡ is_null x
null_begins_item x i a e h =
    ap (begins_with null_byte) (item_front x i a e h) ∙ encoding_begins x (slice_range i a e) (drop e i) h.1

-- where the byte of null comes first, null stands there
pub null_there : (i : List ℕ) (a : ℕ) → begins_with null_byte (drop a i) ≡ true → IsItemAt (simple null_value) i a (suc a)
null_there i a h =
    item_at (simple null_value) (null_byte ∷ []) i a (suc a) (omega arith) (omega (arith, byte_within null_byte i a h)) (byte_front null_byte i a h)
    (inl (omega arith, refl))

-- a null ends one byte behind its start
pub null_ends : (x : Item) (i : List ℕ) (a e : ℕ) → IsItemAt x i a e → is_null x ≡ true → (x ≡ simple null_value) × (e ≡ suc a)
null_ends x i a e h null =
    one_item x (simple null_value) i a e (suc a) h (null_there i a (null_begins_item x i a e h ∙ null))

-- ---- a break

no_break_ahead : (x : Item) (s r : List ℕ) → IsEncodingOf x s → begins_with break (s ++ r) ≡ false
no_break_ahead x [] r h = absurd (not_empty x h)
no_break_ahead x (b ∷ s) r h = item_is_no_break x (b ∷ s) r h

-- no item begins with a break
pub no_break_at : (x : Item) (i : List ℕ) (a e : ℕ) → IsItemAt x i a e → begins_with break (drop a i) ≡ false
no_break_at x i a e h =
    ap (begins_with break) (item_front x i a e h) ∙ no_break_ahead x (slice_range i a e) (drop e i) h.1
