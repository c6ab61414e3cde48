-- Where lies what is written for a node, and which nodes can be written: shortest heads, and containers with or without their
-- lengths.
use Rattle.std.specs.Prelude.{◌≡◌, ◌≤◌, ◌<◌, ◌-◌, ◌/◌, ◌^◌, ℕ, suc, length, drop, List, [], ◌∷◌, ◌++◌, Bool, false, true, Option, Some, None, refl}
use Rattle.std.proofs.Common.{sym, ap, arith, subst, inl, inr}
use Rattle.std.proofs.lemmas.Bool.Decides.{nat_tests}
use Rattle.cbor_item.specs.Head.{shortest_head, MayBeIndefinite, HeadRead, BeginsWithHead}
use Rattle.cbor_item.specs.Item.{Item, definite, unsigned, negative, byte_string, text_string, array, tag, simple, no_items, item}
use Rattle.cbor_item.specs.WellFormed.{IsEncodingOf, IsItemAt, break}
use Rattle.cbor_item.proofs.HeadLemmas.{head_is_only, head_is_some, front_begins_low, opening_begins as indefinite_begins}
use Rattle.smithy_schema.specs.Reading.{Mark}
use Rattle.smithy_cbor.specs.Reading.{OpensAt}
use Rattle.smithy_cbor.specs.Written.{text_bytes, byte_string_bytes, opening_bytes}
use Rattle.smithy_cbor.proofs.ReadBackLemmas.{shortest_is_head}
use Rattle.smithy_cbor_body.specs.Lengths.{told_length, head_of, ending_of}
use Rattle.smithy_cbor_values.specs.Meaning.{node_of}
use Rattle.smithy_cbor_values.specs.Standing.{begins_with, null_byte, mark_with, HasEntry, IsOver, Follows, major_in, cbor_frames}
use Rattle.smithy_cbor_values.specs.Private.ItemPlaces.{item_at, item_ahead}
use Rattle.smithy_cbor_values.specs.Private.FirstBytes.{no_break_at}
use Rattle.smithy_wire.specs.Node.{Form, as_array, as_object, Node, null_node, leaf, container, Nodes, node}
use Rattle.smithy_wire.specs.Frames.{Lies, NodesLie}
use Rattle.smithy_wire.specs.Writes.{Writes, IsWritable, Stand}

-- ---- bytes

-- of what a decimal fraction is made of
abbrev pub part_bytes : Item → List ℕ
part_bytes (unsigned n) = shortest_head 0 n
part_bytes (negative n) = shortest_head 1 n
part_bytes (tag n (byte_string definite (b ∷ []))) = shortest_head 6 n ++ byte_string_bytes b
part_bytes _ = []

abbrev pub item_bytes : Item → List ℕ
item_bytes (unsigned n) = shortest_head 0 n
item_bytes (negative n) = shortest_head 1 n
item_bytes (byte_string definite (b ∷ [])) = byte_string_bytes b
item_bytes (text_string definite (s ∷ [])) = text_bytes s
item_bytes (simple n) = shortest_head 7 n
item_bytes (tag n (byte_string definite (b ∷ []))) = shortest_head 6 n ++ byte_string_bytes b
item_bytes (tag n (unsigned m)) = shortest_head 6 n ++ shortest_head 0 m
item_bytes (tag n (negative m)) = shortest_head 6 n ++ shortest_head 1 m
item_bytes (tag n (array definite (item x (item y no_items)))) = shortest_head 6 n ++ (shortest_head 4 2 ++ (part_bytes x ++ part_bytes y))
item_bytes _ = []

abbrev pub key_bytes : Option Item → List ℕ
key_bytes None = []
key_bytes (Some k) = item_bytes k

-- they encode the item, where a head can say how long they are
abbrev pub IsEncoded : Item → Type 0
IsEncoded x = length (item_bytes x) < 2 ^ 64 → IsEncodingOf x (item_bytes x)

-- ---- what can be written

-- Which scalars and keys can be written, for the laws of all wires. The bytes are those without the lengths of lists and maps.
abbrev pub cbor_writes : Writes Item
cbor_writes = record {
  null_bytes = null_byte ∷ [];
  leaf_bytes = item_bytes;
  opening = λ f. opening_bytes (major_in f);
  entry_bytes = λ f is_first key. key_bytes key;
  ending = λ f. break ∷ [];
  mark_at = λ is_first. mark_with None;
  IsScalar = λ x. (node_of x ≡ leaf x) × IsEncoded x;
  IsKey = IsEncoded;
  IsBody = λ i. length i < 2 ^ 64;
  MayBegin = λ r. (begins_with break r ≡ false) × (0 < length r);
  MayFollow = λ r. Unit {0};
}

-- ---- where a node lies

-- From a to e lies what was written for a node. It takes a byte at least, and doesn't begin with a break.
pub record LiesWritten (i : List ℕ) (depth : ℕ) (x : Node Item) (a e : ℕ) : Type 0 where
  pub lies : Lies (cbor_frames true) i depth x a e
  pub unbroken : begins_with break (drop a i) ≡ false
  pub ahead : a < e

-- an item lies where its bytes stand
stand_item : (x : Item) (i : List ℕ) (a e : ℕ) → IsEncoded x → length i < 2 ^ 64 → Stand (item_bytes x) i a e → IsItemAt x i a e
stand_item x i a e is small (front, end, within) =
    item_at x (item_bytes x) i a e (omega (arith, end)) within front (is (omega (arith, small, end, within)))

pub null_lies : (depth : ℕ) (i : List ℕ) (a e : ℕ) → Stand (null_byte ∷ []) i a e → Follows depth i e → LiesWritten i depth null_node a e
null_lies depth i a e (front, end, within) follows =
    record { lies = (rw front refl, omega (arith, end), follows); unbroken = rw front refl; ahead = omega (arith, end) }

pub leaf_lies : (x : Item) (depth : ℕ) (i : List ℕ) (a e : ℕ) → IsWritable cbor_writes (leaf x) → length i < 2 ^ 64 → Stand (item_bytes x) i a e → Follows depth i e
    → LiesWritten i depth (leaf x) a e
leaf_lies x depth i a e can small stand follows =
    let at = stand_item x i a e can.1 small stand in
    record { lies = (can.0, at, follows); unbroken = no_break_at x i a e at; ahead = item_ahead x i a e at }

-- ---- heads of containers

may_be : (f : Form) → MayBeIndefinite (major_in f)
may_be as_array = inl (omega arith, omega arith)
may_be as_object = inl (omega arith, omega arith)

low : (f : Form) → major_in f < 6
low as_array = omega arith
low as_object = omega arith

-- a head can say the length
abbrev pub CanSay : Option ℕ → Type 0
CanSay None = Unit {0}
CanSay (Some n) = n < 2 ^ 64

pub can_say : (told : Bool) (n : ℕ) → n < 2 ^ 64 → CanSay (told_length told n)
can_say true n h = h
can_say false n h = tt

head_begins : (f : Form) (count : Option ℕ) (rest : List ℕ) → CanSay count
    → BeginsWithHead (head_of (major_in f) count ++ rest) (record { major = major_in f; argument = count; length = length (head_of (major_in f) count) })
head_begins f None rest can = indefinite_begins (major_in f) rest (may_be f)
head_begins f (Some n) rest can =
    front_begins_low (major_in f) n (shortest_head (major_in f) n) rest (omega (arith, low f)) (shortest_is_head (major_in f) n can)

opens_lie : (f : Form) (count : Option ℕ) (i : List ℕ) (a b : ℕ) → CanSay count → Stand (head_of (major_in f) count) i a b → OpensAt (major_in f) count i a b
opens_lie f count i a b can (front, end, within) =
    let head = head_of (major_in f) count in
    let begins = subst (λ s. BeginsWithHead s (record { major = major_in f; argument = count; length = length head })) (sym front) (head_begins f count (drop b i) can) in
    let some : 0 < length head = head_is_some (drop a i) _ begins in
    let size : length head ≡ b - a = omega (arith, end) in
    (omega (arith, end, some), subst (λ k. BeginsWithHead (drop a i) (record { major = major_in f; argument = count; length = k })) size begins)

unbroken_head : (s : List ℕ) (h : HeadRead) → BeginsWithHead s h → h.major < 7 → begins_with break s ≡ false
unbroken_head [] h begins is_low = refl
unbroken_head (b ∷ rest) h begins is_low =
    let major : h.major ≡ b / 32 = ap (λ (k : HeadRead). k.major) (head_is_only b rest h begins) in grind (arith, nat_tests)

-- a container lies where its head stands and its nodes lie behind it
pub container_lies : (f : Form) (count : Option ℕ) (xs : Nodes Item) (depth : ℕ) (i : List ℕ) (a b e : ℕ) → CanSay count → Stand (head_of (major_in f) count) i a b
    → NodesLie (cbor_frames true) f i (suc depth) xs b (mark_with count) e → b ≤ e → Follows depth i e → LiesWritten i depth (container f xs) a e
container_lies f count xs depth i a b e can stand inside up follows =
    let opens = opens_lie f count i a b can stand in record {
      lies = (b, mark_with count, (count, refl, opens), inside, follows);
      unbroken = unbroken_head (drop a i) _ opens.1 (omega (arith, low f));
      ahead = omega (arith, opens.0, up);
    }

-- ---- entries

-- what is left of a list or a map of which so many elements or entries are still to come
abbrev pub left_mark : Bool → ℕ → Mark
left_mark told n = mark_with (told_length told n)

has_entry : (told : Bool) (n : ℕ) (i : List ℕ) (b : ℕ) → b < length i → begins_with break (drop b i) ≡ false → HasEntry i b (left_mark told (suc n)) (left_mark told n)
has_entry true n i b some unbroken = (some, inl (n, refl, refl))
has_entry false n i b some unbroken = (some, inr (refl, unbroken, refl))

-- an element, and what lies behind it
pub element_lies : (told : Bool) (n : ℕ) (x : Node Item) (xs : Nodes Item) (depth : ℕ) (i : List ℕ) (b c e : ℕ) → c ≤ length i → LiesWritten i depth x b c
    → NodesLie (cbor_frames true) as_array i depth xs c (left_mark told n) e
    → NodesLie (cbor_frames true) as_array i depth (node None x xs) b (left_mark told (suc n)) e
element_lies told n x xs depth i b c e within one more =
    (b, left_mark told n, c, (refl, refl, has_entry told n i b (omega (arith, one.ahead, within)) one.unbroken), one.lies, more)

-- an entry with its key, and what lies behind it
pub entry_lies : (told : Bool) (n : ℕ) (key : Item) (x : Node Item) (xs : Nodes Item) (depth : ℕ) (i : List ℕ) (b a c e : ℕ) → IsEncoded key → length i < 2 ^ 64
    → Stand (item_bytes key) i b a → LiesWritten i depth x a c → NodesLie (cbor_frames true) as_object i depth xs c (left_mark told n) e
    → NodesLie (cbor_frames true) as_object i depth (node (Some key) x xs) b (left_mark told (suc n)) e
entry_lies told n key x xs depth i b a c e is small stand one more =
    let at = stand_item key i b a is small stand in
    let entry = has_entry told n i b (omega (arith, item_ahead key i b a at, at.0)) (no_break_at key i b a at) in
    (a, left_mark told n, c, (entry, (key, at, refl)), one.lies, more)

-- the end of a container of which nothing is to come
pub ends_lie : (told : Bool) (total : ℕ) (i : List ℕ) (b e : ℕ) → Stand (ending_of (told_length told total)) i b e → IsOver i b (left_mark told 0) e
ends_lie true total i b e (front, end, within) = inl (refl, omega (arith, end))
ends_lie false total i b e (front, end, within) = inr (refl, rw front refl, omega (arith, end))
