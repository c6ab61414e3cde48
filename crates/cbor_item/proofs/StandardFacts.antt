-- Examples of RFC 8949, appendix A, so that a wrong rule in the specs does not check.
use Rattle.std.specs.Prelude.{All, nat_lt}
use Rattle.std.specs.List.{list_all}
use Rattle.std.proofs.lemmas.Bool.Decides.{nat_tests}
use Rattle.std.proofs.lemmas.List.Sums.{AllPass-from_list_all}
use Rattle.std.proofs.Common.{◌≡◌, inl, inr, ℕ, true, ◌-◌, ◌^◌, ◌<◌, List, [], ◌∷◌, ◌++◌, length, map, Some, None, refl, arith}
use Rattle.cbor_item.specs.Head.{initial_byte, immediate, two, four, eight, IsHead, shortest_head}
use Rattle.cbor_item.specs.Item.{definite, indefinite, Item, unsigned, negative, byte_string, text_string, array, map as map_item, tag, simple, float, Items, no_items, item, item_count, no_pairs, pair}
use Rattle.cbor_item.specs.WellFormed.{AreChunks, IsEncodingOf, AreEncodingsOf}
use Rattle.cbor_item.specs.Kind.{kind_of}
use Rattle.cbor_item.specs.declared.kind.ItemType.TheVariants.{U8, U64, I8, I16, I64, Int, Simple, Bool as IsBool, Null, F64, Break, Unknown, BytesIndef, Tag, String as StringType}

-- 0, 23, 24, 100, 1000, 1000000
pub shortest_unsigned : map (shortest_head 0) (0 ∷ 23 ∷ 24 ∷ 100 ∷ 1000 ∷ 1000000 ∷ [])
    ≡ (0x00 ∷ []) ∷ (0x17 ∷ []) ∷ (0x18 ∷ 0x18 ∷ []) ∷ (0x18 ∷ 0x64 ∷ [])
    ∷ (0x19 ∷ 0x03 ∷ 0xe8 ∷ []) ∷ (0x1a ∷ 0x00 ∷ 0x0f ∷ 0x42 ∷ 0x40 ∷ []) ∷ []
shortest_unsigned = refl

-- a head of one byte
in_one_byte : (major n : ℕ) → n < 24 → IsHead major n (initial_byte major n ∷ [])
in_one_byte major n fits = record { width = immediate; fits = fits; spelled = refl }

small : (n : ℕ) → n < 24 → IsEncodingOf (unsigned n) (initial_byte 0 n ∷ [])
small n fits = in_one_byte 0 n fits

then_item : (i : Item) (rest : Items) (first more : List ℕ) → IsEncodingOf i first → AreEncodingsOf rest more → AreEncodingsOf (item i rest) (first ++ more)
then_item i rest first more p q = (first, more, p, q, refl)

in_definite_array : (is : Items) (body : List ℕ) → item_count is < 24 → AreEncodingsOf is body → IsEncodingOf (array definite is) (initial_byte 4 (item_count is) ∷ body)
in_definite_array is body fits p = (body, p, (initial_byte 4 (item_count is) ∷ [], in_one_byte 4 (item_count is) fits, refl))

one_chunk : (major : ℕ) (chunk : List ℕ) → length chunk < 24 → AreChunks major (chunk ∷ []) ((initial_byte major (length chunk) ∷ chunk) ++ [])
one_chunk major chunk fits = (initial_byte major (length chunk) ∷ chunk, [], (initial_byte major (length chunk) ∷ [], in_one_byte major (length chunk) fits, refl), refl, refl)

then_chunk : (major : ℕ) (chunk : List ℕ) (chunks : List (List ℕ)) (rest : List ℕ) → length chunk < 24 → AreChunks major chunks rest → AreChunks major (chunk ∷ chunks) ((initial_byte major (length chunk) ∷ chunk) ++ rest)
then_chunk major chunk chunks rest fits p = (initial_byte major (length chunk) ∷ chunk, rest, (initial_byte major (length chunk) ∷ [], in_one_byte major (length chunk) fits, refl), p, refl)

-- 1000000, in its four bytes
pub million : IsEncodingOf (unsigned 1000000) (0x1a ∷ 0x00 ∷ 0x0f ∷ 0x42 ∷ 0x40 ∷ [])
million = record { width = four; fits = omega arith; spelled = refl }

-- 18446744073709551615
pub greatest : IsEncodingOf (unsigned (2 ^ 64 - 1)) (0x1b ∷ 0xff ∷ 0xff ∷ 0xff ∷ 0xff ∷ 0xff ∷ 0xff ∷ 0xff ∷ 0xff ∷ [])
greatest = record { width = eight; fits = omega arith; spelled = refl }

-- -18446744073709551616
pub least : IsEncodingOf (negative (2 ^ 64 - 1)) (0x3b ∷ 0xff ∷ 0xff ∷ 0xff ∷ 0xff ∷ 0xff ∷ 0xff ∷ 0xff ∷ 0xff ∷ [])
least = record { width = eight; fits = omega arith; spelled = refl }

-- -1
pub minus_one : IsEncodingOf (negative 0) (0x20 ∷ [])
minus_one = in_one_byte 1 0 (omega arith)

-- a wider head than is needed is well-formed too
pub wide_one : IsEncodingOf (unsigned 1) (0x19 ∷ 0x00 ∷ 0x01 ∷ [])
wide_one = record { width = two; fits = omega arith; spelled = refl }

are_bytes : (bs : List ℕ) → list_all (λ b. nat_lt b 256) bs ≡ true → All (λ b. b < 256) bs
are_bytes bs e k d p = let test = AllPass-from_list_all (λ b. nat_lt b 256) bs e k d p in grind (arith, nat_tests)

-- 1.0 as two bytes, and 1.1 as eight
pub floats : IsEncodingOf (float (0x3c ∷ 0x00 ∷ [])) (0xf9 ∷ 0x3c ∷ 0x00 ∷ [])
    × IsEncodingOf (float (0x3f ∷ 0xf1 ∷ 0x99 ∷ 0x99 ∷ 0x99 ∷ 0x99 ∷ 0x99 ∷ 0x9a ∷ [])) (0xfb ∷ 0x3f ∷ 0xf1 ∷ 0x99 ∷ 0x99 ∷ 0x99 ∷ 0x99 ∷ 0x99 ∷ 0x9a ∷ [])
floats = (
  (are_bytes (0x3c ∷ 0x00 ∷ []) refl, inl (refl, refl)),
  (are_bytes (0x3f ∷ 0xf1 ∷ 0x99 ∷ 0x99 ∷ 0x99 ∷ 0x99 ∷ 0x99 ∷ 0x9a ∷ []) refl, inr (inr (refl, refl))),
)

-- false, null, simple(16) and simple(255)
pub simple_values : IsEncodingOf (simple 20) (0xf4 ∷ []) × IsEncodingOf (simple 22) (0xf6 ∷ [])
    × IsEncodingOf (simple 16) (0xf0 ∷ []) × IsEncodingOf (simple 255) (0xf8 ∷ 0xff ∷ [])
simple_values = (inl (omega arith, refl), inl (omega arith, refl), inl (omega arith, refl), inr (omega arith, omega arith, refl))

-- 1(1363896240)
pub time : IsEncodingOf (tag 1 (unsigned 1363896240)) (0xc1 ∷ 0x1a ∷ 0x51 ∷ 0x4b ∷ 0x67 ∷ 0xb0 ∷ [])
time = (0x1a ∷ 0x51 ∷ 0x4b ∷ 0x67 ∷ 0xb0 ∷ [], record { width = four; fits = omega arith; spelled = refl }, (0xc1 ∷ [], in_one_byte 6 1 (omega arith), refl))

-- h'01020304', and "IETF"
pub definite_strings : IsEncodingOf (byte_string definite ((1 ∷ 2 ∷ 3 ∷ 4 ∷ []) ∷ [])) (0x44 ∷ 1 ∷ 2 ∷ 3 ∷ 4 ∷ [])
    × IsEncodingOf (text_string definite ((0x49 ∷ 0x45 ∷ 0x54 ∷ 0x46 ∷ []) ∷ [])) (0x64 ∷ 0x49 ∷ 0x45 ∷ 0x54 ∷ 0x46 ∷ [])
definite_strings = ((refl, one_chunk 2 _ (omega arith)), (refl, one_chunk 3 _ (omega arith)))

-- (_ h'0102', h'030405')
pub indefinite_string : IsEncodingOf (byte_string indefinite ((1 ∷ 2 ∷ []) ∷ (3 ∷ 4 ∷ 5 ∷ []) ∷ [])) (0x5f ∷ 0x42 ∷ 1 ∷ 2 ∷ 0x43 ∷ 3 ∷ 4 ∷ 5 ∷ 0xff ∷ [])
indefinite_string = (0x42 ∷ 1 ∷ 2 ∷ 0x43 ∷ 3 ∷ 4 ∷ 5 ∷ [], then_chunk 2 (1 ∷ 2 ∷ []) ((3 ∷ 4 ∷ 5 ∷ []) ∷ []) (0x43 ∷ 3 ∷ 4 ∷ 5 ∷ []) (omega arith) (one_chunk 2 (3 ∷ 4 ∷ 5 ∷ []) (omega arith)), refl)

two_three : Items
two_three = item (unsigned 2) (item (unsigned 3) no_items)

are_two_three : AreEncodingsOf two_three (2 ∷ 3 ∷ [])
unfolding two_three
are_two_three = then_item (unsigned 2) (item (unsigned 3) no_items) (2 ∷ []) (3 ∷ []) (small 2 (omega arith)) (then_item (unsigned 3) no_items (3 ∷ []) [] (small 3 (omega arith)) refl)

-- [1, [2, 3]]
pub nested_array : IsEncodingOf (array definite (item (unsigned 1) (item (array definite (item (unsigned 2) (item (unsigned 3) no_items))) no_items))) (0x82 ∷ 0x01 ∷ 0x82 ∷ 0x02 ∷ 0x03 ∷ [])
unfolding two_three
nested_array =
    let inner = in_definite_array two_three (2 ∷ 3 ∷ []) (omega arith) are_two_three in
    in_definite_array (item (unsigned 1) (item (array definite two_three) no_items)) (0x01 ∷ 0x82 ∷ 0x02 ∷ 0x03 ∷ []) (omega arith)
    (then_item (unsigned 1) (item (array definite two_three) no_items) (1 ∷ []) (0x82 ∷ 0x02 ∷ 0x03 ∷ []) (small 1 (omega arith)) (then_item (array definite two_three) no_items (0x82 ∷ 0x02 ∷ 0x03 ∷ []) [] inner refl))

-- [_ ] and {}
pub empty_ones : IsEncodingOf (array indefinite no_items) (0x9f ∷ 0xff ∷ []) × IsEncodingOf (map_item definite no_pairs) (0xa0 ∷ [])
empty_ones = (([], refl, refl), ([], refl, (0xa0 ∷ [], in_one_byte 5 0 (omega arith), refl)))

-- {_ "a": 1, "b": [_ 2]}
pub indefinite_map : IsEncodingOf (map_item indefinite (pair (text_string definite ((0x61 ∷ []) ∷ [])) (unsigned 1) (pair (text_string definite ((0x62 ∷ []) ∷ [])) (array indefinite (item (unsigned 2) no_items)) no_pairs)))
    (0xbf ∷ 0x61 ∷ 0x61 ∷ 0x01 ∷ 0x61 ∷ 0x62 ∷ 0x9f ∷ 0x02 ∷ 0xff ∷ 0xff ∷ [])
indefinite_map = (
  0x61 ∷ 0x61 ∷ 0x01 ∷ 0x61 ∷ 0x62 ∷ 0x9f ∷ 0x02 ∷ 0xff ∷ [],
  (
    0x61 ∷ 0x61 ∷ [],
    0x01 ∷ [],
    0x61 ∷ 0x62 ∷ 0x9f ∷ 0x02 ∷ 0xff ∷ [],
    (refl, one_chunk 3 _ (omega arith)),
    small 1 (omega arith),
    (0x61 ∷ 0x62 ∷ [], 0x9f ∷ 0x02 ∷ 0xff ∷ [], [], (refl, one_chunk 3 _ (omega arith)), (0x02 ∷ [], then_item (unsigned 2) no_items (2 ∷ []) [] (small 2 (omega arith)) refl, refl), refl, refl),
    refl,
  ),
  refl,
)

-- kinds by the initial byte, and of negative integers by the next one too
pub kinds : map (λ b. kind_of (b ∷ [])) (0x18 ∷ 0x1b ∷ 0x1c ∷ 0x20 ∷ 0x37 ∷ 0x5f ∷ 0x7b ∷ 0xc0 ∷ 0xe0 ∷ 0xf4 ∷ 0xf6 ∷ 0xf8 ∷ 0xfb ∷ 0xfc ∷ 0xff ∷ [])
    ≡ Some U8 ∷ Some U64 ∷ Some (Unknown 0x1c) ∷ Some I8 ∷ Some I8 ∷ Some BytesIndef ∷ Some StringType ∷ Some Tag ∷ Some Simple ∷ Some IsBool ∷ Some Null ∷ Some Simple ∷ Some F64 ∷ Some (Unknown 0xfc) ∷ Some Break ∷ []
kinds = refl

pub negative_kinds : map kind_of ((0x38 ∷ 0x7f ∷ []) ∷ (0x38 ∷ 0x80 ∷ []) ∷ (0x3a ∷ 0xff ∷ []) ∷ (0x3b ∷ 0x7f ∷ []) ∷ (0x3b ∷ 0x80 ∷ []) ∷ (0x38 ∷ []) ∷ [] ∷ [])
    ≡ Some I8 ∷ Some I16 ∷ Some I64 ∷ Some I64 ∷ Some Int ∷ None ∷ None ∷ []
negative_kinds = refl

-- {_ (_ "a"): (_ "h", "i")}
pub chunked_map : IsEncodingOf (map_item indefinite (pair (text_string indefinite ((0x61 ∷ []) ∷ [])) (text_string indefinite ((0x68 ∷ []) ∷ (0x69 ∷ []) ∷ [])) no_pairs))
    (0xbf ∷ 0x7f ∷ 0x61 ∷ 0x61 ∷ 0xff ∷ 0x7f ∷ 0x61 ∷ 0x68 ∷ 0x61 ∷ 0x69 ∷ 0xff ∷ 0xff ∷ [])
chunked_map =
    let key = one_chunk 3 (0x61 ∷ []) (omega arith) in
    let value = then_chunk 3 (0x68 ∷ []) ((0x69 ∷ []) ∷ []) (0x61 ∷ 0x69 ∷ []) (omega arith) (one_chunk 3 (0x69 ∷ []) (omega arith)) in (
      0x7f ∷ 0x61 ∷ 0x61 ∷ 0xff ∷ 0x7f ∷ 0x61 ∷ 0x68 ∷ 0x61 ∷ 0x69 ∷ 0xff ∷ [],
      (0x7f ∷ 0x61 ∷ 0x61 ∷ 0xff ∷ [], 0x7f ∷ 0x61 ∷ 0x68 ∷ 0x61 ∷ 0x69 ∷ 0xff ∷ [], [], (0x61 ∷ 0x61 ∷ [], key, refl), (0x61 ∷ 0x68 ∷ 0x61 ∷ 0x69 ∷ [], value, refl), refl, refl),
      refl,
    )
