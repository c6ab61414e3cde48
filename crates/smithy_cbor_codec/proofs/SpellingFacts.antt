-- Whole inputs that spell a value, and inputs close by that spell none.
use Rattle.std.specs.Prelude.{slice_range}
use Rattle.std.proofs.Common.{◌≡◌, ◌≢◌, inl, inr, ℕ, ◌-◌, ◌^◌, List, [], ◌∷◌, ◌++◌, length, false, Option, Some, None, refl, sym, ap, ◌∙◌, subst, arith, append-nil, take_all, le_refl, pos, neg_ℤ, replicate, codes}
use Rattle.smithy_declarations.specs.Table.{Table, shape_place}
use Rattle.smithy_declarations.specs.Value as values
use Rattle.smithy_declarations.specs.Value.{Value, no_values}
use Rattle.cbor_item.specs.Head as widths
use Rattle.cbor_item.specs.Item.{indefinite, unsigned, array, map as map_item, Items, no_items, item, no_pairs}
use Rattle.cbor_item.specs.WellFormed.{IsEncodingOf, AreEncodingsOf}
use Rattle.cbor_item.specs.CutShort.{IsCutShort, in_head, in_announced, in_indefinite}
use Rattle.cbor_item.specs.Private.Skip.{cut, at_end}
use Rattle.cbor_item.proofs.FirstByte.{not_empty}
use Rattle.cbor_item.proofs.OneItem.{one_place, same_item}
use Rattle.cbor_item.proofs.Cutting.{stops_cut}
use Rattle.cbor_item.proofs.SkipLemmas.{found_cut}
use Rattle.smithy_cbor_values.specs.Spelling.{cbor_spells}
use Rattle.smithy_cbor_codec.proofs.OnLiterals.{smithy_cbor_codec_on_literals}
use Rattle.smithy_cbor_codec.proofs.Examples.{whole_value, text_value, one_long, one_string, lists_of_lists, a_text, chunked, null, alone, in_lists, empty_structure, first_alone, strict, means_at}
use Rattle.smithy_cbor_codec.proofs.EncodedItems.{Encoded, in_one_byte, one_chunk, short_text, small, long_unsigned, long_negative, sole, sole_until, two, arrays, a_key, z_key, l_key, no_text, a_null, an_undefined}

-- ---- what an input spells, and that it spells nothing

-- at the declaration of that number
abbrev Spells : Table → ℕ → List ℕ → Value → Type 0
Spells t root bytes v = cbor_spells strict t (shape_place root) bytes v

abbrev SpellsNothing : Table → ℕ → List ℕ → Type 0
SpellsNothing t root bytes = (v : Value) → Spells t root bytes v → ⊥

meaning : (t : Table) (root : ℕ) (e : Encoded) (v : Value) → means_at t root e.item ≡ Some v → Spells t root e.bytes v
meaning t root e v means = inl (e.item, e.is, means)

-- the item means nothing
meaningless : (t : Table) (root : ℕ) (e : Encoded) → e.bytes ≢ [] → means_at t root e.item ≡ None → SpellsNothing t root e.bytes
meaningless t root e some none v (inl (j, there, means)) =
    let same = ap (λ k. means_at t root k) (same_item e.item j e.bytes e.is there) in
    let wrong : ◌≡◌ {A = Option Value} None (Some v) = sym none ∙ same ∙ means in absurd (cc)
meaningless t root e some none v (inr (empty, structure, shallow, is)) = some empty

-- a byte follows the item
followed : (t : Table) (root : ℕ) (e : Encoded) (b : ℕ) (more : List ℕ) → SpellsNothing t root (e.bytes ++ b ∷ more)
followed t root e b more v (inl (j, there, means)) =
    let after = (one_place e.item j e.bytes (e.bytes ++ b ∷ more) (b ∷ more) [] e.is there (sym (append-nil _))).1 in absurd (cc)
followed t root e b more v (inr (empty, structure, shallow, is)) = some e.bytes empty
  where
    some : (a : List ℕ) → a ++ b ∷ more ≡ [] → ⊥
    some [] same = cc
    some (x ∷ a) same = cc

-- the input ends inside the item
cut_off : (t : Table) (root : ℕ) (bytes : List ℕ) → bytes ≢ [] → IsCutShort bytes → SpellsNothing t root bytes
cut_off t root bytes some short v (inl (j, there, means)) =
    let all : slice_range bytes 0 (length bytes) ≡ bytes = take_all (length bytes - 0) bytes (omega arith) in
    let nothing = (found_cut bytes 0 (stops_cut short [] cut at_end)).0 in
    nothing j (length bytes) (le_refl _, subst (IsEncodingOf j) (sym all) there)
cut_off t root bytes some short v (inr (empty, structure, shallow, is)) = some empty

-- ---- structures of one member

-- {"a": 1} and {_ "a": 1}
pub either_length : Spells one_long 0 (0xa1 ∷ 0x61 ∷ 0x61 ∷ 0x01 ∷ []) (first_alone (whole_value (pos 1)))
    × Spells one_long 0 (0xbf ∷ 0x61 ∷ 0x61 ∷ 0x01 ∷ 0xff ∷ []) (first_alone (whole_value (pos 1)))
unfolding smithy_cbor_codec_on_literals
either_length = (
  meaning one_long 0 (sole a_key (small 1 (omega arith))) (first_alone (whole_value (pos 1))) refl,
  meaning one_long 0 (sole_until a_key (small 1 (omega arith))) (first_alone (whole_value (pos 1))) refl,
)

-- {"a": 1} in heads that are wider than need be
abbrev wide_pair : Encoded
wide_pair = record {
  item = alone (codes "a") (unsigned 1);
  bytes = 0xb8 ∷ 0x01 ∷ 0x78 ∷ 0x01 ∷ 0x61 ∷ 0x19 ∷ 0x00 ∷ 0x01 ∷ [];
  is = (
    0x78 ∷ 0x01 ∷ 0x61 ∷ 0x19 ∷ 0x00 ∷ 0x01 ∷ [],
    (
      0x78 ∷ 0x01 ∷ 0x61 ∷ [],
      0x19 ∷ 0x00 ∷ 0x01 ∷ [],
      [],
      (refl, (0x78 ∷ 0x01 ∷ 0x61 ∷ [], [], (0x78 ∷ 0x01 ∷ [], record { width = widths.one; fits = omega arith; spelled = refl }, refl), refl, refl)),
      record { width = widths.two; fits = omega arith; spelled = refl },
      refl,
      refl,
    ),
    (0xb8 ∷ 0x01 ∷ [], record { width = widths.one; fits = omega arith; spelled = refl }, refl),
  );
}

pub wide_heads : Spells one_long 0 (0xb8 ∷ 0x01 ∷ 0x78 ∷ 0x01 ∷ 0x61 ∷ 0x19 ∷ 0x00 ∷ 0x01 ∷ []) (first_alone (whole_value (pos 1)))
unfolding smithy_cbor_codec_on_literals
wide_heads = meaning one_long 0 wide_pair (first_alone (whole_value (pos 1))) refl

-- {_ "a": -9223372036854775808}
pub least_long : Spells one_long 0 (0xbf ∷ 0x61 ∷ 0x61 ∷ 0x3b ∷ 0x7f ∷ (replicate 7 0xff ++ 0xff ∷ [])) (first_alone (whole_value (neg_ℤ (pos (2 ^ 63)))))
unfolding smithy_cbor_codec_on_literals
least_long = meaning one_long 0 (sole_until a_key (long_negative (2 ^ 63 - 1) (omega arith))) (first_alone (whole_value (neg_ℤ (pos (2 ^ 63))))) refl

-- {_ "a": -9223372036854775809} and {_ "a": 9223372036854775808}
pub beyond_long : SpellsNothing one_long 0 (0xbf ∷ 0x61 ∷ 0x61 ∷ 0x3b ∷ 0x80 ∷ (replicate 7 0x00 ++ 0xff ∷ []))
    × SpellsNothing one_long 0 (0xbf ∷ 0x61 ∷ 0x61 ∷ 0x1b ∷ 0x80 ∷ (replicate 7 0x00 ++ 0xff ∷ []))
unfolding smithy_cbor_codec_on_literals
beyond_long = (
  meaningless one_long 0 (sole_until a_key (long_negative (2 ^ 63) (omega arith))) (λ e. cc) refl,
  meaningless one_long 0 (sole_until a_key (long_unsigned (2 ^ 63) (omega arith))) (λ e. cc) refl,
)

-- {"a": null}, and {"a": undefined}, which spells nothing
pub null_member : Spells one_long 0 (0xa1 ∷ 0x61 ∷ 0x61 ∷ 0xf6 ∷ []) empty_structure
unfolding smithy_cbor_codec_on_literals
null_member = meaning one_long 0 (sole a_key a_null) empty_structure refl

pub undefined_member : SpellsNothing one_long 0 (0xa1 ∷ 0x61 ∷ 0x61 ∷ 0xf7 ∷ [])
unfolding smithy_cbor_codec_on_literals
undefined_member = meaningless one_long 0 (sole a_key an_undefined) (λ e. cc) refl

-- null is f6 alone, and not f8 16
pub no_wide_null : IsEncodingOf null (0xf8 ∷ 0x16 ∷ []) → ⊥
no_wide_null (inl (low, same)) = cc
no_wide_null (inr (high, below, same)) = omega arith

-- {"z": a text that isn't UTF-8, "a": 1}
pub skipped_text : Spells one_long 0 (0xa2 ∷ 0x61 ∷ 0x7a ∷ 0x61 ∷ 0xff ∷ 0x61 ∷ 0x61 ∷ 0x01 ∷ []) (first_alone (whole_value (pos 1)))
unfolding smithy_cbor_codec_on_literals
skipped_text = meaning one_long 0 (two z_key no_text a_key (small 1 (omega arith))) (first_alone (whole_value (pos 1))) refl

-- such a text as a key above a null, and as the value of a text; and 1 as a key
pub wrong_texts : SpellsNothing one_long 0 (0xa1 ∷ 0x61 ∷ 0xff ∷ 0xf6 ∷ []) × SpellsNothing one_string 0 (0xa1 ∷ 0x61 ∷ 0x61 ∷ 0x61 ∷ 0xff ∷ [])
    × SpellsNothing one_long 0 (0xa1 ∷ 0x01 ∷ 0xf6 ∷ [])
unfolding smithy_cbor_codec_on_literals
wrong_texts = (
  meaningless one_long 0 (sole no_text a_null) (λ e. cc) refl,
  meaningless one_string 0 (sole a_key no_text) (λ e. cc) refl,
  meaningless one_long 0 (sole (small 1 (omega arith)) a_null) (λ e. cc) refl,
)

-- a text with a quotation mark and a line feed
pub plain_text : Spells one_string 0 (0xa1 ∷ 0x61 ∷ 0x61 ∷ 0x62 ∷ 0x22 ∷ 0x0a ∷ []) (first_alone (text_value (0x22 ∷ 0x0a ∷ [])))
unfolding smithy_cbor_codec_on_literals
plain_text = meaning one_string 0 (sole a_key (short_text (0x22 ∷ 0x0a ∷ []) (omega arith))) (first_alone (text_value (0x22 ∷ 0x0a ∷ []))) refl

-- (_ "a"), and (_ "h", "i")
abbrev a_in_chunks : Encoded
a_in_chunks = record { item = chunked (codes "a" ∷ []); bytes = 0x7f ∷ 0x61 ∷ 0x61 ∷ 0xff ∷ []; is = (0x61 ∷ 0x61 ∷ [], one_chunk 3 (codes "a") (omega arith), refl) }

abbrev hi_in_chunks : Encoded
hi_in_chunks = record {
  item = chunked (codes "h" ∷ codes "i" ∷ []);
  bytes = 0x7f ∷ 0x61 ∷ 0x68 ∷ 0x61 ∷ 0x69 ∷ 0xff ∷ [];
  is = (0x61 ∷ 0x68 ∷ 0x61 ∷ 0x69 ∷ [], (0x61 ∷ 0x68 ∷ [], 0x61 ∷ 0x69 ∷ [], (0x61 ∷ [], in_one_byte 3 1 (omega arith), refl), one_chunk 3 (codes "i") (omega arith), refl), refl);
}

pub chunked_texts : Spells one_string 0 (0xbf ∷ 0x7f ∷ 0x61 ∷ 0x61 ∷ 0xff ∷ 0x7f ∷ 0x61 ∷ 0x68 ∷ 0x61 ∷ 0x69 ∷ 0xff ∷ 0xff ∷ []) (first_alone (text_value (codes "hi")))
unfolding smithy_cbor_codec_on_literals
chunked_texts = meaning one_string 0 (sole_until a_in_chunks hi_in_chunks) (first_alone (text_value (codes "hi"))) refl

-- [] and [_ ] where a map is due
abbrev no_elements_until : Encoded
no_elements_until = record { item = array indefinite no_items; bytes = 0x9f ∷ 0xff ∷ []; is = ([], refl, refl) }

pub array_for_map : SpellsNothing one_long 0 (0x80 ∷ []) × SpellsNothing one_long 0 (0x9f ∷ 0xff ∷ [])
array_for_map = (meaningless one_long 0 (arrays 0) (λ e. cc) refl, meaningless one_long 0 no_elements_until (λ e. cc) refl)

-- ---- empty inputs

-- an empty input spells the structure without members, and no list
pub empty_input : Spells one_long 0 [] empty_structure × SpellsNothing (lists_of_lists false) 0 []
empty_input = (inr (refl, tt, refl, refl), nothing)
  where
    nothing : SpellsNothing (lists_of_lists false) 0 []
    nothing v (inl (i, there, means)) = not_empty i there
    nothing v (inr (same, wrong, shallow, is)) = wrong

-- ---- the ends of inputs

-- {_ }, and a byte behind it
abbrev no_members_until : Encoded
no_members_until = record { item = map_item indefinite no_pairs; bytes = 0xbf ∷ 0xff ∷ []; is = ([], refl, refl) }

pub byte_behind : Spells one_long 0 (0xbf ∷ 0xff ∷ []) empty_structure × SpellsNothing one_long 0 (0xbf ∷ 0xff ∷ 0x00 ∷ [])
byte_behind = (meaning one_long 0 no_members_until empty_structure refl, followed one_long 0 no_members_until 0x00 [])

-- the key "a", and the pair "a": 1
abbrev a_alone : Items
a_alone = item (a_text (codes "a")) no_items

abbrev a_and_one : Items
a_and_one = item (a_text (codes "a")) (item (unsigned 1) no_items)

a_encoded : AreEncodingsOf a_alone (0x61 ∷ 0x61 ∷ [])
a_encoded = (0x61 ∷ 0x61 ∷ [], [], a_key.is, refl, refl)

a_and_one_encoded : AreEncodingsOf a_and_one (0x61 ∷ 0x61 ∷ 0x01 ∷ [])
a_and_one_encoded = (0x61 ∷ 0x61 ∷ [], 0x01 ∷ [], a_key.is, (0x01 ∷ [], [], in_one_byte 0 1 (omega arith), refl, refl), refl)

-- a map that ends before its break is due, and where it is
pub no_break : SpellsNothing one_long 0 (0xbf ∷ 0x61 ∷ 0x61 ∷ []) × SpellsNothing one_long 0 (0xbf ∷ 0x61 ∷ 0x61 ∷ 0x01 ∷ [])
no_break = (
  cut_off one_long 0 (0xbf ∷ 0x61 ∷ 0x61 ∷ []) (λ e. cc) (in_indefinite 5 a_alone (0x61 ∷ 0x61 ∷ []) [] (0xbf ∷ 0x61 ∷ 0x61 ∷ []) (inr refl) a_encoded (in_head [] tt) refl),
  cut_off one_long 0 (0xbf ∷ 0x61 ∷ 0x61 ∷ 0x01 ∷ []) (λ e. cc) (in_indefinite 5 a_and_one (0x61 ∷ 0x61 ∷ 0x01 ∷ []) [] (0xbf ∷ 0x61 ∷ 0x61 ∷ 0x01 ∷ []) (inr refl) a_and_one_encoded (in_head [] tt) refl),
)

-- pairs that are announced and don't come: one of two, and 2^64-1
pub missing_pairs : SpellsNothing one_long 0 (0xa2 ∷ 0x61 ∷ 0x61 ∷ 0x01 ∷ []) × SpellsNothing one_long 0 (0xbb ∷ replicate 8 0xff)
missing_pairs = (
  cut_off one_long 0 (0xa2 ∷ 0x61 ∷ 0x61 ∷ 0x01 ∷ []) (λ e. cc) (in_announced 5 2 a_and_one (0x61 ∷ 0x61 ∷ 0x01 ∷ []) [] (0xa2 ∷ 0x61 ∷ 0x61 ∷ 0x01 ∷ []) (omega arith) a_and_one_encoded (in_head [] tt) (0xa2 ∷ [], in_one_byte 5 2 (omega arith), refl)),
  cut_off one_long 0 (0xbb ∷ replicate 8 0xff) (λ e. cc) (in_announced 5 (2 ^ 64 - 1) no_items [] [] (0xbb ∷ replicate 8 0xff) (omega arith) refl (in_head [] tt) (0xbb ∷ replicate 8 0xff, record { width = widths.eight; fits = omega arith; spelled = refl }, refl)),
)

-- ---- depth

-- {_ "l": lists in one another}: 127 of them, and 128
pub deepest_lists : Spells (lists_of_lists false) 1 (0xbf ∷ 0x61 ∷ 0x6c ∷ (replicate 126 0x81 ++ 0x80 ∷ 0xff ∷ [])) (first_alone (in_lists 126 (values.list no_values)))
unfolding smithy_cbor_codec_on_literals
deepest_lists = meaning (lists_of_lists false) 1 (sole_until l_key (arrays 126)) (first_alone (in_lists 126 (values.list no_values))) refl

pub too_deep_lists : SpellsNothing (lists_of_lists false) 1 (0xbf ∷ 0x61 ∷ 0x6c ∷ (replicate 127 0x81 ++ 0x80 ∷ 0xff ∷ []))
unfolding smithy_cbor_codec_on_literals
too_deep_lists = meaningless (lists_of_lists false) 1 (sole_until l_key (arrays 127)) (λ e. cc) refl
