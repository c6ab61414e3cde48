-- Items with their bytes, for the examples.
use Rattle.std.proofs.Common.{inl, ℕ, zero, suc, ◌<◌, ◌^◌, List, [], ◌∷◌, ◌++◌, length, refl, sym, arith, append-nil, replicate, codes}
use Rattle.cbor_item.specs.Head as widths
use Rattle.cbor_item.specs.Head.{initial_byte, head_bytes, IsHead}
use Rattle.cbor_item.specs.Item.{indefinite, Item, unsigned, negative, map as map_item, simple, no_pairs, pair}
use Rattle.cbor_item.specs.WellFormed.{AreChunks, IsEncodingOf}
use Rattle.smithy_cbor_codec.proofs.Examples.{a_text, an_array, a_map, in_arrays}

-- an item and one of its encodings
pub record Encoded : Type 0 where
  pub item : Item
  pub bytes : List ℕ
  pub is : IsEncodingOf item bytes

-- a head of one byte
pub in_one_byte : (major n : ℕ) → n < 24 → IsHead major n (initial_byte major n ∷ [])
in_one_byte major n fits = record { width = widths.immediate; fits = fits; spelled = refl }

pub one_chunk : (major : ℕ) (chunk : List ℕ) → length chunk < 24 → AreChunks major (chunk ∷ []) (initial_byte major (length chunk) ∷ chunk)
one_chunk major chunk fits = (initial_byte major (length chunk) ∷ chunk, [], (initial_byte major (length chunk) ∷ [], in_one_byte major (length chunk) fits, refl), refl, sym (append-nil _))

abbrev pub short_text : (t : List ℕ) → length t < 24 → Encoded
short_text t fits = record { item = a_text t; bytes = initial_byte 3 (length t) ∷ t; is = (refl, one_chunk 3 t fits) }

abbrev pub small : (n : ℕ) → n < 24 → Encoded
small n fits = record { item = unsigned n; bytes = initial_byte 0 n ∷ []; is = in_one_byte 0 n fits }

-- an integer in eight bytes
abbrev pub long_unsigned : (n : ℕ) → n < 2 ^ 64 → Encoded
long_unsigned n fits = record { item = unsigned n; bytes = head_bytes 0 widths.eight n; is = record { width = widths.eight; fits = fits; spelled = refl } }

abbrev pub long_negative : (n : ℕ) → n < 2 ^ 64 → Encoded
long_negative n fits = record { item = negative n; bytes = head_bytes 1 widths.eight n; is = record { width = widths.eight; fits = fits; spelled = refl } }

abbrev pub short_simple : (n : ℕ) → n < 24 → Encoded
short_simple n fits = record { item = simple n; bytes = initial_byte 7 n ∷ []; is = inl (fits, refl) }

-- a map of one pair, of definite length and of indefinite length
abbrev pub sole : Encoded → Encoded → Encoded
sole k v = record {
  item = a_map ((k.item, v.item) ∷ []);
  bytes = 0xa1 ∷ (k.bytes ++ v.bytes ++ []);
  is = (k.bytes ++ v.bytes ++ [], (k.bytes, v.bytes, [], k.is, v.is, refl, refl), (0xa1 ∷ [], in_one_byte 5 1 (omega arith), refl));
}

abbrev pub sole_until : Encoded → Encoded → Encoded
sole_until k v = record {
  item = map_item indefinite (pair k.item v.item no_pairs);
  bytes = 0xbf ∷ ((k.bytes ++ v.bytes ++ []) ++ 0xff ∷ []);
  is = (k.bytes ++ v.bytes ++ [], (k.bytes, v.bytes, [], k.is, v.is, refl, refl), refl);
}

-- a map of two pairs
abbrev pub two : Encoded → Encoded → Encoded → Encoded → Encoded
two k v l w = record {
  item = a_map ((k.item, v.item) ∷ (l.item, w.item) ∷ []);
  bytes = 0xa2 ∷ (k.bytes ++ v.bytes ++ (l.bytes ++ w.bytes ++ []));
  is = (k.bytes ++ v.bytes ++ (l.bytes ++ w.bytes ++ []), (k.bytes, v.bytes, l.bytes ++ w.bytes ++ [], k.is, v.is, (l.bytes, w.bytes, [], l.is, w.is, refl, refl), refl), (0xa2 ∷ [], in_one_byte 5 2 (omega arith), refl));
}

-- so many arrays around an empty one
pub arrays_encoded : (n : ℕ) → IsEncodingOf (in_arrays n (an_array [])) (replicate n 0x81 ++ 0x80 ∷ [])
arrays_encoded zero = ([], refl, (0x80 ∷ [], in_one_byte 4 0 (omega arith), refl))
arrays_encoded (suc n) = (replicate n 0x81 ++ 0x80 ∷ [], (replicate n 0x81 ++ 0x80 ∷ [], [], arrays_encoded n, refl, sym (append-nil _)), (0x81 ∷ [], in_one_byte 4 1 (omega arith), refl))

abbrev pub arrays : ℕ → Encoded
arrays n = record { item = in_arrays n (an_array []); bytes = replicate n 0x81 ++ 0x80 ∷ []; is = arrays_encoded n }

abbrev pub a_key : Encoded
a_key = short_text (codes "a") (omega arith)

abbrev pub z_key : Encoded
z_key = short_text (codes "z") (omega arith)

abbrev pub l_key : Encoded
l_key = short_text (codes "l") (omega arith)

abbrev pub type_key : Encoded
type_key = short_text (codes "__type") (omega arith)

-- a byte that is no UTF-8 as a text
abbrev pub no_text : Encoded
no_text = short_text (0xff ∷ []) (omega arith)

abbrev pub a_null : Encoded
a_null = short_simple 22 (omega arith)

abbrev pub an_undefined : Encoded
an_undefined = short_simple 23 (omega arith)
