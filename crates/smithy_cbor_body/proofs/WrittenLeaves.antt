-- What CBOR writes for scalars that it holds and for names: it means them, can be written, and is their canonical encoding.
use Rattle.std.specs.Prelude.{◌≡◌, ◌==◌, ◌*ℤ◌, ℕ, ℤ, pos, negsuc, nat_lt, if◌then◌else◌, option_map, Bool, List, [], ◌∷◌, ◌++◌, true, false, Option, Some, refl}
use Rattle.std.specs.Prelude.{FitsSigned}
use Rattle.std.specs.Int.{w64}
use Rattle.std.specs.Str.{is_utf8}
use Rattle.std.proofs.Common.{◌<◌, ◌^◌, length, sym, ap, ◌∙◌, subst, arith, inl, lit≤}
use Rattle.std.proofs.lemmas.Bool.Decides.{nat_tests}
use Rattle.std.proofs.lemmas.Int.{ints}
use Rattle.std.proofs.lemmas.List.{append-nil, length-append}
use Rattle.std.proofs.lemmas.Str.{is_utf8-from_IsUtf8}
use Rattle.smithy_declarations.specs.declared.shape_type.Scalar.{Scalar}
use Rattle.smithy_declarations.specs.declared.shape_type.Scalar.TheVariants as scalars
use Rattle.smithy_declarations.specs.declared.shape_type.TimestampFormat.{TimestampFormat}
use Rattle.smithy_declarations.specs.Value.{ScalarValue, boolean, whole, text, bytes, decimal, instant, scalar_value}
use Rattle.smithy_shapes.specs.Fits.{is_of}
use Rattle.smithy_texts.specs.Decimal.{DecimalForm}
use Rattle.smithy_texts.specs.Ranges.{fits_signed, is_exponent}
use Rattle.smithy_shapes.proofs.ScalarLemmas.{fits_more, decimal_fits, instant_fits}
use Rattle.smithy_shapes.proofs.InstantLemmas.{whole_seconds}
use Rattle.smithy_instants.specs.Instant.{nanos_per_second, seconds_of, subsecond_of, is_instant}
use Rattle.cbor_item.specs.Head.{width_limit, IsHead, narrowest, shortest_head}
use Rattle.cbor_item.specs.Item.{definite, Item, unsigned, negative, byte_string, text_string, array, tag, no_items, item}
use Rattle.cbor_item.specs.WellFormed.{IsEncodingOf, AreEncodingsOf}
use Rattle.smithy_cbor.proofs.ReadBackLemmas.{big_endian_back, bignum_encoded}
use Rattle.smithy_cbor_values.specs.Meaning.{node_of, rules_of}
use Rattle.smithy_cbor.specs.Scalar.{boolean_item, integer_of, big_integer_of, both, decimal_fraction_of, joined_text}
use Rattle.smithy_cbor_values.specs.Scalar.{decimal_form_of, date_says, timestamp_says, says}
use Rattle.smithy_cbor_values.specs.Settings.{Settings}
use Rattle.smithy_wire.specs.Rules.{means, no_meaning}
use Rattle.smithy_wire.specs.BigNumbers.{big_decimal}
use Rattle.smithy_wire.specs.Node.{leaf}
use Rattle.smithy_cbor_body.specs.Canonical.{scalar_bytes, cbor_holds}
use Rattle.smithy_cbor.specs.Written.{integer_bytes, big_endian_bytes, bignum_bytes, big_integer_bytes, epoch_seconds_bytes, text_bytes, byte_string_bytes}
use Rattle.smithy_cbor_body.proofs.WrittenPlaces.{part_bytes, item_bytes, IsEncoded, cbor_writes}
use Rattle.smithy_wire.specs.Written.{Leaves, ReadsLeaves}
use Rattle.smithy_wire.specs.Writes.{WritesLeaves}

-- an integer of 64 bits
abbrev pub integer_item : ℤ → Item
integer_item (pos n) = unsigned n
integer_item (negsuc n) = negative n

-- n under a major type where its head holds it, else its bytes under a tag
abbrev pub magnitude_item : Item → ℕ → ℕ → Item
magnitude_item short number n = if nat_lt n (2 ^ 64) then short else tag number (byte_string definite (big_endian_bytes n ∷ []))

abbrev pub whole_item : ℤ → Item
whole_item (pos n) = magnitude_item (unsigned n) 2 n
whole_item (negsuc n) = magnitude_item (negative n) 3 n

abbrev pub decimal_item : ℤ → ℤ → Item
decimal_item m e = tag 4 (array definite (item (integer_item e) (item (whole_item m) no_items)))

-- so many seconds after the epoch
abbrev pub date_item : ℤ → Item
date_item s = tag 1 (integer_item s)

abbrev pub text_item : List ℕ → Item
text_item s = text_string definite (s ∷ [])

abbrev pub blob_item : List ℕ → Item
blob_item b = byte_string definite (b ∷ [])

abbrev pub leaf_of : Scalar → Option TimestampFormat → ScalarValue → Item
leaf_of s time (boolean b) = boolean_item b
leaf_of s time (whole n) = whole_item n
leaf_of s time (decimal m e) = decimal_item m e
leaf_of s time (text t) = text_item t
leaf_of s time (bytes b) = blob_item b
leaf_of s time (instant n) = date_item (seconds_of n)

abbrev pub cbor_leaves : Leaves Item
cbor_leaves = record { leaf_of = leaf_of; key_of = text_item; holds = cbor_holds }

-- an integer is the number for which it is written
number_back : (n : ℤ) → integer_of (integer_item n) ≡ Some n
number_back (pos n) = refl
number_back (negsuc n) = refl

-- one chunk of UTF-8 is its text
chunk_text : (s : List ℕ) → is_utf8 s ≡ true → joined_text (s ∷ []) ≡ Some s
chunk_text s utf8 = rw utf8 (ap Some (append-nil s))

-- a number of 64 bits is written as an integer
small_magnitude : (short : Item) (number n : ℕ) → n < 2 ^ 63 → magnitude_item short number n ≡ short
small_magnitude short number n small = let below : nat_lt n (2 ^ 64) ≡ true = grind (arith, nat_tests) in rw below refl

positive_below : (n : ℕ) → fits_signed 64 (pos n) ≡ true → n < 2 ^ 63
positive_below n fits = grind (arith, nat_tests)

negative_below : (n : ℕ) → fits_signed 64 (negsuc n) ≡ true → n < 2 ^ 63
negative_below n fits = grind (arith, nat_tests)

short_back : (n : ℤ) → fits_signed 64 n ≡ true → integer_of (whole_item n) ≡ Some n
short_back (pos n) fits = ap integer_of (small_magnitude (unsigned n) 2 n (positive_below n fits))
short_back (negsuc n) fits = ap integer_of (small_magnitude (negative n) 3 n (negative_below n fits))

-- a number of 128 bits is the one for which it is written
wide_below : (n : ℕ) → fits_signed 128 (pos n) ≡ true → n < 2 ^ 128
wide_below n fits = let below : n < 2 ^ 127 = grind (arith, nat_tests) in omega arith

wide_negative : (n : ℕ) → fits_signed 128 (negsuc n) ≡ true → n < 2 ^ 128
wide_negative n fits = let below : n < 2 ^ 127 = grind (arith, nat_tests) in omega arith

whole_back : (n : ℤ) → fits_signed 128 n ≡ true → big_integer_of (whole_item n) ≡ Some n
whole_back (pos n) fits = by (nat_lt n (2 ^ 64))
  where
    by : (t : Bool) → big_integer_of (if t then unsigned n else tag 2 (byte_string definite (big_endian_bytes n ∷ []))) ≡ Some (pos n)
    by true = refl
    by false = ap (λ m. Some (pos m)) (big_endian_back n (wide_below n fits))
whole_back (negsuc n) fits = by (nat_lt n (2 ^ 64))
  where
    by : (t : Bool) → big_integer_of (if t then negative n else tag 3 (byte_string definite (big_endian_bytes n ∷ []))) ≡ Some (negsuc n)
    by true = refl
    by false = ap (λ m. Some (negsuc m)) (big_endian_back n (wide_negative n fits))

-- a decimal within its limits is the one for which it is written
fraction_back : (m e : ℤ) → fits_signed 128 m ≡ true → decimal_fraction_of (decimal_item m e) ≡ Some (e, m)
fraction_back m e fits = ap (λ x. both x (big_integer_of (whole_item m))) (number_back e) ∙ ap (both (Some e)) (whole_back m fits)

decimal_means : (m e : ℤ) → (fits_signed 128 m ≡ true) × (is_exponent e ≡ true) → big_decimal (decimal_form_of (decimal_item m e)) ≡ means (scalar_value (decimal m e))
decimal_means m e fits =
    let Form : Type 0 = Option DecimalForm in
    let form : ◌≡◌ {A = Form} (decimal_form_of (decimal_item m e)) (Some (record { mantissa_part = m; written_part = e; net_part = e })) =
    ap (option_map (λ (p : ℤ × ℤ). record { mantissa_part = p.1; written_part = p.0; net_part = p.0 })) (fraction_back m e fits.0) in
    ap big_decimal form ∙ rw (fits.0, fits.1) refl

-- a date of whole seconds is the instant for which it is written
date_item_says : (s : ℤ) → timestamp_says (date_item s) ≡ date_says (Some s)
date_item_says (pos n) = refl
date_item_says (negsuc n) = refl

instant_means : (n : ℤ) → is_instant n ≡ true → (subsecond_of n == 0) ≡ true → timestamp_says (date_item (seconds_of n)) ≡ means (scalar_value (instant n))
instant_means n is held =
    let whole : subsecond_of n ≡ 0 = grind (arith, nat_tests) in
    date_item_says (seconds_of n)
    ∙ ap (λ b. if b then means (scalar_value (instant (seconds_of n *ℤ pos nanos_per_second))) else no_meaning) is
    ∙ ap (λ z. means (scalar_value (instant z))) (whole_seconds n whole)

scalar_means : (s : Scalar) (time : Option TimestampFormat) (x : ScalarValue) → is_of s x ≡ true → cbor_holds.scalar time x ≡ true → says s time (leaf_of s time x) ≡ means (scalar_value x)
scalar_means scalars.Boolean time (boolean true) is held = refl
scalar_means scalars.Boolean time (boolean false) is held = refl
scalar_means scalars.Byte time (whole n) is held = rw (short_back n (fits_more 8 64 n (lit≤ tt) is), is) refl
scalar_means scalars.Short time (whole n) is held = rw (short_back n (fits_more 16 64 n (lit≤ tt) is), is) refl
scalar_means scalars.Integer time (whole n) is held = rw (short_back n (fits_more 32 64 n (lit≤ tt) is), is) refl
scalar_means scalars.Long time (whole n) is held = rw (short_back n is, is) refl
scalar_means scalars.BigInteger time (whole n) is held = rw (whole_back n is, is) refl
scalar_means scalars.BigDecimal time (decimal m e) is held = decimal_means m e (decimal_fits scalars.BigDecimal m e is)
scalar_means scalars.String time (text t) is held = rw (chunk_text t is) refl
scalar_means scalars.Blob time (bytes b) is held = rw (append-nil b, is) refl
scalar_means scalars.Timestamp time (instant n) is held = instant_means n is held
scalar_means _ time _ is held = cc

pub cbor_reads_leaves : (c : Settings) → ReadsLeaves cbor_leaves (rules_of c)
cbor_reads_leaves c = record { scalar_means = scalar_means; key_means = λ key utf8. chunk_text key (is_utf8-from_IsUtf8 key utf8) }

-- a scalar and a name can be written
narrowest_holds : (n : ℕ) → n < 2 ^ 64 → n < width_limit (narrowest n)
narrowest_holds n h = grind (arith, nat_tests)

shortest_is_head : (major n : ℕ) → n < 2 ^ 64 → IsHead major n (shortest_head major n)
shortest_is_head major n h = record { width = narrowest n; fits = narrowest_holds n h; spelled = refl }

-- the bytes of an integer and of a bignum are their encodings, in a decimal fraction too
exponent_encoded : (e : ℤ) → is_exponent e ≡ true → IsEncodingOf (integer_item e) (part_bytes (integer_item e))
exponent_encoded (pos n) fits = let below : n < 2 ^ 63 = grind (arith, nat_tests) in shortest_is_head 0 n (omega arith)
exponent_encoded (negsuc n) fits = let below : n < 2 ^ 63 = grind (arith, nat_tests) in shortest_is_head 1 n (omega arith)

magnitude_encoded : (t : Bool) (short : Item) (number n : ℕ) → number < 2 ^ 64 → (t ≡ true → IsEncodingOf short (part_bytes short))
    → IsEncodingOf (if t then short else tag number (byte_string definite (big_endian_bytes n ∷ []))) (part_bytes (if t then short else tag number (byte_string definite (big_endian_bytes n ∷ []))))
magnitude_encoded true short number n fits is = is refl
magnitude_encoded false short number n fits is = bignum_encoded number n fits

whole_encoded : (n : ℤ) → IsEncodingOf (whole_item n) (part_bytes (whole_item n))
whole_encoded (pos n) = magnitude_encoded (nat_lt n (2 ^ 64)) (unsigned n) 2 n (omega arith) (λ below. shortest_is_head 0 n (grind (arith, nat_tests)))
whole_encoded (negsuc n) = magnitude_encoded (nat_lt n (2 ^ 64)) (negative n) 3 n (omega arith) (λ below. shortest_is_head 1 n (grind (arith, nat_tests)))

-- such an item is a scalar, with the same bytes
magnitude_is_leaf : (t : Bool) (short : Item) (number n : ℕ) → node_of short ≡ leaf short → part_bytes short ≡ item_bytes short
    → (node_of (if t then short else tag number (byte_string definite (big_endian_bytes n ∷ []))) ≡ leaf (if t then short else tag number (byte_string definite (big_endian_bytes n ∷ []))))
    × (part_bytes (if t then short else tag number (byte_string definite (big_endian_bytes n ∷ []))) ≡ item_bytes (if t then short else tag number (byte_string definite (big_endian_bytes n ∷ []))))
magnitude_is_leaf true short number n is same = (is, same)
magnitude_is_leaf false short number n is same = (refl, refl)

whole_is_leaf : (n : ℤ) → (node_of (whole_item n) ≡ leaf (whole_item n)) × (part_bytes (whole_item n) ≡ item_bytes (whole_item n))
whole_is_leaf (pos n) = magnitude_is_leaf (nat_lt n (2 ^ 64)) (unsigned n) 2 n refl refl
whole_is_leaf (negsuc n) = magnitude_is_leaf (nat_lt n (2 ^ 64)) (negative n) 3 n refl refl

integer_is : (n : ℤ) → cbor_writes.IsScalar (whole_item n)
integer_is n = let l = whole_is_leaf n in (l.0, λ _. subst (λ (s : List ℕ). IsEncodingOf (whole_item n) s) l.1 (whole_encoded n))

decimal_is : (m e : ℤ) → is_exponent e ≡ true → IsEncoded (decimal_item m e)
decimal_is m e fits short =
    let a = part_bytes (integer_item e) in
    let b = part_bytes (whole_item m) in
    let items : AreEncodingsOf (item (integer_item e) (item (whole_item m) no_items)) (a ++ b) =
    (a, b, exponent_encoded e fits, (b, [], whole_encoded m, refl, sym (append-nil b)), refl) in
    let pair : IsEncodingOf (array definite (item (integer_item e) (item (whole_item m) no_items))) (shortest_head 4 2 ++ (a ++ b)) =
    (a ++ b, items, (shortest_head 4 2, shortest_is_head 4 2 (omega arith), refl)) in
    (shortest_head 4 2 ++ (a ++ b), pair, (shortest_head 6 4, shortest_is_head 6 4 (omega arith), refl))

boolean_is : (b : Bool) → cbor_writes.IsScalar (boolean_item b)
boolean_is true = (refl, λ _. inl (omega arith, refl))
boolean_is false = (refl, λ _. inl (omega arith, refl))

text_is : (s : List ℕ) → IsEncoded (text_item s)
text_is s short =
    let sum = length-append (shortest_head 3 (length s)) s in
    (refl, (text_bytes s, [], (shortest_head 3 (length s), shortest_is_head 3 (length s) (omega (arith, short, sum)), refl), refl, sym (append-nil (text_bytes s))))

blob_is : (b : List ℕ) → IsEncoded (blob_item b)
blob_is b short =
    let sum = length-append (shortest_head 2 (length b)) b in
    (refl, (byte_string_bytes b, [], (shortest_head 2 (length b), shortest_is_head 2 (length b) (omega (arith, short, sum)), refl), refl, sym (append-nil (byte_string_bytes b))))

-- so many seconds of 64 bits are encoded as a date
date_is : (s : ℤ) → fits_signed 64 s ≡ true → IsEncoded (date_item s)
date_is (pos n) fits short =
    let below : n < 2 ^ 63 = grind (arith, nat_tests) in
    (shortest_head 0 n, shortest_is_head 0 n (omega arith), (shortest_head 6 1, shortest_is_head 6 1 (omega arith), refl))
date_is (negsuc n) fits short =
    let below : n < 2 ^ 63 = grind (arith, nat_tests) in
    (shortest_head 1 n, shortest_is_head 1 n (omega arith), (shortest_head 6 1, shortest_is_head 6 1 (omega arith), refl))

scalar_is : (s : Scalar) (time : Option TimestampFormat) (x : ScalarValue) → is_of s x ≡ true → cbor_writes.IsScalar (leaf_of s time x)
scalar_is s time (boolean b) is = boolean_is b
scalar_is s time (whole n) is = integer_is n
scalar_is s time (decimal m e) is = (refl, decimal_is m e (decimal_fits s m e is).1)
scalar_is s time (text t) is = (refl, text_is t)
scalar_is s time (bytes b) is = (refl, blob_is b)
scalar_is s time (instant n) is = (refl, date_is (seconds_of n) (instant_fits s n is))

pub cbor_writes_leaves : WritesLeaves cbor_writes cbor_leaves
cbor_writes_leaves = record { scalar_is = λ s time x is held. scalar_is s time x is; key_is = λ key utf8. text_is key }

magnitude_bytes_of : (t : Bool) (short : Item) (spelled : List ℕ) (number n : ℕ) → spelled ≡ part_bytes short
    → (if t then spelled else bignum_bytes number n) ≡ part_bytes (if t then short else tag number (byte_string definite (big_endian_bytes n ∷ [])))
magnitude_bytes_of true short spelled number n is = is
magnitude_bytes_of false short spelled number n is = refl

whole_bytes : (n : ℤ) → big_integer_bytes n ≡ part_bytes (whole_item n)
whole_bytes (pos n) = magnitude_bytes_of (nat_lt n (2 ^ 64)) (unsigned n) (shortest_head 0 n) 2 n refl
whole_bytes (negsuc n) = magnitude_bytes_of (nat_lt n (2 ^ 64)) (negative n) (shortest_head 1 n) 3 n refl

exponent_bytes : (e : ℤ) → integer_bytes e ≡ part_bytes (integer_item e)
exponent_bytes (pos n) = refl
exponent_bytes (negsuc n) = refl

date_bytes : (s : ℤ) → epoch_seconds_bytes s ≡ item_bytes (date_item s)
date_bytes (pos n) = refl
date_bytes (negsuc n) = refl

-- the canonical encoding of a scalar is what is written for it
pub scalar_is_written : (s : Scalar) (time : Option TimestampFormat) (x : ScalarValue) → scalar_bytes x ≡ item_bytes (leaf_of s time x)
scalar_is_written s time (boolean true) = refl
scalar_is_written s time (boolean false) = refl
scalar_is_written s time (whole n) = whole_bytes n ∙ (whole_is_leaf n).1
scalar_is_written s time (decimal m e) = ap (λ r. shortest_head 6 4 ++ (shortest_head 4 2 ++ r)) (ap (λ r. r ++ big_integer_bytes m) (exponent_bytes e) ∙ ap (λ r. part_bytes (integer_item e) ++ r) (whole_bytes m))
scalar_is_written s time (text t) = refl
scalar_is_written s time (bytes b) = refl
scalar_is_written s time (instant n) = date_bytes (seconds_of n)

-- a number of 64 bits is written as an integer, whatever its kind
big_is_short : (short other : List ℕ) (n : ℕ) → n < 2 ^ 64 → (if nat_lt n (2 ^ 64) then short else other) ≡ short
big_is_short short other n small = let below : nat_lt n (2 ^ 64) ≡ true = grind (arith, nat_tests) in rw below refl

pub long_is_integer : (z : ℤ) → FitsSigned w64 z → big_integer_bytes z ≡ integer_bytes z
long_is_integer (pos n) fits = big_is_short (shortest_head 0 n) (bignum_bytes 2 n) n (grind (arith, ints))
long_is_integer (negsuc n) fits = big_is_short (shortest_head 1 n) (bignum_bytes 3 n) n (grind (arith, ints))
