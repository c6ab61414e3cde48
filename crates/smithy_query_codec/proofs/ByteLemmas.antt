-- The texts of values are texts of bytes.
use Rattle.std.proofs.Common.{◌≡◌, ◌<◌, ◌^◌, ◌==◌, ℕ, ℤ, suc, pos, negsuc, unsigned_abs, List, [], ◌∷◌, Bool, true, false, Option, Some, None, unwrap_or, All, IsUtf8, nat_lt, cond, decimal, codes, refl, subst, arith, ⊎_elim}
use Rattle.std.specs.Fmt.{signed_decimal}
use Rattle.std.specs.List.{list_all}
use Rattle.std.specs.Str.{byte}
use Rattle.std.proofs.lemmas.Bool.{and_parts}
use Rattle.std.proofs.lemmas.Bool.Decides.{nat_tests}
use Rattle.std.proofs.lemmas.List.Elements.{All-append, All-cons, All-nil}
use Rattle.percent_encoding.proofs.PercentLemmas.{IsByte}
use lib.Utf8.{scalar, scalars, encode, encodes, scalar_cases}
use Rattle.smithy_texts.specs.Base64Text.{are_bytes, blob_text}
use Rattle.smithy_texts.specs.Decimal.{exponent_text}
use Rattle.smithy_texts.specs.Ranges.{fits_signed}
use Rattle.smithy_texts.proofs.Base64Laws.{symbols_hold}
use Rattle.smithy_texts.proofs.OnLiterals.{smithy_texts_on_literals}
use Rattle.smithy_texts.proofs.WrittenNumerals.{small_exponent}
use Rattle.smithy_instants.specs.Instant.{is_instant}
use Rattle.smithy_instants.specs.WrittenDate.{date_text}
use Rattle.smithy_declarations.specs.declared.place.Place.{Place}
use Rattle.smithy_declarations.specs.declared.shape_type.TimestampFormat.{TimestampFormat}
use Rattle.smithy_declarations.specs.TimeForms.{format_of}
use Rattle.smithy_declarations.specs.Names.{is_name_byte}
use Rattle.smithy_declarations.specs.Table.{Table, Kind, kind_of}
use Rattle.smithy_declarations.specs.Value.{ScalarValue, boolean, whole, text, bytes, decimal as decimal_value, instant, Value, scalar_value, list, map, structure, union, null_element, document_value, Values, no_values, value, MapEntries, no_map_entries, map_entry, MemberValues, no_member_values, member_value}
use Rattle.smithy_shapes.specs.Fits.{FitsOr, ElementsFit, EntriesFit, MembersFit, is_scalar_of}
use Rattle.smithy_shapes.proofs.ScalarLemmas.{scalar_kind, whole_fits, decimal_fits, text_is_utf8, blob_is_bytes, instant_fits}
use Rattle.smithy_shapes.proofs.InstantTexts.{instant_text_is_utf8}
use Rattle.smithy_query_codec.specs.Leaves.{scalar_text}
use Rattle.smithy_query_codec.proofs.PairLemmas.{each_all, each_weaker}
use Rattle.smithy_query_codec.proofs.SegmentLemmas.{IsNameText, decimal_text}

-- ---- UTF-8

chosen : (test : Bool) (xs ys : List ℕ) → (test ≡ true → All IsByte xs) → (test ≡ false → All IsByte ys) → All IsByte (cond test xs ys)
chosen true xs ys if_true if_false = if_true refl
chosen false xs ys if_true if_false = if_false refl

one : (a : ℕ) → a < 256 → All IsByte (a ∷ [])
one a ha = All-cons IsByte a [] ha (All-nil IsByte)

two : (a b : ℕ) → a < 256 → b < 256 → All IsByte (a ∷ b ∷ [])
two a b ha hb = All-cons IsByte a (b ∷ []) ha (one b hb)

three : (a b c : ℕ) → a < 256 → b < 256 → c < 256 → All IsByte (a ∷ b ∷ c ∷ [])
three a b c ha hb hc = All-cons IsByte a (b ∷ c ∷ []) ha (two b c hb hc)

four : (a b c d : ℕ) → a < 256 → b < 256 → c < 256 → d < 256 → All IsByte (a ∷ b ∷ c ∷ d ∷ [])
four a b c d ha hb hc hd = All-cons IsByte a (b ∷ c ∷ d ∷ []) ha (three b c d hb hc hd)

below : (c n : ℕ) → nat_lt c n ≡ true → c < n
below c n h = grind (arith, nat_tests)

encode_bytes : (c : ℕ) → c < 1114112 → All IsByte (encode c)
unfolding encode
encode_bytes c small =
    chosen (nat_lt c 128) _ _ (λ h. let e = below c 128 h in one c (omega (arith, e)))
    (λ h0. chosen (nat_lt c 2048) _ _ (λ h. let e = below c 2048 h in two _ _ (omega (arith, e)) (omega arith))
    (λ h1. chosen (nat_lt c 65536) _ _ (λ h. let e = below c 65536 h in three _ _ _ (omega (arith, e)) (omega arith) (omega arith))
    (λ h2. four _ _ _ _ (omega (arith, small)) (omega arith) (omega arith) (omega arith))))

scalar_small : (c : ℕ) → scalar c ≡ true → c < 1114112
scalar_small c h = ⊎_elim (λ low. omega (arith, low)) (λ high. omega (arith, high.1)) (scalar_cases c h)

encodes_bytes : (cs : List ℕ) → scalars cs ≡ true → All IsByte (encodes cs)
encodes_bytes [] h = All-nil IsByte
encodes_bytes (c ∷ cs) h =
    let both = and_parts (scalar c) (scalars cs) h in
    All-append IsByte (encode c) (encodes cs) (encode_bytes c (scalar_small c both.0)) (encodes_bytes cs both.1)

pub utf8_bytes : (t : List ℕ) → IsUtf8 t → All IsByte t
utf8_bytes t h = subst (All IsByte) h.1.1 (encodes_bytes h.0 h.1.0)

-- ---- scalars

name_byte_small : (b : ℕ) → is_name_byte b ≡ true → IsByte b
name_byte_small b h = grind (arith, nat_tests)

name_bytes : (s : List ℕ) → IsNameText s → All IsByte s
name_bytes s h = each_all IsByte s (each_weaker (λ b. is_name_byte b ≡ true) IsByte name_byte_small s h)

-- a number of 128 bits has few digits
few_digits : (z : ℤ) → fits_signed 128 z ≡ true → unsigned_abs z < 10 ^ 64
few_digits (pos n) fits = let small : n < 2 ^ 127 = grind (arith, nat_tests) in omega arith
few_digits (negsuc n) fits = let small : n < 2 ^ 127 = grind (arith, nat_tests) in omega arith

signed_bytes : (z : ℤ) → unsigned_abs z < 10 ^ 64 → All IsByte (signed_decimal z)
signed_bytes (pos n) few = name_bytes (decimal n) (decimal_text n few)
signed_bytes (negsuc n) few = All-cons IsByte 45 (decimal (suc n)) (omega arith) (name_bytes (decimal (suc n)) (decimal_text (suc n) few))

exponent_bytes : (e : ℤ) → unsigned_abs e < 10 ^ 64 → All IsByte (exponent_text e)
exponent_bytes (pos n) few =
    chosen (n == 0) [] (byte "e" ∷ signed_decimal (pos n)) (λ none. All-nil IsByte)
    (λ some. All-cons IsByte (byte "e") (signed_decimal (pos n)) (omega arith) (signed_bytes (pos n) few))
exponent_bytes (negsuc n) few = All-cons IsByte (byte "e") (signed_decimal (negsuc n)) (omega arith) (signed_bytes (negsuc n) few)

listed : (t : List ℕ) → list_all (λ b. nat_lt b 256) t ≡ true → All IsByte t
listed [] h = All-nil IsByte
listed (b ∷ t) h = let both = and_parts (nat_lt b 256) (list_all (λ b. nat_lt b 256) t) h in All-cons IsByte b t (below b 256 both.0) (listed t both.1)

base64_bytes : (b : List ℕ) → are_bytes b ≡ true → All IsByte (blob_text b)
unfolding smithy_texts_on_literals
base64_bytes b h = listed (blob_text b) (symbols_hold (λ b. nat_lt b 256) refl refl b h)

-- the text of an instant, where there is one
written_bytes : (form : TimestampFormat) (n : ℤ) → is_instant n ≡ true → (o : Option (List ℕ)) → date_text (format_of form) n ≡ o → All IsByte (unwrap_or o [])
written_bytes form n h (Some t) is = utf8_bytes t (instant_text_is_utf8 form n t h is)
written_bytes form n h None is = All-nil IsByte

scalar_bytes : (k : Kind) (x : ScalarValue) (form : TimestampFormat) → is_scalar_of k x ≡ true → All IsByte (scalar_text form x)
scalar_bytes k (boolean true) form h = listed (codes "true") refl
scalar_bytes k (boolean false) form h = listed (codes "false") refl
scalar_bytes k (whole n) form h = let s = scalar_kind k (whole n) h in signed_bytes n (few_digits n (whole_fits s.0 n s.2))
scalar_bytes k (text t) form h = let s = scalar_kind k (text t) h in utf8_bytes t (text_is_utf8 s.0 t s.2)
scalar_bytes k (bytes b) form h = let s = scalar_kind k (bytes b) h in base64_bytes b (blob_is_bytes s.0 b s.2)
scalar_bytes k (decimal_value m e) form h =
    let s = scalar_kind k (decimal_value m e) h in
    let fits = decimal_fits s.0 m e s.2 in
    All-append IsByte (signed_decimal m) (exponent_text e) (signed_bytes m (few_digits m fits.0)) (exponent_bytes e (small_exponent e fits.1))
scalar_bytes k (instant n) form h = let s = scalar_kind k (instant n) h in written_bytes form n (instant_fits s.0 n s.2) (date_text (format_of form) n) refl

-- ---- any value

-- each text in a form of the value is one of bytes, in whichever time form
abbrev mutual
  pub HasBytes : Value → Type 0
  HasBytes (scalar_value x) = (form : TimestampFormat) → All IsByte (scalar_text form x)
  HasBytes (list vs) = ElementsHaveBytes vs
  HasBytes (map es) = EntriesHaveBytes es
  HasBytes (structure ms) = MembersHaveBytes ms
  HasBytes (union n v) = HasBytes v
  HasBytes null_element = Unit {0}
  HasBytes (document_value d) = Unit {0}

  pub ElementsHaveBytes : Values → Type 0
  ElementsHaveBytes no_values = Unit {0}
  ElementsHaveBytes (value v vs) = HasBytes v × ElementsHaveBytes vs

  pub EntriesHaveBytes : MapEntries → Type 0
  EntriesHaveBytes no_map_entries = Unit {0}
  EntriesHaveBytes (map_entry key v es) = All IsByte key × HasBytes v × EntriesHaveBytes es

  pub MembersHaveBytes : MemberValues → Type 0
  MembersHaveBytes no_member_values = Unit {0}
  MembersHaveBytes (member_value n v ms) = HasBytes v × MembersHaveBytes ms

mutual
  pub fit_has_bytes : (t : Table) (p : Place) (nulls : Bool) (v : Value) → FitsOr t p nulls v → HasBytes v
  fit_has_bytes t p nulls (scalar_value x) h = λ form. scalar_bytes (kind_of t p) x form h
  fit_has_bytes t p nulls null_element h = tt
  fit_has_bytes t p nulls (document_value d) h = tt
  fit_has_bytes t p nulls (list vs) h = elements_have_bytes t (kind_of t p) vs h.1
  fit_has_bytes t p nulls (map es) h = entries_have_bytes t (kind_of t p) es h.1
  fit_has_bytes t p nulls (structure ms) h = members_have_bytes t (kind_of t p) ms h.1
  fit_has_bytes t p nulls (union n v) h = fit_has_bytes t h.1.0 false v h.1.2

  elements_have_bytes : (t : Table) (k : Kind) (vs : Values) → ElementsFit t k vs → ElementsHaveBytes vs
  elements_have_bytes t k no_values h = tt
  elements_have_bytes t k (value v vs) h = (fit_has_bytes t h.0.0 _ v h.0.2, elements_have_bytes t k vs h.1)

  entries_have_bytes : (t : Table) (k : Kind) (es : MapEntries) → EntriesFit t k es → EntriesHaveBytes es
  entries_have_bytes t k no_map_entries h = tt
  entries_have_bytes t k (map_entry key v es) h = (utf8_bytes key h.0, fit_has_bytes t h.1.0 _ v h.1.2, entries_have_bytes t k es h.2)

  members_have_bytes : (t : Table) (k : Kind) (ms : MemberValues) → MembersFit t k ms → MembersHaveBytes ms
  members_have_bytes t k no_member_values h = tt
  members_have_bytes t k (member_value n v ms) h = (fit_has_bytes t h.0.0 false v h.0.2, members_have_bytes t k ms h.1)
