-- The texts of leaves are UTF-8.
use Rattle.std.proofs.Common.{◌≡◌, ◌<◌, ◌^◌, ◌==◌, ℕ, ℤ, suc, pos, negsuc, unsigned_abs, List, [], ◌∷◌, ◌++◌, Bool, true, false, Option, Some, None, unwrap_or, cond, codes, decimal, refl, arith}
use Rattle.std.specs.Prelude.{IsUtf8}
use Rattle.std.specs.Fmt.{signed_decimal}
use Rattle.std.specs.List.{AllByRecursion}
use Rattle.std.specs.Str.{byte}
use Rattle.std.proofs.lemmas.Bool.Decides.{nat_tests}
use Rattle.std.proofs.lemmas.Str.{IsUtf8-append, IsUtf8-from_ascii}
use Rattle.std.proofs.lemmas.Str.Ascii.{IsAscii-from_all}
use Rattle.smithy_texts.specs.Ranges.{fits_signed}
use Rattle.smithy_texts.specs.Decimal.{exponent_text}
use Rattle.smithy_texts.proofs.Base64Laws.{blob_text_is_utf8}
use Rattle.smithy_texts.proofs.WrittenNumerals.{small_exponent}
use Rattle.smithy_instants.specs.Instant.{is_instant}
use Rattle.smithy_instants.specs.WrittenDate.{date_text}
use Rattle.smithy_declarations.specs.declared.shape_type.TimestampFormat.{TimestampFormat}
use Rattle.smithy_declarations.specs.TimeForms.{format_of}
use Rattle.smithy_declarations.specs.Names.{is_name_byte}
use Rattle.smithy_declarations.specs.Table.{Kind}
use Rattle.smithy_declarations.specs.Value.{ScalarValue, boolean, whole, text, bytes, decimal as decimal_value, instant, Value, scalar_value, list, map, structure, union, null_element, document_value, Values, no_values, value, MapEntries, no_map_entries, map_entry, MemberValues, no_member_values, member_value}
use Rattle.smithy_shapes.specs.Fits.{is_scalar_of}
use Rattle.smithy_shapes.specs.Site.{Site, kind_at, element_of, value_of, member_of}
use Rattle.smithy_shapes.proofs.ScalarLemmas.{scalar_kind, whole_fits, decimal_fits, text_is_utf8, instant_fits}
use Rattle.smithy_shapes.proofs.InstantTexts.{instant_text_is_utf8}
use Rattle.smithy_query_codec.specs.Leaves.{Path, Leaf, MemberRole, flat_member, member, neither, under, numbered, or_empty, key_name, value_name, form_at, scalar_text, leaves, element_leaves, entry_leaves, member_leaves}
use Rattle.smithy_query_codec.proofs.PairLemmas.{each-append, each_weaker, each_map, each_all}
use Rattle.smithy_query_codec.proofs.SegmentLemmas.{IsNameText, decimal_text}
use Rattle.smithy_form.specs.Private.Whole.{IsWhole, WholeElements, WholeEntries, WholeMembers}

-- ---- scalars

pub ascii_text : (s : List ℕ) → AllByRecursion (λ b. b < 128) s → IsUtf8 s
ascii_text s h = IsUtf8-from_ascii s (IsAscii-from_all s (each_all (λ b. b < 128) s h))

name_byte_small : (b : ℕ) → is_name_byte b ≡ true → b < 128
name_byte_small b h = grind (arith, nat_tests)

name_small : (s : List ℕ) → IsNameText s → AllByRecursion (λ b. b < 128) s
name_small s h = each_weaker (λ b. is_name_byte b ≡ true) (λ b. b < 128) name_byte_small s h

few_digits : (z : ℤ) → fits_signed 128 z ≡ true → unsigned_abs z < 10 ^ 64
few_digits (pos n) fits = let small : n < 2 ^ 127 = grind (arith, nat_tests) in omega arith
few_digits (negsuc n) fits = let small : n < 2 ^ 127 = grind (arith, nat_tests) in omega arith

signed_text : (z : ℤ) → unsigned_abs z < 10 ^ 64 → IsUtf8 (signed_decimal z)
signed_text (pos n) few = ascii_text (decimal n) (name_small (decimal n) (decimal_text n few))
signed_text (negsuc n) few = ascii_text (byte "-" ∷ decimal (suc n)) (omega arith, name_small (decimal (suc n)) (decimal_text (suc n) few))

mark_text : IsUtf8 (byte "e" ∷ [])
mark_text = ascii_text (byte "e" ∷ []) (omega arith, tt)

chosen : (test : Bool) (xs ys : List ℕ) → IsUtf8 xs → IsUtf8 ys → IsUtf8 (cond test xs ys)
chosen true xs ys h k = h
chosen false xs ys h k = k

exponent_is_text : (e : ℤ) → unsigned_abs e < 10 ^ 64 → IsUtf8 (exponent_text e)
exponent_is_text (pos n) few =
    chosen (n == 0) [] (byte "e" ∷ signed_decimal (pos n)) (ascii_text [] tt) (IsUtf8-append (byte "e" ∷ []) (signed_decimal (pos n)) mark_text (signed_text (pos n) few))
exponent_is_text (negsuc n) few = IsUtf8-append (byte "e" ∷ []) (signed_decimal (negsuc n)) mark_text (signed_text (negsuc n) few)

-- the text of an instant, where there is one
written_text : (form : TimestampFormat) (n : ℤ) → is_instant n ≡ true → (o : Option (List ℕ)) → date_text (format_of form) n ≡ o → IsUtf8 (unwrap_or o [])
written_text form n h (Some t) is = instant_text_is_utf8 form n t h is
written_text form n h None is = ascii_text [] tt

scalar_is_text : (k : Kind) (x : ScalarValue) (form : TimestampFormat) → is_scalar_of k x ≡ true → IsUtf8 (scalar_text form x)
scalar_is_text k (boolean true) form h = ascii_text (codes "true") (omega arith, (omega arith, (omega arith, (omega arith, tt))))
scalar_is_text k (boolean false) form h = ascii_text (codes "false") (omega arith, (omega arith, (omega arith, (omega arith, (omega arith, tt)))))
scalar_is_text k (whole n) form h = let s = scalar_kind k (whole n) h in signed_text n (few_digits n (whole_fits s.0 n s.2))
scalar_is_text k (text t) form h = let s = scalar_kind k (text t) h in text_is_utf8 s.0 t s.2
scalar_is_text k (bytes b) form h = blob_text_is_utf8 b
scalar_is_text k (decimal_value m e) form h =
    let s = scalar_kind k (decimal_value m e) h in
    let fits = decimal_fits s.0 m e s.2 in
    IsUtf8-append (signed_decimal m) (exponent_text e) (signed_text m (few_digits m fits.0)) (exponent_is_text e (small_exponent e fits.1))
scalar_is_text k (instant n) form h = let s = scalar_kind k (instant n) h in written_text form n (instant_fits s.0 n s.2) (date_text (format_of form) n) refl

-- ---- leaves

abbrev pub IsText : Leaf → Type 0
IsText l = IsUtf8 l.text

abbrev AreTexts : List Leaf → Type 0
AreTexts ls = AllByRecursion IsText ls

texts_under : (p : Path) (ls : List Leaf) → AreTexts ls → AreTexts (under p ls)
texts_under p ls h = each_map IsText (λ (l : Leaf). record l { path = p ++ l.path }) ls h

texts_numbered : (i : ℕ) (parts : List (List Leaf)) → AllByRecursion AreTexts parts → AreTexts (numbered i parts)
texts_numbered i [] h = tt
texts_numbered i (ls ∷ parts) h = each-append IsText (under (decimal i ∷ []) ls) (numbered (suc i) parts) (texts_under (decimal i ∷ []) ls h.0) (texts_numbered (suc i) parts h.1)

texts_or_empty : (stand : MemberRole) (ls : List Leaf) → AreTexts ls → AreTexts (or_empty stand ls)
texts_or_empty neither ls h = h
texts_or_empty member [] h = (ascii_text [] tt, tt)
texts_or_empty member (l ∷ ls) h = h
texts_or_empty flat_member [] h = (ascii_text [] tt, tt)
texts_or_empty flat_member (l ∷ ls) h = h

mutual
  pub leaves_are_texts : (site : Site) (stand : MemberRole) (v : Value) → IsWhole site v → AreTexts (leaves site stand v)
  leaves_are_texts site stand (scalar_value x) h = (scalar_is_text (kind_at site) x (form_at site) h.0, tt)
  leaves_are_texts site stand (list vs) h =
      texts_or_empty stand _ (texts_under _ (numbered 1 (element_leaves (element_of site) vs)) (texts_numbered 1 (element_leaves (element_of site) vs) (elements_are_texts (element_of site) vs h.2)))
  leaves_are_texts site stand (map es) h =
      let parts = entry_leaves (key_name site) (value_name site) (value_of site) es in
      texts_under _ (numbered 1 parts) (texts_numbered 1 parts (entries_are_texts (key_name site) (value_name site) (value_of site) es h.5))
  leaves_are_texts site stand (structure ms) h = members_are_texts site ms h.3
  leaves_are_texts site stand (union n v) h = texts_under _ _ (leaves_are_texts (member_of site n) _ v h.3)
  leaves_are_texts site stand null_element h = tt
  leaves_are_texts site stand (document_value d) h = tt

  elements_are_texts : (site : Site) (vs : Values) → WholeElements site vs → AllByRecursion AreTexts (element_leaves site vs)
  elements_are_texts site no_values h = tt
  elements_are_texts site (value v vs) h = (leaves_are_texts site neither v h.1, elements_are_texts site vs h.2)

  entries_are_texts : (key_part value_part : List ℕ) (site : Site) (es : MapEntries) → WholeEntries site es → AllByRecursion AreTexts (entry_leaves key_part value_part site es)
  entries_are_texts key_part value_part site no_map_entries h = tt
  entries_are_texts key_part value_part site (map_entry k v es) h =
      ((h.0, texts_under (value_part ∷ []) (leaves site neither v) (leaves_are_texts site neither v h.2)), entries_are_texts key_part value_part site es h.3)

  members_are_texts : (site : Site) (ms : MemberValues) → WholeMembers site ms → AreTexts (member_leaves site ms)
  members_are_texts site no_member_values h = tt
  members_are_texts site (member_value n v ms) h =
      each-append IsText _ (member_leaves site ms) (texts_under _ _ (leaves_are_texts (member_of site n) _ v h.1)) (members_are_texts site ms h.2)
