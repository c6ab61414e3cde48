-- Keys and values of an error body in CBOR, and what stands in their place.
use Rattle.std.proofs.Common.{◌≡◌, inl, inr, ℕ, zero, suc, ◌-◌, ◌<◌, ◌≤◌, ◌==◌, ◌&&◌, ◌||◌, List, [], ◌∷◌, ◌++◌, drop, length, All, IsUtf8, Bool, true, false, Option, Some, None, refl, sym, ap, ◌∙◌, subst, arith, if◌then◌else◌, slice_range}
use Rattle.std.proofs.lemmas.Str.{IsUtf8-from_is_utf8, is_utf8-from_IsUtf8}
use Rattle.std.specs.List.{concat, list_all}
use Rattle.std.specs.Str.{is_utf8}
use Rattle.std.specs.Cow.{cow_str_bytes}
use Rattle.std.specs.declared.borrow.CowStr.{CowStr}
use Rattle.cbor_item.specs.declared.error.ItemError.{ItemError}
use Rattle.cbor_item.specs.declared.error.ItemError.TheVariants.{Truncated, NotWellFormed, WrongType, InvalidUtf8, NoMemory}
use Rattle.cbor_item.specs.Head.{HeadRead, BeginsWithHead}
use Rattle.cbor_item.specs.Item.{Extent, Item, unsigned, negative, byte_string, text_string, array, map as map_item, tag, simple, float, Pairs, no_pairs, pair}
use Rattle.cbor_item.specs.WellFormed.{IsEncodingOf, IsItemAt, HoldsOneItem, break}
use Rattle.cbor_item.specs.Strings.{IsTextAt, IsTextFault}
use Rattle.cbor_item.specs.Fault.{BeginsOtherwise}
use Rattle.cbor_item.proofs.FirstByte.{item_major, major_of, not_empty as never_empty}
use Rattle.cbor_item.proofs.HeadLemmas.{head_is_only, opening_begins}
use Rattle.smithy_cbor.specs.declared.error.DecodeKind.{DecodeKind}
use Rattle.smithy_cbor.specs.declared.error.DecodeKind.TheVariants as kinds
use Rattle.smithy_cbor.specs.Kind.{kind_of_item_error}
use Rattle.smithy_cbor.specs.Reading.{IsTextOf, IsKindOf, IsHeadFault, IsOfType, IsBreakHead, OpensAt}
use Rattle.smithy_cbor_values.specs.Standing.{mark_with, begins_with, HasEntry, IsOver}
use Rattle.smithy_cbor_values.specs.Private.ItemPlaces.{item_front, item_ahead, one_item}
use Rattle.smithy_cbor_values.specs.Private.FirstBytes.{no_break_at, byte_front}
use Rattle.smithy_cbor_values.specs.Private.ContainerBytes.{same_opens_at}
use Rattle.smithy_cbor_values.specs.Private.MapPlaces.{PairsLie, pairs_map, map_pairs}
use Rattle.smithy_cbor_values.proofs.HeadFaults.{no_wanted_head, no_opening}
use Rattle.smithy_error_bodies.specs.Said.{Said, nothing_said, is_type, is_message, first_of}
use Rattle.smithy_error_bodies.specs.CborErrors.{is_key, is_under, text_of, is_readable, is_looked_at, is_pair, are_pairs, last_under, map_says, CborSays}
use Rattle.smithy_error_bodies.specs.Private.CborSteps.{key_of, key_of_item, kept, fits, with_text, with_pair, KeyAt, NoKey, ValueAt, NoValue, PairAt, NoPair, pairs_say, Told}
use Rattle.smithy_error_bodies.specs.declared.cbor.Key.{Key}
use Rattle.smithy_error_bodies.specs.declared.cbor.Key.TheVariants.{Kind, Message, Other}
use Rattle.smithy_error_bodies.proofs.JsonObjects.{no_type_else}

-- ---- chunks of UTF-8

all_utf8 : (chunks : List (List ℕ)) → All IsUtf8 chunks → list_all is_utf8 chunks ≡ true
all_utf8 [] all = refl
all_utf8 (chunk ∷ chunks) all =
    let first = is_utf8-from_IsUtf8 chunk (all 0 [] (omega arith)) in
    let rest = all_utf8 chunks (λ k d inside. all (suc k) d (omega arith)) in
    rw (first, rest) refl

utf8_front : (chunk : List ℕ) (chunks : List (List ℕ)) → IsUtf8 chunk → All IsUtf8 chunks → All IsUtf8 (chunk ∷ chunks)
utf8_front chunk chunks first more zero d inside = first
utf8_front chunk chunks first more (suc k) d inside = more k d (omega arith)

and_parts : (a b : Bool) → (a && b) ≡ true → (a ≡ true) × (b ≡ true)
and_parts true b h = (refl, h)
and_parts false b h = absurd (cc)

utf8_all : (chunks : List (List ℕ)) → list_all is_utf8 chunks ≡ true → All IsUtf8 chunks
utf8_all [] all = λ k d inside. absurd (omega arith)
utf8_all (chunk ∷ chunks) all =
    let parts = and_parts (is_utf8 chunk) (list_all is_utf8 chunks) all in
    utf8_front chunk chunks (IsUtf8-from_is_utf8 chunk parts.0) (utf8_all chunks parts.1)

not_utf8 : (chunks : List (List ℕ)) → (All IsUtf8 chunks → ⊥) → list_all is_utf8 chunks ≡ false
not_utf8 chunks not = go (list_all is_utf8 chunks) refl
  where
    go : (b : Bool) → list_all is_utf8 chunks ≡ b → b ≡ false
    go true is = absurd (not (utf8_all chunks is))
    go false is = refl

-- ---- what begins with another head is no text

text_begins : (extent : Extent) (chunks : List (List ℕ)) (s rest : List ℕ) (h : HeadRead) → IsEncodingOf (text_string extent chunks) s → BeginsWithHead (s ++ rest) h → h.major ≡ 3
unfolding major_of
text_begins extent chunks [] rest h encodes begins = absurd (never_empty (text_string extent chunks) encodes)
text_begins extent chunks (b ∷ s) rest h encodes begins =
    ap (λ (r : HeadRead). r.major) (head_is_only b (s ++ rest) h begins) ∙ item_major (text_string extent chunks) b s encodes

no_text : (extent : Extent) (chunks : List (List ℕ)) (input : List ℕ) (at end : ℕ) → BeginsOtherwise 3 (drop at input) → IsItemAt (text_string extent chunks) input at end → ⊥
no_text extent chunks input at end (h, begins, other) stands =
    other (text_begins extent chunks (slice_range input at end) (drop end input) h stands.1
    (subst (λ (l : List ℕ). BeginsWithHead l h) (item_front (text_string extent chunks) input at end stands) begins))

other_item : (k : Item) (input : List ℕ) (at end : ℕ) → BeginsOtherwise 3 (drop at input) → IsItemAt k input at end → (is_key k ≡ false) × (is_readable k ≡ true) × (text_of k ≡ None)
other_item (text_string extent chunks) input at end begins stands = absurd (no_text extent chunks input at end begins stands)
other_item (unsigned n) input at end begins stands = (refl, refl, refl)
other_item (negative n) input at end begins stands = (refl, refl, refl)
other_item (byte_string extent chunks) input at end begins stands = (refl, refl, refl)
other_item (array extent is) input at end begins stands = (refl, refl, refl)
other_item (map_item extent ps) input at end begins stands = (refl, refl, refl)
other_item (tag n i) input at end begins stands = (refl, refl, refl)
other_item (simple n) input at end begins stands = (refl, refl, refl)
other_item (float digits) input at end begins stands = (refl, refl, refl)

-- a text that isn't UTF-8
bad_text : (k : Item) (input : List ℕ) (at end : ℕ) → IsTextFault input at InvalidUtf8 → IsItemAt k input at end → (is_key k ≡ false) × (is_readable k ≡ false)
bad_text k input at end (extent, chunks, last, stands, bad) there =
    let same = (one_item k (text_string extent chunks) input at end last there stands).0 in
    let none = not_utf8 chunks bad in
    (ap is_key same ∙ none, ap is_readable same ∙ none)

-- ---- keys

pub key_stands : {A : Type 0} (input : List ℕ) (at end : ℕ) (text : CowStr A) (key : Key) → IsTextAt input at text end → key ≡ key_of (cow_str_bytes text) → KeyAt key input at end
key_stands input at end text key t is =
    (text_string t.extent t.chunks, t.stands, all_utf8 t.chunks t.utf8, is ∙ ap key_of t.joined)

pub no_key : (input : List ℕ) (at : ℕ) (kind : DecodeKind) → IsKindOf (IsTextFault input at) kind → (kind ≡ kinds.NoMemory → ⊥) → NoKey input at
no_key input at kind (e, is, fault) memory = go e is fault
  where
    go : (e : ItemError) → kind ≡ kind_of_item_error e → IsTextFault input at e → NoKey input at
    go Truncated is fault k end stands = absurd (fault.1.0 k end stands)
    go NotWellFormed is fault k end stands = absurd (fault.1.0 k end stands)
    go WrongType is fault k end stands = (other_item k input at end fault stands).0
    go InvalidUtf8 is fault k end stands = (bad_text k input at end fault stands).0
    go NoMemory is fault k end stands = absurd (memory is)

-- ---- values

pub text_stands : (input : List ℕ) (at end : ℕ) (text : List ℕ) → IsTextOf text input at end → ValueAt Kind (Some text) input at end
text_stands input at end text (extent, chunks, stands, utf8, joined) = (text_string extent chunks, stands, all_utf8 chunks utf8, ap Some joined)

pub other_stands : (input : List ℕ) (at end : ℕ) (kind : DecodeKind) → IsKindOf (IsTextFault input at) kind → kind ≡ kinds.WrongType → HoldsOneItem input at end → ValueAt Kind None input at end
other_stands input at end kind (e, is, fault) wrong one = go e is fault
  where
    go : (e : ItemError) → kind ≡ kind_of_item_error e → IsTextFault input at e → ValueAt Kind None input at end
    go WrongType is fault = let other = other_item one.value input at end fault one.encoded in (one.value, one.encoded, other.1, sym other.2)
    go Truncated is fault = absurd (cc)
    go NotWellFormed is fault = absurd (cc)
    go InvalidUtf8 is fault = absurd (cc)
    go NoMemory is fault = absurd (cc)

pub no_value : (input : List ℕ) (at : ℕ) (kind : DecodeKind) → IsKindOf (IsTextFault input at) kind → (kind ≡ kinds.NoMemory → ⊥) → (kind ≡ kinds.WrongType → ⊥) → NoValue Kind input at
no_value input at kind (e, is, fault) memory wrong = go e is fault
  where
    go : (e : ItemError) → kind ≡ kind_of_item_error e → IsTextFault input at e → NoValue Kind input at
    go Truncated is fault v end stands = absurd (fault.1.0 v end stands)
    go NotWellFormed is fault v end stands = absurd (fault.1.0 v end stands)
    go WrongType is fault v end stands = absurd (wrong is)
    go InvalidUtf8 is fault v end stands = (bad_text v input at end fault stands).1
    go NoMemory is fault v end stands = absurd (memory is)

-- ---- pairs

under_one : (k : Item) → is_under is_type k ≡ true → is_under is_message k ≡ false
under_one (text_string extent chunks) h = no_type_else (concat chunks) h
under_one (unsigned n) h = refl
under_one (negative n) h = refl
under_one (byte_string extent chunks) h = refl
under_one (array extent is) h = refl
under_one (map_item extent ps) h = refl
under_one (tag n i) h = refl
under_one (simple n) h = refl
under_one (float digits) h = refl

pub fits_pair : (k v : Item) → fits (key_of_item k) v ≡ (if is_looked_at k then is_readable v else true)
fits_pair k v = go (is_under is_type k) (is_under is_message k)
  where
    go : (a b : Bool) → fits (if a then Kind else if b then Message else Other) v ≡ (if a || b then is_readable v else true)
    go true b = refl
    go false true = refl
    go false false = refl

pub no_pair : (input : List ℕ) (at c : ℕ) (key : Key) → KeyAt key input at c → NoValue key input c → NoPair input at
no_pair input at c key (k, there, can, is) none = λ l v d end stands value.
    let same = one_item l k input at d c stands there in
    let no_fit = none v end (subst (λ (n : ℕ). IsItemAt v input n end) same.1 value) in
    let looked : (if is_looked_at l then is_readable v else true) ≡ false =
    sym (fits_pair l v) ∙ ap (λ x. fits (key_of_item x) v) same.0 ∙ ap (λ x. fits x v) (sym is) ∙ no_fit in
    ap (λ b. is_key l && b) looked ∙ last (is_key l)
  where
    last : (b : Bool) → (b && false) ≡ false
    last true = refl
    last false = refl

pub no_pair_without : (input : List ℕ) (at : ℕ) → NoKey input at → NoPair input at
no_pair_without input at none = λ k v c end stands value. ap (λ b. b && (if is_looked_at k then is_readable v else true)) (none k c stands)

pub pair_stands : (input : List ℕ) (at c end : ℕ) (key : Key) (text : Option (List ℕ)) (old new : Said) → KeyAt key input at c → ValueAt key text input c end → new ≡ with_text key text old
    → PairAt old new input at end
pair_stands input at c end key text old new (k, there, can, is) (v, value, fit, kept_is) made = (
  k,
  v,
  c,
  there,
  value,
  ap (λ b. b && (if is_looked_at k then is_readable v else true)) can ∙ sym (fits_pair k v) ∙ ap (λ x. fits x v) (sym is) ∙ fit,
  made ∙ ap (λ t. with_text key t old) kept_is ∙ ap (λ x. with_text x (kept x v) old) is,
)

-- ---- the rest of a map

-- this, where the test holds
abbrev gate : Bool → Option Said → Option Said
gate c r = if c then r else None

later : (a b c : Option (List ℕ)) → first_of (first_of a b) c ≡ first_of a (first_of b c)
later (Some a) b c = refl
later None b c = refl

-- what a pair adds under each kind of key
pair_parts : (k v : Item) (s : Said) → with_pair k v s
    ≡ record { code = first_of (if is_under is_type k then text_of v else None) s.code; message = first_of (if is_under is_message k then text_of v else None) s.message }
pair_parts k v s = go (is_under is_type k) (is_under is_message k) (under_one k)
  where
    go : (a b : Bool) → (a ≡ true → b ≡ false) → with_text (if a then Kind else if b then Message else Other) (kept (if a then Kind else if b then Message else Other) v) s
        ≡ record { code = first_of (if a then text_of v else None) s.code; message = first_of (if b then text_of v else None) s.message }
    go true b one = rw (one refl) refl
    go false true one = refl
    go false false one = refl

pair_said : (k v : Item) (ps : Pairs) (s : Said) → is_pair k v ≡ true → pairs_say s (pair k v ps) ≡ pairs_say (with_pair k v s) ps
pair_said k v ps s can =
    ap (λ b. gate (b && are_pairs ps) (Some (record { code = first_of (last_under is_type (pair k v ps)) s.code; message = first_of (last_under is_message (pair k v ps)) s.message }))) can
    ∙ ap (λ t. gate (are_pairs ps) (Some (record { code = t; message = first_of (last_under is_message (pair k v ps)) s.message })))
    (later (last_under is_type ps) (if is_under is_type k then text_of v else None) s.code)
    ∙ ap (λ t. gate (are_pairs ps) (Some (record { code = first_of (last_under is_type ps) (first_of (if is_under is_type k then text_of v else None) s.code); message = t })))
    (later (last_under is_message ps) (if is_under is_message k then text_of v else None) s.message)
    ∙ ap (λ u. gate (are_pairs ps) (Some (record { code = first_of (last_under is_type ps) u.code; message = first_of (last_under is_message ps) u.message }))) (sym (pair_parts k v s))

pair_wrong : (k v : Item) (ps : Pairs) (s : Said) → is_pair k v ≡ false → pairs_say s (pair k v ps) ≡ None
pair_wrong k v ps s cannot =
    ap (λ b. gate (b && are_pairs ps) (Some (record { code = first_of (last_under is_type (pair k v ps)) s.code; message = first_of (last_under is_message (pair k v ps)) s.message }))) cannot

-- a pair comes, and then what is told of the others is told of all
module _ (due more : Option ℕ) (s u : Said) (input : List ℕ) (at end : ℕ) (stands : PairAt s u input at end)
    (comes : HasEntry input at (mark_with due) (mark_with more)) (never_over : (e : ℕ) → IsOver input at (mark_with due) e → ⊥)
    (only : (n : _) → HasEntry input at (mark_with due) n → n ≡ mark_with more) where
  pub pair_told : (r : Option Said) → Told more u input end r → Told due s input at r
  pair_told (Some said) (ps, last, lie, says) =
      let (k, v, c, key, value, can, made) = stands in
      (pair k v ps, last, (mark_with more, c, end, comes, key, value, lie), pair_said k v ps s can ∙ ap (λ x. pairs_say x ps) (sym made) ∙ says)
  pair_told None told = none
    where
      none : (ps : Pairs) (last : ℕ) → PairsLie ps (mark_with due) input at last → pairs_say s ps ≡ None
      none no_pairs last over = absurd (never_over last over)
      none (pair l w ps) last (n, d, f, entry, key, value, lie) =
          let (k, v, c, there, behind, can, made) = stands in
          let keys = one_item l k input at d c key there in
          let values = one_item w v input c f end (subst (λ (x : ℕ). IsItemAt w input x f) keys.1 value) behind in
          let rest : PairsLie ps (mark_with more) input end last =
          subst (λ (x : ℕ). PairsLie ps (mark_with more) input x last) values.1 (subst (λ m. PairsLie ps m input f last) (only n entry) lie) in
          ap (λ x. pairs_say s (pair x w ps)) keys.0 ∙ ap (λ x. pairs_say s (pair k x ps)) values.0
          ∙ pair_said k v ps s can ∙ ap (λ x. pairs_say x ps) (sym made) ∙ told ps last rest

-- none can be read
pub none_told : (due : Option ℕ) (s : Said) (input : List ℕ) (at : ℕ) → NoPair input at → ((e : ℕ) → IsOver input at (mark_with due) e → ⊥) → Told due s input at None
none_told due s input at wrong never_over = none
  where
    none : (ps : Pairs) (last : ℕ) → PairsLie ps (mark_with due) input at last → pairs_say s ps ≡ None
    none no_pairs last over = absurd (never_over last over)
    none (pair l w ps) last (n, d, f, entry, key, value, lie) = pair_wrong l w ps s (wrong l w d f key value)

-- a pair begins in the input
pair_inside : (s u : Said) (input : List ℕ) (at end : ℕ) → PairAt s u input at end → at < length input
pair_inside s u input at end (k, v, c, key, value, can, made) = omega (arith, item_ahead k input at c key, key.0)

-- ---- by a number

pub counted_more : (n : ℕ) (s u : Said) (input : List ℕ) (at end : ℕ) → 0 < n → PairAt s u input at end → (r : Option Said) → Told (Some (n - 1)) u input end r → Told (Some n) s input at r
counted_more zero s u input at end some stands r told = absurd (omega (arith, some))
counted_more (suc n) s u input at end some stands r told =
    let less : suc n - 1 ≡ n = omega arith in
    pair_told (Some (suc n)) (Some n) s u input at end stands (pair_inside s u input at end stands, inl (n, refl, refl)) over only r (subst (λ (k : ℕ). Told (Some k) u input end r) less told)
  where
    over : (e : ℕ) → IsOver input at (mark_with (Some (suc n))) e → ⊥
    over e (inl h) = cc
    over e (inr h) = cc

    only : (m : _) → HasEntry input at (mark_with (Some (suc n))) m → m ≡ mark_with (Some n)
    only m (some, inl (count, due, is)) = let same : count ≡ n = cc in is ∙ ap (λ k. mark_with (Some k)) same
    only m (some, inr h) = absurd (let e = h.0 in cc)

pub counted_wrong : (n : ℕ) (s : Said) (input : List ℕ) (at : ℕ) → 0 < n → NoPair input at → Told (Some n) s input at None
counted_wrong zero s input at some wrong = absurd (omega (arith, some))
counted_wrong (suc n) s input at some wrong = none_told (Some (suc n)) s input at wrong over
  where
    over : (e : ℕ) → IsOver input at (mark_with (Some (suc n))) e → ⊥
    over e (inl h) = cc
    over e (inr h) = cc

same_said : (s : Said) → pairs_say s no_pairs ≡ Some s
same_said s = refl

pub counted_done : (n : ℕ) (s : Said) (input : List ℕ) (at : ℕ) → n ≡ 0 → Told (Some n) s input at (Some s)
counted_done n s input at none = (no_pairs, at, inl (ap Some none, refl), same_said s)

-- ---- up to a break

no_break : (input : List ℕ) (at : ℕ) → begins_with break (drop at input) ≡ true → (kind : DecodeKind) → IsKindOf (IsHeadFault IsBreakHead input at) kind → ⊥
no_break input at is kind (e, same, fault) =
    no_wanted_head IsBreakHead input at e (record { major = 7; argument = None; length = 1 }) fault
    (subst (λ (l : List ℕ). BeginsWithHead l (record { major = 7; argument = None; length = 1 })) (sym (byte_front break input at is)) (opening_begins 7 (drop (suc at) input) (inr refl))) (refl, refl)

pub open_more : (s u : Said) (input : List ℕ) (at end : ℕ) → PairAt s u input at end → (r : Option Said) → Told None u input end r → Told None s input at r
open_more s u input at end stands r told =
    pair_told None None s u input at end stands (pair_inside s u input at end stands, inr (refl, none, refl)) over only r told
  where
    none : begins_with break (drop at input) ≡ false
    none = no_break_at stands.0 input at stands.2 stands.3

    over : (e : ℕ) → IsOver input at (mark_with None) e → ⊥
    over e (inl h) = cc
    over e (inr h) = let none : begins_with break (drop at input) ≡ false = no_break_at stands.0 input at stands.2 stands.3 in cc

    only : (m : _) → HasEntry input at (mark_with None) m → m ≡ mark_with None
    only m (some, inl (count, due, is)) = absurd (cc)
    only m (some, inr h) = h.2

pub open_wrong : (s : Said) (input : List ℕ) (at : ℕ) (kind : DecodeKind) → NoPair input at → IsKindOf (IsHeadFault IsBreakHead input at) kind → Told None s input at None
open_wrong s input at kind wrong fault = none_told None s input at wrong over
  where
    over : (e : ℕ) → IsOver input at (mark_with None) e → ⊥
    over e (inl h) = cc
    over e (inr h) = no_break input at h.1 kind fault

first_is : (s : List ℕ) (rest : List ℕ) → s ≡ break ∷ rest → begins_with break s ≡ true
first_is s rest is = ap (begins_with break) is

pub open_done : (s : Said) (input : List ℕ) (at end : ℕ) → drop at input ≡ break ∷ drop end input → Told None s input at (Some s)
open_done s input at end is = (no_pairs, suc at, inr (refl, first_is (drop at input) (drop end input) is, refl), same_said s)

-- a pair ends behind its beginning
pub pair_ahead : (s u : Said) (input : List ℕ) (at end : ℕ) → PairAt s u input at end → (at < end) × (end ≤ length input)
pair_ahead s u input at end (k, v, c, key, value, can, made) = (omega (arith, item_ahead k input at c key, item_ahead v input c end value), value.0)

-- ---- the whole body

nothing_before : (a : Option (List ℕ)) → first_of a None ≡ a
nothing_before (Some a) = refl
nothing_before None = refl

all_said : (ps : Pairs) → pairs_say nothing_said ps ≡ map_says ps
all_said ps =
    ap (λ t. gate (are_pairs ps) (Some (record { code = t; message = first_of (last_under is_message ps) None }))) (nothing_before (last_under is_type ps))
    ∙ ap (λ t. gate (are_pairs ps) (Some (record { code = last_under is_type ps; message = t }))) (nothing_before (last_under is_message ps))

pub map_told : (body : List ℕ) (due : Option ℕ) (at : ℕ) (r : Option Said) → OpensAt 5 due body 0 at → Told due nothing_said body at r → CborSays body r
map_told [] due at r opens told = absurd (omega (arith, opens.0, opens.1.0))
map_told (b ∷ body) due at (Some said) opens (ps, end, lie, says) =
    let (extent, stands) = pairs_map due ps (b ∷ body) 0 at end opens lie in
    (extent, ps, end, stands, sym (all_said ps) ∙ says)
map_told (b ∷ body) due at None opens told = λ extent ps end stands.
    let (more, start, opened, lie) = map_pairs extent ps (b ∷ body) 0 end stands in
    let same = same_opens_at 5 more due (b ∷ body) 0 start at opened opens in
    sym (all_said ps) ∙ told ps end (subst (λ (x : ℕ). PairsLie ps (mark_with due) (b ∷ body) x end) same.0 (subst (λ (d : Option ℕ). PairsLie ps (mark_with d) (b ∷ body) start end) same.1 lie))

-- a body with a length has a first byte
pub not_empty : (body : List ℕ) → (length body == 0) ≡ false → body ≡ [] → ⊥
not_empty body some empty = let none : (length body == 0) ≡ true = ap (λ (l : List ℕ). length l == 0) empty in cc

pub no_map : (body : List ℕ) (kind : DecodeKind) → (body ≡ [] → ⊥) → IsKindOf (IsHeadFault (IsOfType 5) body 0) kind → CborSays body None
no_map [] kind some fault = absurd (some refl)
no_map (b ∷ body) kind some (e, same, fault) = λ extent ps end stands.
    let (due, start, opened, lie) = map_pairs extent ps (b ∷ body) 0 end stands in
    absurd (no_opening 5 (b ∷ body) 0 e fault due start opened)
