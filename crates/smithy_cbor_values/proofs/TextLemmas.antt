-- What stands at a place as a text or as bytes, and where none does.
use Rattle.std.proofs.Common.{◌≡◌, ℕ, suc, zero, List, [], ◌∷◌, ◌++◌, drop, sym, ◌∙◌, ap, subst, arith, refl, Some, None, Bool, true, false}
use Rattle.std.specs.Prelude.{slice_range, All, IsUtf8, if◌then◌else◌}
use Rattle.std.specs.List.{concat, list_all}
use Rattle.std.specs.Str.{is_utf8}
use Rattle.std.proofs.lemmas.Bool.{and_parts}
use Rattle.std.proofs.lemmas.Str.{IsUtf8-from_is_utf8, is_utf8-from_IsUtf8}
use Rattle.cbor_item.specs.declared.error.ItemError.{ItemError}
use Rattle.cbor_item.specs.declared.error.ItemError.TheVariants as item
use Rattle.cbor_item.specs.Head.{HeadRead, BeginsWithHead}
use Rattle.cbor_item.specs.Item.{Item, Extent, unsigned, negative, byte_string, text_string, array, map, tag, simple, float}
use Rattle.cbor_item.specs.WellFormed.{IsItemAt, IsEncodingOf}
use Rattle.cbor_item.specs.Fault.{IsStringFault}
use Rattle.cbor_item.specs.Strings.{IsTextFault}
use Rattle.cbor_item.proofs.FirstByte.{item_major, major_of, not_empty}
use Rattle.cbor_item.proofs.HeadLemmas.{head_is_only}
use Rattle.smithy_shapes.specs.Lemmas.Options.{same_some}
use Rattle.smithy_cbor.specs.Scalar.{joined_text, text_of, bytes_of}
use Rattle.smithy_cbor_values.specs.Private.ScalarAtPlace.{HasTextAt, IsBlobAt}
use Rattle.smithy_cbor_values.specs.Private.ItemPlaces.{item_front, one_item}

-- ---- texts

all_pass : (chunks : List (List ℕ)) → All IsUtf8 chunks → list_all is_utf8 chunks ≡ true
all_pass [] h = refl
all_pass (c ∷ cs) h = rw (is_utf8-from_IsUtf8 c (h 0 [] (omega arith)), all_pass cs (λ k d inside. h (suc k) d (omega arith))) refl

all_utf8 : (chunks : List (List ℕ)) → list_all is_utf8 chunks ≡ true → All IsUtf8 chunks
all_utf8 [] h k d inside = absurd (omega arith)
all_utf8 (c ∷ cs) h zero d inside = IsUtf8-from_is_utf8 c (and_parts (is_utf8 c) (list_all is_utf8 cs) h).0
all_utf8 (c ∷ cs) h (suc k) d inside = all_utf8 cs (and_parts (is_utf8 c) (list_all is_utf8 cs) h).1 k d (omega arith)

-- the text of chunks that are UTF-8
pub joined_is : (chunks : List (List ℕ)) → All IsUtf8 chunks → joined_text chunks ≡ Some (concat chunks)
joined_is chunks utf8 = rw (all_pass chunks utf8) refl

-- chunks that have a text are UTF-8
joined_utf8 : (chunks : List (List ℕ)) (text : List ℕ) → joined_text chunks ≡ Some text → All IsUtf8 chunks
joined_utf8 chunks text h = go (list_all is_utf8 chunks) refl h
  where
    go : (test : Bool) → list_all is_utf8 chunks ≡ test → (if test then Some (concat chunks) else None) ≡ Some text → All IsUtf8 chunks
    go true is e = all_utf8 chunks is
    go false is e = absurd (let none : None ≡ Some text = e in cc)

-- an item that has a text is a text string
text_is : (i : Item) (text : List ℕ) → text_of i ≡ Some text → (extent : Extent) × (chunks : List (List ℕ)) × (i ≡ text_string extent chunks) × (joined_text chunks ≡ Some text)
text_is (text_string extent chunks) text h = (extent, chunks, refl, h)
text_is (unsigned n) text h = absurd (cc)
text_is (negative n) text h = absurd (cc)
text_is (byte_string extent chunks) text h = absurd (cc)
text_is (array extent is) text h = absurd (cc)
text_is (map extent ps) text h = absurd (cc)
text_is (tag n i) text h = absurd (cc)
text_is (simple n) text h = absurd (cc)
text_is (float digits) text h = absurd (cc)

text_major : (extent : Extent) (chunks : List (List ℕ)) → major_of (text_string extent chunks) ≡ 3
unfolding major_of
text_major extent chunks = refl

-- the first byte tells the type of the head
head_major : (i : Item) (first rest : List ℕ) (h : HeadRead) → IsEncodingOf i first → BeginsWithHead (first ++ rest) h → h.major ≡ major_of i
head_major i [] rest h encoded begins = absurd (not_empty i encoded)
head_major i (b ∷ first) rest h encoded begins =
    ap (λ (k : HeadRead). k.major) (head_is_only b (first ++ rest) h begins) ∙ item_major i b first encoded

-- an item begins with no head of another type
pub major_at : (i : Item) (input : List ℕ) (at e : ℕ) (h : HeadRead) → IsItemAt i input at e → BeginsWithHead (drop at input) h → h.major ≡ major_of i
major_at i input at e h there begins =
    head_major i (slice_range input at e) (drop e input) h there.1
    (subst (λ (l : List ℕ). BeginsWithHead l h) (item_front i input at e there) begins)

-- where no text can be read, for another cause than want of memory, none stands
pub no_text_at : (input : List ℕ) (at : ℕ) (error : ItemError) → (error ≡ item.NoMemory → ⊥) → IsTextFault input at error → (text : List ℕ) (e : ℕ) → HasTextAt text input at e → ⊥
no_text_at input at item.Truncated told fault text e h = fault.1.0 h.found e h.stands
no_text_at input at item.NotWellFormed told fault text e h = fault.1.0 h.found e h.stands
no_text_at input at item.WrongType told fault text e h =
    let t = text_is h.found text h.is in
    fault.2 (major_at h.found input at e fault.0 h.stands fault.1 ∙ ap major_of t.2 ∙ text_major t.0 t.1)
no_text_at input at item.InvalidUtf8 told (extent, chunks, end, there, bad) text e h =
    let same = one_item h.found (text_string extent chunks) input at e end h.stands there in
    bad (joined_utf8 chunks text (sym (ap text_of same.0) ∙ h.is))
no_text_at input at item.NoMemory told fault text e h = absurd (told refl)

-- a text that stands there has one end, and no other text stands there
pub one_text_at : (input : List ℕ) (at : ℕ) (text other : List ℕ) (e f : ℕ) → HasTextAt text input at e → HasTextAt other input at f → (text ≡ other) × (e ≡ f)
one_text_at input at text other e f h k =
    let same = one_item h.found k.found input at e f h.stands k.stands in
    (same_some text other (sym h.is ∙ ap text_of same.0 ∙ k.is), same.1)

-- ---- bytes

-- an item that has bytes is a byte string
bytes_is : (i : Item) (blob : List ℕ) → bytes_of i ≡ Some blob → (extent : Extent) × (chunks : List (List ℕ)) × (i ≡ byte_string extent chunks)
bytes_is (byte_string extent chunks) blob h = (extent, chunks, refl)
bytes_is (unsigned n) blob h = absurd (cc)
bytes_is (negative n) blob h = absurd (cc)
bytes_is (text_string extent chunks) blob h = absurd (cc)
bytes_is (array extent is) blob h = absurd (cc)
bytes_is (map extent ps) blob h = absurd (cc)
bytes_is (tag n i) blob h = absurd (cc)
bytes_is (simple n) blob h = absurd (cc)
bytes_is (float digits) blob h = absurd (cc)

bytes_major : (extent : Extent) (chunks : List (List ℕ)) → major_of (byte_string extent chunks) ≡ 2
unfolding major_of
bytes_major extent chunks = refl

-- where no bytes can be read, for another cause than want of memory, none stand
pub no_blob_at : (input : List ℕ) (at : ℕ) (error : ItemError) → (error ≡ item.NoMemory → ⊥) → IsStringFault 2 input at error → (blob : List ℕ) (depth e : ℕ) → IsBlobAt blob input at depth e → ⊥
no_blob_at input at item.Truncated told fault blob depth e h = fault.1.0 h.found e h.stands
no_blob_at input at item.NotWellFormed told fault blob depth e h = fault.1.0 h.found e h.stands
no_blob_at input at item.WrongType told fault blob depth e h =
    let b = bytes_is h.found blob h.is in
    fault.2 (major_at h.found input at e fault.0 h.stands fault.1 ∙ ap major_of b.2 ∙ bytes_major b.0 b.1)
no_blob_at input at item.InvalidUtf8 told fault blob depth e h = absurd fault.1
no_blob_at input at item.NoMemory told fault blob depth e h = absurd (told refl)

-- bytes that stand there have one end
pub same_blob_end : (input : List ℕ) (at : ℕ) (blob : List ℕ) (x : Item) (depth e end : ℕ) → IsBlobAt blob input at depth e → IsItemAt x input at end → e ≡ end
same_blob_end input at blob x depth e end h there = (one_item h.found x input at e end h.stands there).1
