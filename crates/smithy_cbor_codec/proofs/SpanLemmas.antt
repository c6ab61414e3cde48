-- A string that is borrowed ends where its item does.
use Rattle.std.proofs.Common.{◌≡◌, ◌≤◌, ◌+◌, ◌-◌, ℕ, List, [], ◌∷◌, ◌++◌, length, take, drop, Some, Result, Ok, Err, IfOk, String, string_bytes, sym, ap, ◌∙◌, arith, subst, append_assoc, length-take}
use Rattle.std.specs.Prelude.{slice_range, IsUtf8}
use Rattle.std.specs.List.{list_all, concat}
use Rattle.std.specs.Str.{is_utf8}
use Rattle.std.specs.Cow.{cow_str_bytes}
use Rattle.std.specs.declared.alloc.AllocError.{AllocError}
use Rattle.std.specs.declared.borrow.CowStr.{CowStr}
use Rattle.cbor_item.specs.Item.{Item, Extent, definite, byte_string, text_string}
use Rattle.cbor_item.specs.WellFormed.{IsString, IsItemAt}
use Rattle.smithy_shapes.specs.Lemmas.Options.{same_some, chosen}
use Rattle.smithy_schema.specs.declared.spans.TextSpan.TheVariants as texts
use Rattle.smithy_schema.specs.Spans.{IsTextIn, IsTextBetween}
use Rattle.smithy_cbor.specs.Scalar.{joined_text, text_of, bytes_of}
use Rattle.smithy_cbor_values.specs.Borrowed.{BorrowsText, BorrowsBytes}
use Rattle.smithy_cbor_values.specs.Private.Fits.{text_is_utf8}
use Rattle.smithy_cbor_values.specs.Private.ItemPlaces.{item_ahead, one_item}
use Rattle.smithy_cbor_values.specs.Private.ScalarAtPlace.{HasTextAt, IsBlobAt}
use Rattle.smithy_cbor_values.specs.Private.Slices.{rest_length, slices_part}
use Rattle.smithy_cbor_codec.specs.Private.Spans.{IsMeantUpTo}

-- these bytes stand in the input, and end there, behind this place
pub record EndsAt (string input : List ℕ) (at e : ℕ) : Type 0 where
  pub inside : at + length string ≤ e
  pub within : e ≤ length input
  pub stands : take (length string) (drop (e - length string) input) ≡ string

-- a definite string is a head, and its bytes behind it
behind_head : (major : ℕ) (chunks : List (List ℕ)) (bytes : List ℕ) → IsString major definite chunks bytes → (head : List ℕ) × (bytes ≡ head ++ concat chunks)
behind_head major [] bytes (one, are) = absurd (omega (arith, one))
behind_head major (chunk ∷ []) bytes (one, (first, rest, (head, is, spelled), none, whole)) =
    (head, whole ∙ ap (λ s. first ++ s) none ∙ ap (λ s. s ++ []) spelled ∙ append_assoc head chunk [])
behind_head major (chunk ∷ other ∷ chunks) bytes (one, are) = absurd (omega (arith, one))

-- what a part of an input ends with ends where it does
ends_with : (input front string : List ℕ) (at e : ℕ) → at ≤ e → e ≤ length input → slice_range input at e ≡ front ++ string → EndsAt string input at e
ends_with input front string at e up within is =
    let parts = slices_part front string input at e up within is in
    let size : length string ≡ e - parts.middle =
    omega (arith, parts.on, within, ap length parts.more_is, length-take (e - parts.middle) (drop parts.middle input), rest_length input parts.middle) in
    let place : e - length string ≡ parts.middle = omega (arith, size, parts.on) in
    record {
      inside = omega (arith, size, parts.up, parts.on);
      within = within;
      stands = ap (λ n. take (length string) (drop n input)) place ∙ ap (λ n. take n (drop parts.middle input)) size ∙ parts.more_is;
    }

-- so does a definite string
string_ends : (x : Item) (major : ℕ) (chunks : List (List ℕ)) (input : List ℕ) (at e : ℕ) → IsItemAt x input at e → IsString major definite chunks (slice_range input at e)
    → EndsAt (concat chunks) input at e
string_ends x major chunks input at e there string =
    let ahead = item_ahead x input at e there in
    let head = behind_head major chunks (slice_range input at e) string in
    ends_with input head.0 (concat chunks) at e (omega (arith, ahead)) there.0 head.1

text_joined : (chunks : List (List ℕ)) (text : List ℕ) → joined_text chunks ≡ Some text → concat chunks ≡ text
text_joined chunks text h = same_some (concat chunks) text (chosen (list_all is_utf8 chunks) (Some (concat chunks)) text h).1

definite_text : (input : List ℕ) (at e : ℕ) (text : List ℕ) (extent : Extent) (chunks : List (List ℕ)) → extent ≡ definite → IsItemAt (text_string extent chunks) input at e
    → HasTextAt text input at e → EndsAt text input at e
definite_text input at e text extent chunks is stands h =
    let there : IsItemAt (text_string definite chunks) input at e = subst (λ extent. IsItemAt (text_string extent chunks) input at e) is stands in
    let same = (one_item (text_string definite chunks) h.found input at e e there h.stands).0 in
    subst (λ s. EndsAt s input at e) (text_joined chunks text (ap text_of same ∙ h.is)) (string_ends (text_string definite chunks) 3 chunks input at e there there.1)

-- a text that is borrowed
pub borrowed_text : (input text : List ℕ) (at e : ℕ) (is_borrowed : Type 0) → BorrowsText input at is_borrowed e → HasTextAt text input at e → is_borrowed → EndsAt text input at e
borrowed_text input text at e is_borrowed borrows h is = definite_text input at e text borrows.extent borrows.chunks (borrows.borrowed.0 is) borrows.stands h

-- and its place
pub placed_text : (input text : List ℕ) (at e : ℕ) (is_borrowed : Type 0) → BorrowsText input at is_borrowed e → HasTextAt text input at e → is_borrowed
    → (take (length text) (drop (e - length text) input) ≡ text) × IsTextIn input (e - length text) (length text) × IsTextBetween at e (texts.Placed (e - length text) (length text))
placed_text input text at e is_borrowed borrows h is =
    let ends = borrowed_text input text at e is_borrowed borrows h is in (
      ends.stands,
      record {
        within = omega (arith, ends.inside, ends.within);
        text = subst IsUtf8 (sym ends.stands) (text_is_utf8 h.found text h.is);
      },
      (omega (arith, ends.inside), omega (arith, ends.inside)),
    )

-- a text in memory of its own is meant wherever its item stands
pub owned_text : {A B : Type 0} (e : ℕ) (text : CowStr A) (found : Result (String B) AllocError) → IfOk found (λ s. string_bytes s ≡ cow_str_bytes text)
    → IfOk found (IsMeantUpTo (λ input s. string_bytes s) (λ input s. Unit {0}) (λ from to s. Unit {0}) text e)
owned_text e text (Ok s) is = λ input at borrows h. (is, tt, tt)
owned_text e text (Err error) is = tt

-- bytes that are borrowed
pub borrowed_bytes : (input blob : List ℕ) (at depth e : ℕ) (are_borrowed : Type 0) → BorrowsBytes input at are_borrowed e → IsBlobAt blob input at depth e → are_borrowed → EndsAt blob input at e
borrowed_bytes input blob at depth e are_borrowed borrows h are =
    let chunks = borrows.chunks in
    let there : IsItemAt (byte_string definite chunks) input at e = subst (λ extent. IsItemAt (byte_string extent chunks) input at e) (borrows.borrowed.0 are) borrows.stands in
    let same = (one_item (byte_string definite chunks) h.found input at e e there h.stands).0 in
    subst (λ s. EndsAt s input at e) (same_some (concat chunks) blob (ap bytes_of same ∙ h.is)) (string_ends (byte_string definite chunks) 2 chunks input at e there there.1)
