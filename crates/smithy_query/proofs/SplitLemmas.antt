-- A form, cut into its pairs, gives Action, Version and the further pairs.
use Rattle.std.proofs.Common.{◌≡◌, ◌≢◌, ◌≤◌, ℕ, Bool, true, false, not, List, [], ◌∷◌, ◌++◌, length, map, All, codes, refl, sym, ap, append_assoc, ◌∙◌, arith}
use Rattle.std.specs.List.{AllByRecursion, flat_map, slice_split, before_first, after_first, position_or_len}
use Rattle.std.specs.Str.{byte}
use Rattle.std.proofs.lemmas.Bool.Decides.{nat_tests}
use Rattle.std.proofs.lemmas.List.{append-nil}
use Rattle.std.proofs.lemmas.List.Elements.{All-append, All-cons, All-nil, All-head, All-tail, All-weaker}
use Rattle.std.proofs.lemmas.List.Splits.{slice_split_none, slice_split_at}
use Rattle.std.proofs.Math.Seq.{take-append_seam, drop-append-add}
use Rattle.percent_encoding.specs.AsciiSet.{should_percent_encode}
use Rattle.percent_encoding.specs.Percent.{percent_decode}
use Rattle.percent_encoding.proofs.PercentLemmas.{IsByte, IsEscapeByte, All-percent_encode, percent_decode-nil, percent_decode_not_percent, round_trip}
use Rattle.smithy_query.specs.declared.percent.TheConstants.{FORM_SET}
use Rattle.smithy_query.specs.Percent.{is_unreserved, encoded}
use Rattle.smithy_query.specs.Form.{Pair, pair_text, form_head, form}
use Rattle.smithy_query.specs.Split.{is_ampersand, is_equals, pair_of, pairs_of}
use Rattle.smithy_query.proofs.PercentLemmas.{escapes_others, encode_form}

-- ---- bytes

-- a byte that can stand in a path: none that cuts a form, and none that begins an escape
pub record IsPathByte (b : ℕ) : Type 0 where
  pub no_ampersand : is_ampersand b ≡ false
  pub no_equals : is_equals b ≡ false
  pub no_percent : b ≢ 37

unreserved_cuts_nothing : (b : ℕ) → is_unreserved b ≡ true → is_ampersand b ≡ false
unreserved_cuts_nothing b h = grind (arith, nat_tests)

not_false : (b : Bool) → not b ≡ false → b ≡ true
not_false true h = refl
not_false false h = cc

kept_cuts_nothing : (b : ℕ) → should_percent_encode FORM_SET b ≡ false → is_ampersand b ≡ false
kept_cuts_nothing b kept = unreserved_cuts_nothing b (not_false (is_unreserved b) (sym (escapes_others b) ∙ kept))

escape_cuts_nothing : (b : ℕ) → IsEscapeByte b → is_ampersand b ≡ false
escape_cuts_nothing b h = grind (arith, nat_tests)

encoded_cuts_nothing : (t : List ℕ) → All (λ b. is_ampersand b ≡ false) (encoded t)
encoded_cuts_nothing t = rw (← encode_form t) (All-percent_encode (λ b. is_ampersand b ≡ false) FORM_SET t kept_cuts_nothing escape_cuts_nothing)

-- a text comes back
pub decode_text : (t : List ℕ) → All IsByte t → percent_decode (encoded t) ≡ t
decode_text t small = rw (← encode_form t) (round_trip FORM_SET t refl small)

-- a path stays
decode_path : (s : List ℕ) → All IsPathByte s → percent_decode s ≡ s
decode_path [] h = percent_decode-nil
decode_path (b ∷ s) h =
    percent_decode_not_percent b s (All-head IsPathByte b s h).no_percent
    ∙ ap (λ x. b ∷ x) (decode_path s (All-tail IsPathByte b s h))

-- ---- pairs

abbrev piece : List ℕ → List ℕ → List ℕ
piece path text = path ++ byte "=" ∷ encoded text

abbrev piece_of : Pair → List ℕ
piece_of p = piece p.path p.text

equals_at : (path rest : List ℕ) → All IsPathByte path → position_or_len is_equals (path ++ byte "=" ∷ rest) ≡ length path
equals_at [] rest h = refl
equals_at (b ∷ path) rest h =
    let more = equals_at path rest (All-tail IsPathByte b path h) in
    rw ((All-head IsPathByte b path h).no_equals, more) (omega arith)

piece_pair : (path text : List ℕ) → All IsPathByte path → All IsByte text → pair_of (piece path text) ≡ (path, text)
piece_pair path text h small =
    let at = equals_at path (encoded text) h in
    let before : before_first is_equals (piece path text) ≡ path = rw at (take-append_seam path (byte "=" ∷ encoded text)) in
    let after : after_first is_equals (piece path text) ≡ encoded text = rw at (drop-append-add path (byte "=" ∷ encoded text) 1) in
    rw (before, after, decode_path path h, decode_text text small) refl

piece_whole : (path text : List ℕ) → All IsPathByte path → All (λ b. is_ampersand b ≡ false) (piece path text)
piece_whole path text h =
    All-append (λ b. is_ampersand b ≡ false) path (byte "=" ∷ encoded text)
    (All-weaker IsPathByte (λ b. is_ampersand b ≡ false) (λ b hb. hb.no_ampersand) path h)
    (All-cons (λ b. is_ampersand b ≡ false) (byte "=") (encoded text) refl (encoded_cuts_nothing text))

-- ---- the form

-- the path can be told from what stands around it, and the text is one of bytes
abbrev pub IsReadable : Pair → Type 0
IsReadable p = All IsPathByte p.path × All IsByte p.text

abbrev further_text : List Pair → List ℕ
further_text pairs = flat_map (λ (p : Pair). pair_text p.path p.text) pairs

split_pairs : (x : List ℕ) (pairs : List Pair) → All (λ b. is_ampersand b ≡ false) x → AllByRecursion IsReadable pairs
    → slice_split is_ampersand (x ++ further_text pairs) ≡ x ∷ map piece_of pairs
split_pairs x [] hx h = rw (append-nil x) (slice_split_none is_ampersand x hx)
split_pairs x (p ∷ pairs) hx h =
    slice_split_at is_ampersand x (byte "&") (piece p.path p.text ++ further_text pairs) hx refl
    ∙ ap (λ ps. x ∷ ps) (split_pairs (piece p.path p.text) pairs (piece_whole p.path p.text h.0.0) h.1)

read_pairs : (pairs : List Pair) → AllByRecursion IsReadable pairs → map pair_of (map piece_of pairs) ≡ map (λ (p : Pair). (p.path, p.text)) pairs
read_pairs [] h = refl
read_pairs (p ∷ pairs) h = rw (piece_pair p.path p.text h.0.0 h.0.1, read_pairs pairs h.1) refl

path_byte : (b : ℕ) → 64 ≤ b → IsPathByte b
path_byte b high = record {
  no_ampersand = grind (arith, nat_tests);
  no_equals = grind (arith, nat_tests);
  no_percent = λ is. omega (arith, is, high);
}

letters_path : (s : List ℕ) → AllByRecursion (λ b. 64 ≤ b) s → All IsPathByte s
letters_path [] h = All-nil IsPathByte
letters_path (b ∷ s) h = All-cons IsPathByte b s (path_byte b h.0) (letters_path s h.1)

action_path : All IsPathByte (codes "Action")
action_path = letters_path (codes "Action") (omega arith, (omega arith, (omega arith, (omega arith, (omega arith, (omega arith, tt))))))

version_path : All IsPathByte (codes "Version")
version_path = letters_path (codes "Version") (omega arith, (omega arith, (omega arith, (omega arith, (omega arith, (omega arith, (omega arith, tt)))))))

apart : (action version : List ℕ) (pairs : List Pair)
    → form action version pairs ≡ piece (codes "Action") action ++ byte "&" ∷ (piece (codes "Version") version ++ further_text pairs)
apart action version pairs =
    ap (λ x. codes "Action=" ++ x) (append_assoc (encoded action) (byte "&" ∷ piece (codes "Version") version) (further_text pairs))

pub pairs_of_form : (action version : List ℕ) (pairs : List Pair) → All IsByte action → All IsByte version → AllByRecursion IsReadable pairs
    → pairs_of (form action version pairs)
    ≡ (codes "Action", action) ∷ (codes "Version", version) ∷ map (λ (p : Pair). (p.path, p.text)) pairs
pairs_of_form action version pairs ha hv h =
    let last = piece (codes "Version") version ++ further_text pairs in
    let pieces : slice_split is_ampersand (form action version pairs)
    ≡ piece (codes "Action") action ∷ piece (codes "Version") version ∷ map piece_of pairs =
    ap (slice_split is_ampersand) (apart action version pairs)
    ∙ slice_split_at is_ampersand (piece (codes "Action") action) (byte "&") last (piece_whole (codes "Action") action action_path) refl
    ∙ ap (λ ps. piece (codes "Action") action ∷ ps) (split_pairs (piece (codes "Version") version) pairs (piece_whole (codes "Version") version version_path) h) in
    rw (pieces, piece_pair (codes "Action") action action_path ha, piece_pair (codes "Version") version version_path hv, read_pairs pairs h) refl

-- the beginning of a form by itself
pub pairs_of_head : (action version : List ℕ) → All IsByte action → All IsByte version
    → pairs_of (form_head action version) ≡ (codes "Action", action) ∷ (codes "Version", version) ∷ []
pairs_of_head action version ha hv =
    ap pairs_of (sym (append-nil (form_head action version))) ∙ pairs_of_form action version [] ha hv tt
