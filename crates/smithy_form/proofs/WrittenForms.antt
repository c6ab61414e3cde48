-- What is written for leaves, cut into its pairs again.
use Rattle.std.proofs.Common.{◌≡◌, ◌<◌, ◌+◌, ◌/◌, ◌%◌, ◌==◌, ℕ, suc, List, [], ◌∷◌, ◌++◌, length, take, drop, map as mapped, Bool, true, false, cond, Some, None, All, codes, refl, sym, ◌∙◌, ap, arith, append_assoc}
use Rattle.std.specs.Prelude.{IsUtf8}
use Rattle.std.specs.Char.{is_digit}
use Rattle.std.specs.Fmt.{digit_glyph}
use Rattle.std.specs.List.{AllByRecursion, flat_map, slice_split, position_or_len, list_any}
use Rattle.std.specs.Str.{byte}
use Rattle.std.proofs.lemmas.Bool.Decides.{nat_tests}
use Rattle.std.proofs.lemmas.List.{append-nil, length-append}
use Rattle.std.proofs.lemmas.List.Splits.{slice_split_none, slice_split_at}
use Rattle.std.proofs.lemmas.Str.{is_utf8-from_IsUtf8}
use Rattle.std.proofs.Math.Seq.{take-append_seam, drop-append-add}
use Rattle.percent_encoding.specs.Percent.{percent_decode, percent_encode_byte}
use Rattle.smithy_query.specs.Percent.{is_unreserved, encoded_byte, encoded}
use Rattle.smithy_query.specs.Form.{pair_text}
use Rattle.smithy_query.specs.Split.{is_ampersand, is_equals}
use Rattle.smithy_query.proofs.SplitLemmas.{decode_text}
use Rattle.smithy_declarations.specs.Names.{is_name_byte}
use Rattle.smithy_query_codec.specs.Leaves.{Path, Leaf}
use Rattle.smithy_query_codec.specs.Canonical.{path_text, pair_of_leaf, leaves_form}
use Rattle.smithy_query_codec.proofs.ByteLemmas.{utf8_bytes}
use Rattle.smithy_query_codec.proofs.PairLemmas.{each-append, each_weaker, each_all}
use Rattle.smithy_query_codec.proofs.SegmentLemmas.{IsNameText}
use Rattle.smithy_form.specs.Pairs.{leaf_pairs}
use Rattle.smithy_form.specs.Forms.{has_whole_escapes, spaced, side_text, pair_in, all_pairs, pairs_from, parted, parted_pairs, first_repeated, parts_of}
use Rattle.smithy_form.specs.Private.Splitting.{is_coded}
use Rattle.smithy_form.proofs.PercentForms.{stands_for_itself}
use Rattle.smithy_form.proofs.PieceLemmas.{by_sides, good_pair}
use Rattle.smithy_form.proofs.TextLeaves.{ascii_text}

-- ---- paths

-- a byte that cuts nothing and stands for itself
pub record IsQuiet (b : ℕ) : Type 0 where
  pub no_ampersand : is_ampersand b ≡ false
  pub no_equals : is_equals b ≡ false
  pub plain : is_coded b ≡ false
  pub small : b < 128

name_is_quiet : (b : ℕ) → is_name_byte b ≡ true → IsQuiet b
name_is_quiet b h = record {
  no_ampersand = grind (arith, nat_tests);
  no_equals = grind (arith, nat_tests);
  plain = grind (arith, nat_tests);
  small = grind (arith, nat_tests);
}

point_is_quiet : IsQuiet 46
point_is_quiet = record { no_ampersand = refl; no_equals = refl; plain = refl; small = omega arith }

segment_is_quiet : (s : List ℕ) → IsNameText s → AllByRecursion IsQuiet s
segment_is_quiet s h = each_weaker (λ b. is_name_byte b ≡ true) IsQuiet name_is_quiet s h

pub path_is_quiet : (p : Path) → AllByRecursion IsNameText p → AllByRecursion IsQuiet (path_text p)
path_is_quiet [] h = tt
path_is_quiet (s ∷ []) h = segment_is_quiet s h.0
path_is_quiet (s ∷ t ∷ p) h = each-append IsQuiet s (46 ∷ path_text (t ∷ p)) (segment_is_quiet s h.0) (point_is_quiet, path_is_quiet (t ∷ p) h.1)

none_coded : (s : List ℕ) → AllByRecursion IsQuiet s → list_any is_coded s ≡ false
none_coded [] h = refl
none_coded (b ∷ s) h = rw (h.0.plain, none_coded s h.1) refl

quiet_is_utf8 : (s : List ℕ) → AllByRecursion IsQuiet s → IsUtf8 s
quiet_is_utf8 s h = ascii_text s (each_weaker IsQuiet (λ b. b < 128) (λ b q. q.small) s h)

-- ---- encoded texts

glyph_is_digit : (d : ℕ) → d < 16 → is_digit (digit_glyph true d) 16 ≡ true
glyph_is_digit d small = grind (arith, nat_tests)

glyph_is_high : (d : ℕ) → d < 16 → 47 < digit_glyph true d
glyph_is_high d small = grind (arith, nat_tests)

-- what one byte is written as passes the reader's tests
pub record IsReadEncoded (written : List ℕ) : Type 0 where
  pub whole : (rest : List ℕ) → has_whole_escapes (written ++ rest) ≡ has_whole_escapes rest
  pub no_space : spaced written ≡ written
  pub no_ampersand : AllByRecursion (λ b. is_ampersand b ≡ false) written

kept_is_read : (b : ℕ) → is_unreserved b ≡ true → IsReadEncoded (b ∷ [])
kept_is_read b h =
    let percent : (b == 37) ≡ false = grind (arith, nat_tests) in
    let plus : (b == 43) ≡ false = grind (arith, nat_tests) in
    let ampersand : (b == 38) ≡ false = grind (arith, nat_tests) in record {
      whole = λ rest. by percent rest;
      no_space = rw plus refl;
      no_ampersand = (ampersand, tt);
    }
  where
    by : (b == 37) ≡ false → (rest : List ℕ) → has_whole_escapes (b ∷ rest) ≡ has_whole_escapes rest
    by h [] = rw h refl
    by h (c ∷ []) = rw h refl
    by h (c ∷ d ∷ more) = rw h refl

escape_is_read : (high low : ℕ) → is_digit high 16 ≡ true → is_digit low 16 ≡ true → 47 < high → 47 < low → IsReadEncoded (37 ∷ high ∷ low ∷ [])
escape_is_read high low first second above above_too =
    let plus : (high == 43) ≡ false = grind (arith, nat_tests) in
    let plus_too : (low == 43) ≡ false = grind (arith, nat_tests) in
    let ampersand : (high == 38) ≡ false = grind (arith, nat_tests) in
    let ampersand_too : (low == 38) ≡ false = grind (arith, nat_tests) in record {
      whole = λ rest. rw (first, second) refl;
      no_space = rw (plus, plus_too) refl;
      no_ampersand = (refl, (ampersand, (ampersand_too, tt)));
    }

byte_is_read : (b : ℕ) → IsReadEncoded (encoded_byte b)
unfolding percent_encode_byte
byte_is_read b = by (is_unreserved b) refl
  where
    by : (t : Bool) → is_unreserved b ≡ t → IsReadEncoded (cond t (b ∷ []) (percent_encode_byte b))
    by true is = kept_is_read b is
    by false is =
        escape_is_read (digit_glyph true (b / 16 % 16)) (digit_glyph true (b % 16)) (glyph_is_digit (b / 16 % 16) (omega arith)) (glyph_is_digit (b % 16) (omega arith))
        (glyph_is_high (b / 16 % 16) (omega arith)) (glyph_is_high (b % 16) (omega arith))

mapped-append : (f : ℕ → ℕ) (xs ys : List ℕ) → mapped f (xs ++ ys) ≡ mapped f xs ++ mapped f ys
mapped-append f [] ys = refl
mapped-append f (x ∷ xs) ys = ap (λ r. f x ∷ r) (mapped-append f xs ys)

pub text_is_read : (t : List ℕ) → (has_whole_escapes (encoded t) ≡ true) × (spaced (encoded t) ≡ encoded t) × AllByRecursion (λ b. is_ampersand b ≡ false) (encoded t)
text_is_read [] = (refl, refl, tt)
text_is_read (b ∷ t) =
    let one = byte_is_read b in
    let more = text_is_read t in (
      one.whole (encoded t) ∙ more.0,
      mapped-append (λ c. cond (c == 43) 32 c) (encoded_byte b) (encoded t) ∙ rw (one.no_space, more.1) refl,
      each-append (λ c. is_ampersand c ≡ false) (encoded_byte b) (encoded t) one.no_ampersand more.2,
    )

-- ---- sides and pieces

side_is : (side text : List ℕ) → percent_decode (spaced side) ≡ text → has_whole_escapes side ≡ true → IsUtf8 text → side_text side ≡ Some text
side_is side text decoded whole utf8 = rw (decoded, whole, is_utf8-from_IsUtf8 text utf8) refl

name_side : (s : List ℕ) → AllByRecursion IsQuiet s → side_text s ≡ Some s
name_side s h = let own = stands_for_itself s (none_coded s h) in side_is s s own.0 own.1 (quiet_is_utf8 s h)

text_side : (t : List ℕ) → IsUtf8 t → side_text (encoded t) ≡ Some t
text_side t utf8 =
    let read = text_is_read t in
    side_is (encoded t) t (ap percent_decode read.1 ∙ decode_text t (utf8_bytes t utf8)) read.0 utf8

abbrev piece : List ℕ → List ℕ → List ℕ
piece path text = path ++ byte "=" ∷ encoded text

equals_at : (path rest : List ℕ) → AllByRecursion IsQuiet path → position_or_len is_equals (path ++ byte "=" ∷ rest) ≡ length path
equals_at [] rest h = refl
equals_at (b ∷ path) rest h = let more = equals_at path rest h.1 in rw (h.0.no_equals, more) (omega arith)

piece_is : (path text : List ℕ) → AllByRecursion IsQuiet path → IsUtf8 text → pair_in (piece path text) ≡ Some (path, text)
piece_is path text quiet utf8 =
    let whole = piece path text in
    let at = equals_at path (encoded text) quiet in
    let long = length-append path (byte "=" ∷ encoded text) in
    let first : take (length path) whole ≡ path = take-append_seam path (byte "=" ∷ encoded text) in
    let last : drop (length path + 1) whole ≡ encoded text = drop-append-add path (byte "=" ∷ encoded text) 1 in
    by_sides whole (length path) (sym at) (omega (arith, long))
    ∙ good_pair (side_text (take (length path) whole)) (side_text (drop (length path + 1) whole)) path text
    (ap side_text first ∙ name_side path quiet) (ap side_text last ∙ text_side text utf8)

piece_whole : (path text : List ℕ) → AllByRecursion IsQuiet path → All (λ b. is_ampersand b ≡ false) (piece path text)
piece_whole path text quiet =
    each_all (λ b. is_ampersand b ≡ false) (piece path text)
    (each-append (λ b. is_ampersand b ≡ false) path (byte "=" ∷ encoded text)
    (each_weaker IsQuiet (λ b. is_ampersand b ≡ false) (λ b q. q.no_ampersand) path quiet) (refl, (text_is_read text).2))

-- ---- leaves

-- the leaf is read as it is written
abbrev pub IsReadAgain : Leaf → Type 0
IsReadAgain l = AllByRecursion IsQuiet (path_text l.path) × IsUtf8 l.text

abbrev piece_of : Leaf → List ℕ
piece_of l = piece (path_text l.path) l.text

abbrev further : List Leaf → List ℕ
further ls = flat_map (λ p. pair_text p.path p.text) (mapped pair_of_leaf ls)

split_leaves : (x : List ℕ) (ls : List Leaf) → All (λ b. is_ampersand b ≡ false) x → AllByRecursion IsReadAgain ls
    → slice_split is_ampersand (x ++ further ls) ≡ x ∷ mapped piece_of ls
split_leaves x [] hx h = rw (append-nil x) (slice_split_none is_ampersand x hx)
split_leaves x (l ∷ ls) hx h =
    slice_split_at is_ampersand x (byte "&") (piece_of l ++ further ls) hx refl
    ∙ ap (λ ps. x ∷ ps) (split_leaves (piece_of l) ls (piece_whole (path_text l.path) l.text h.0.0) h.1)

leaves_are : (n : ℕ) (ls : List Leaf) → AllByRecursion IsReadAgain ls → pairs_from n (mapped piece_of ls) ≡ all_pairs (leaf_pairs ls)
leaves_are n [] h = refl
leaves_are n (l ∷ ls) h = rw (piece_is (path_text l.path) l.text h.0.0 h.0.1, leaves_are (suc n) ls h.1) refl

action_is_quiet : AllByRecursion IsQuiet (codes "Action")
action_is_quiet = segment_is_quiet (codes "Action") (refl, (refl, (refl, (refl, (refl, (refl, tt))))))

version_is_quiet : AllByRecursion IsQuiet (codes "Version")
version_is_quiet = segment_is_quiet (codes "Version") (refl, (refl, (refl, (refl, (refl, (refl, (refl, tt)))))))

head_apart : (action version : List ℕ) (ls : List Leaf)
    → leaves_form action version ls ≡ piece (codes "Action") action ++ byte "&" ∷ (piece (codes "Version") version ++ further ls)
head_apart action version ls = ap (λ x. codes "Action=" ++ x) (append_assoc (encoded action) (byte "&" ∷ piece (codes "Version") version) (further ls))

-- what is written for leaves is parted into them
pub written_parts_of : (action version : List ℕ) (ls : List Leaf) → IsUtf8 action → IsUtf8 version → AllByRecursion IsReadAgain ls → first_repeated [] 3 (leaf_pairs ls) ≡ None
    → parts_of (leaves_form action version ls) ≡ parted action version (leaf_pairs ls)
written_parts_of action version ls ha hv h once =
    let first = piece (codes "Action") action in
    let second = piece (codes "Version") version in
    let pieces : slice_split is_ampersand (leaves_form action version ls) ≡ first ∷ second ∷ mapped piece_of ls =
    ap (slice_split is_ampersand) (head_apart action version ls)
    ∙ slice_split_at is_ampersand first (byte "&") (second ++ further ls) (piece_whole (codes "Action") action action_is_quiet) refl
    ∙ ap (λ ps. first ∷ ps) (split_leaves second ls (piece_whole (codes "Version") version version_is_quiet) h) in
    ap (λ ps. parted_pairs (pairs_from 1 ps)) pieces
    ∙ rw (piece_is (codes "Action") action action_is_quiet ha, piece_is (codes "Version") version version_is_quiet hv, leaves_are 3 ls h) (rw once refl)
