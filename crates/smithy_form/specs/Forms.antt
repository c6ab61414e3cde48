-- What the bytes of a form are: its pairs, or the first reason why it has none.
use Rattle.std.specs.Prelude.{◌==◌, ◌&&◌, ℕ, suc, List, [], ◌∷◌, map as mapped, Bool, true, false, Option, Some, None, option_and_then, option_map, bytes_eq, codes, if◌then◌else◌}
use Rattle.std.specs.Char.{is_digit}
use Rattle.std.specs.List.{slice_split, before_first, after_first, list_any}
use Rattle.std.specs.Str.{byte, is_utf8}
use Rattle.percent_encoding.specs.Percent.{percent_decode}
use Rattle.smithy_query.specs.Split.{is_ampersand, is_equals}
use Rattle.smithy_form.specs.Pairs.{NamedText}

-- each `%` begins an escape of two hexadecimal digits
abbrev pub has_whole_escapes : List ℕ → Bool
has_whole_escapes [] = true
has_whole_escapes (a ∷ []) = if a == byte "%" then false else true
has_whole_escapes (a ∷ b ∷ []) = if a == byte "%" then false else has_whole_escapes (b ∷ [])
has_whole_escapes (a ∷ b ∷ c ∷ more) =
    if a == byte "%" then is_digit b 16 && is_digit c 16 && has_whole_escapes more
    else has_whole_escapes (b ∷ c ∷ more)

-- `+` stands for a space
abbrev pub spaced : List ℕ → List ℕ
spaced side = mapped (λ b. if b == byte "+" then byte " " else b) side

-- the text of one side of a pair, if it is one
abbrev pub side_text : List ℕ → Option (List ℕ)
side_text side =
    let text = percent_decode (spaced side) in
    if has_whole_escapes side && is_utf8 text then Some text else None

-- the name and the text of a piece, cut at its first `=`, if there is one
abbrev pub pair_in : List ℕ → Option NamedText
pair_in piece =
    if list_any is_equals piece
    then option_and_then (λ name. option_map (λ text. (name, text)) (side_text (after_first is_equals piece))) (side_text (before_first is_equals piece))
    else None

-- what the pieces of a form are, counted from this number on
pub data Pairs : Type 0 where
  -- the first piece that is no pair
  bad_pair : ℕ → Pairs
  all_pairs : List NamedText → Pairs

abbrev pub with_pair : NamedText → Pairs → Pairs
with_pair p (bad_pair n) = bad_pair n
with_pair p (all_pairs ps) = all_pairs (p ∷ ps)

abbrev pub then_pairs : ℕ → Option NamedText → Pairs → Pairs
then_pairs n None more = bad_pair n
then_pairs n (Some p) more = with_pair p more

abbrev pub pairs_from : ℕ → List (List ℕ) → Pairs
pairs_from n [] = all_pairs []
pairs_from n (piece ∷ pieces) = then_pairs n (pair_in piece) (pairs_from (suc n) pieces)

-- the number of the first pair whose name is that of an earlier one, where those before it are counted up to this number
abbrev pub first_repeated : List (List ℕ) → ℕ → List NamedText → Option ℕ
first_repeated before n [] = None
first_repeated before n (p ∷ ps) = if list_any (bytes_eq p.0) before then Some n else first_repeated (p.0 ∷ before) (suc n) ps

-- what a form is, up to the meaning of its leaves
pub data Parted : Type 0 where
  with_bad_pair : ℕ → Parted
  no_form : Parted
  with_repeated : ℕ → Parted
  -- the action, the version, and the pairs after them, whose names differ
  parted : List ℕ → List ℕ → List NamedText → Parted

abbrev pub repeated_or : Option ℕ → Parted → Parted
repeated_or (Some n) else_is = with_repeated n
repeated_or None else_is = else_is

abbrev pub parted_pairs : Pairs → Parted
parted_pairs (bad_pair n) = with_bad_pair n
parted_pairs (all_pairs (a ∷ v ∷ ps)) =
    if bytes_eq a.0 (codes "Action") && bytes_eq v.0 (codes "Version")
    then repeated_or (first_repeated [] 3 ps) (parted a.1 v.1 ps)
    else no_form
parted_pairs (all_pairs _) = no_form

abbrev pub parts_of : List ℕ → Parted
parts_of input = parted_pairs (pairs_from 1 (slice_split is_ampersand input))
