-- The pieces of a form, and the pairs that they are.
use Rattle.std.proofs.Common.{◌≡◌, ◌≢◌, ◌<◌, ◌≤◌, ◌+◌, ◌==◌, ℕ, suc, List, [], ◌∷◌, ◌++◌, length, take, drop, map as mapped, Bool, true, false, Option, Some, None, Ok, Err, refl, sym, ◌∙◌, ap, subst, arith, append_assoc}
use Rattle.std.specs.Prelude.{option_and_then, option_map}
use Rattle.std.specs.List.{slice_split, position_or_len, list_any}
use Rattle.std.proofs.lemmas.Bool.Decides.{nat_tests}
use Rattle.std.proofs.lemmas.List.{append-nil, length-append, take_all}
use Rattle.std.proofs.lemmas.List.Splits.{slice_split_first}
use Rattle.std.proofs.lemmas.List.Sums.{position_or_len_is}
use Rattle.std.proofs.lemmas.Bool.{false_from_ne_true}
use Rattle.memchr.specs.Find.{IsFirstByte, is_byte}
use Rattle.smithy_query.specs.Split.{is_ampersand, is_equals}
use Rattle.smithy_form.specs.declared.error.FormError.{FormError}
use Rattle.smithy_form.specs.declared.error.FormError.TheVariants.{BadPair, NoMemory}
use Rattle.smithy_form.specs.declared.pairs.Pair.{Pair}
use Rattle.smithy_form.specs.Pairs.{NamedText}
use Rattle.smithy_form.specs.Forms.{side_text, pair_in, Pairs, bad_pair, all_pairs, with_pair, pairs_from}
use Rattle.smithy_form.specs.Private.Kept.{named_text}
use Rattle.smithy_form.specs.Private.Order.{AreNumbered}
use Rattle.smithy_form.specs.Private.Splitting.{ReadsPair, ReadsPairs}

-- ---- the first place that passes, or the end

none_passes : {X : Type 0} (p : X → Bool) (xs : List X) → position_or_len p xs ≡ length xs → (list_any p xs ≡ false) × (slice_split p xs ≡ xs ∷ [])
none_passes p [] at = (refl, refl)
none_passes {X} p (x ∷ xs) at = by (p x) refl (λ h. none_passes p xs h)
  where
    by : (b : Bool) → p x ≡ b → (position_or_len p xs ≡ length xs → (list_any p xs ≡ false) × (slice_split p xs ≡ xs ∷ []))
        → (list_any p (x ∷ xs) ≡ false) × (slice_split p (x ∷ xs) ≡ (x ∷ xs) ∷ [])
    by true is again = absurd (let here : position_or_len p (x ∷ xs) ≡ 0 = rw is refl in omega (arith, at, here))
    by false is again =
        let here : position_or_len p (x ∷ xs) ≡ 1 + position_or_len p xs = rw is refl in
        let more = again (omega (arith, at, here)) in
        (rw is more.0, rw (is, more.1) refl)

one_passes : {X : Type 0} (p : X → Bool) (xs : List X) → position_or_len p xs < length xs → list_any p xs ≡ true
one_passes p [] at = absurd (omega (arith, at))
one_passes p (x ∷ xs) at = by (p x) refl (λ h. one_passes p xs h)
  where
    by : (b : Bool) → p x ≡ b → (position_or_len p xs < length xs → list_any p xs ≡ true) → list_any p (x ∷ xs) ≡ true
    by true is again = rw is refl
    by false is again =
        let here : position_or_len p (x ∷ xs) ≡ 1 + position_or_len p xs = rw is refl in
        rw is (again (omega (arith, at, here)))

-- ---- what a search for a byte answers

pub place_found : (byte : ℕ) (xs : List ℕ) (k : ℕ) → IsFirstByte (is_byte byte) xs (Some k) → k ≡ position_or_len (λ b. b == byte) xs
place_found byte xs k found =
    sym (position_or_len_is (λ b. b == byte) xs k 0 (omega (arith, found.0.high)) (λ j less. false_from_ne_true _ (found.0.before j (omega arith) less)) (λ _. found.1))

pub place_missing : (byte : ℕ) (xs : List ℕ) → IsFirstByte (is_byte byte) xs None → length xs ≡ position_or_len (λ b. b == byte) xs
place_missing byte xs none =
    sym (position_or_len_is (λ b. b == byte) xs (length xs) 0 (omega arith) (λ j less. false_from_ne_true _ (none j (omega arith) less)) (λ less. absurd (omega (arith, less))))

-- ---- one pair

pub no_equals : (piece : List ℕ) (at : ℕ) → at ≡ position_or_len is_equals piece → at ≡ length piece → pair_in piece ≡ None
no_equals piece at is end = rw (none_passes is_equals piece (sym is ∙ end)).0 refl

-- what two sides are
abbrev pub both_sides : Option (List ℕ) → Option (List ℕ) → Option NamedText
both_sides name text = option_and_then (λ name. option_map (λ text. (name, text)) text) name

-- the sides of a piece, and what it is by them
pub by_sides : (piece : List ℕ) (at : ℕ) → at ≡ position_or_len is_equals piece → at < length piece
    → pair_in piece ≡ both_sides (side_text (take at piece)) (side_text (drop (at + 1) piece))
by_sides piece at is within =
    let some = one_passes is_equals piece (omega (arith, is, within)) in
    rw (some, is) refl

pub good_pair : (name text : Option (List ℕ)) (s t : List ℕ) → name ≡ Some s → text ≡ Some t → both_sides name text ≡ Some (s, t)
good_pair name text s t is at = rw (is, at) refl

-- ---- all pairs

-- pairs in front of what others are
abbrev pub with_front : List NamedText → Pairs → Pairs
with_front ps (bad_pair n) = bad_pair n
with_front ps (all_pairs qs) = all_pairs (ps ++ qs)

pub first_piece : (rest : List ℕ) (at : ℕ) → at ≡ position_or_len is_ampersand rest → at < length rest → slice_split is_ampersand rest ≡ take at rest ∷ slice_split is_ampersand (drop (at + 1) rest)
first_piece rest at is within = slice_split_first is_ampersand rest 0 (omega (arith, is, within)) ∙ rw is refl

pub last_piece : (rest : List ℕ) (at : ℕ) → at ≡ position_or_len is_ampersand rest → at ≡ length rest → slice_split is_ampersand rest ≡ rest ∷ []
last_piece rest at is end = (none_passes is_ampersand rest (sym is ∙ end)).1

-- a piece that is no pair, behind those that were read
pub bad_piece : (ps : List NamedText) (n : ℕ) (piece : List ℕ) (more : List (List ℕ)) → pair_in piece ≡ None → with_front ps (pairs_from n (piece ∷ more)) ≡ bad_pair n
bad_piece ps n piece more none = rw none refl

-- one that is
pub good_piece : (ps : List NamedText) (n : ℕ) (piece : List ℕ) (more : List (List ℕ)) (p : NamedText) → pair_in piece ≡ Some p
    → with_front ps (pairs_from n (piece ∷ more)) ≡ with_front (ps ++ p ∷ []) (pairs_from (suc n) more)
good_piece ps n piece more p some = rw some (by (pairs_from (suc n) more))
  where
    by : (qs : Pairs) → with_front ps (with_pair p qs) ≡ with_front (ps ++ p ∷ []) qs
    by (bad_pair n) = refl
    by (all_pairs qs) = ap all_pairs (sym (append_assoc ps (p ∷ []) qs))

mapped-append : (ps : List Pair) (p : Pair) → mapped named_text (ps ++ p ∷ []) ≡ mapped named_text ps ++ named_text p ∷ []
mapped-append [] p = refl
mapped-append (q ∷ ps) p = ap (λ r. named_text q ∷ r) (mapped-append ps p)

pub numbered_more : (n : ℕ) (ps : List Pair) (p : Pair) → AreNumbered n ps → p.number ≡ n + length ps → AreNumbered n (ps ++ p ∷ [])
numbered_more n [] p h is = (omega (arith, is), tt)
numbered_more n (q ∷ ps) p h is = (h.0, numbered_more (suc n) ps p h.1 (omega (arith, is)))

-- what is left begins with the piece before its first `&`
pub split_front : (rest : List ℕ) (at : ℕ) → at ≡ position_or_len is_ampersand rest → at ≤ length rest → (more : List (List ℕ)) × (slice_split is_ampersand rest ≡ take at rest ∷ more)
split_front rest at is within = by (at == length rest) refl
  where
    by : (b : Bool) → (at == length rest) ≡ b → (more : List (List ℕ)) × (slice_split is_ampersand rest ≡ take at rest ∷ more)
    by true end =
        let whole : at ≡ length rest = grind (arith, nat_tests) in
        ([], last_piece rest at is whole ∙ ap (λ r. r ∷ []) (sym (ap (λ n. take n rest) whole ∙ take_all (length rest) rest (omega arith))))
    by false end =
        let apart : at ≢ length rest = grind (arith, nat_tests) in
        (slice_split is_ampersand (drop (at + 1) rest), first_piece rest at is (omega (arith, within, apart)))

-- ---- the loop over the pieces

module _ (input : List (List ℕ)) (read : List Pair) (rest : List ℕ) (at n : ℕ) (number : n ≡ suc (length read))
    (all : with_front (mapped named_text read) (pairs_from (suc (length read)) (slice_split is_ampersand rest)) ≡ pairs_from 1 input)
    (numbered : AreNumbered 1 read) (is : at ≡ position_or_len is_ampersand rest) (within : at ≤ length rest) where
  here : (more : List (List ℕ)) → slice_split is_ampersand rest ≡ take at rest ∷ more → with_front (mapped named_text read) (pairs_from n (take at rest ∷ more)) ≡ pairs_from 1 input
  here more split = ap (λ k. with_front (mapped named_text read) (pairs_from k (take at rest ∷ more))) number ∙ ap (λ ps. with_front (mapped named_text read) (pairs_from (suc (length read)) ps)) (sym split) ∙ all

  -- the next piece is no pair
  pub piece_refused : (e : FormError) → ReadsPair (take at rest) n (Err e) → ReadsPairs input (Err e)
  piece_refused (BadPair m) h =
      let front = split_front rest at is within in
      sym (here front.0 front.1) ∙ bad_piece (mapped named_text read) n (take at rest) front.0 h.0 ∙ ap bad_pair (sym h.1)
  piece_refused NoMemory h = tt
  piece_refused _ h = absurd h

  one_more : (p : Pair) → ReadsPair (take at rest) n (Ok p) → (more : List (List ℕ)) → slice_split is_ampersand rest ≡ take at rest ∷ more
      → with_front (mapped named_text (read ++ p ∷ [])) (pairs_from (suc n) more) ≡ pairs_from 1 input
  one_more p h more split =
      ap (λ ps. with_front ps (pairs_from (suc n) more)) (mapped-append read p) ∙ sym (good_piece (mapped named_text read) n (take at rest) more (named_text p) h.0) ∙ here more split

  -- it is the last one
  pub all_read : (p : Pair) (ps : List Pair) → ReadsPair (take at rest) n (Ok p) → ps ≡ read ++ p ∷ [] → at ≡ length rest
      → (pairs_from 1 input ≡ all_pairs (mapped named_text ps)) × AreNumbered 1 ps
  all_read p ps h same end =
      let split : slice_split is_ampersand rest ≡ take at rest ∷ [] = last_piece rest at is end ∙ ap (λ r. r ∷ []) (sym (ap (λ k. take k rest) end ∙ take_all (length rest) rest (omega arith))) in (
        sym (one_more p h [] split) ∙ ap all_pairs (append-nil (mapped named_text (read ++ p ∷ []))) ∙ ap (λ qs. all_pairs (mapped named_text qs)) (sym same),
        subst (AreNumbered 1) (sym same) (numbered_more 1 read p numbered (h.1 ∙ number ∙ omega arith)),
      )

  -- others follow
  pub goes_on : (p : Pair) (ps : List Pair) (left : List ℕ) → ReadsPair (take at rest) n (Ok p) → ps ≡ read ++ p ∷ [] → (at ≡ length rest → ⊥) → left ≡ drop (at + 1) rest
      → (with_front (mapped named_text ps) (pairs_from (suc (length ps)) (slice_split is_ampersand left)) ≡ pairs_from 1 input) × AreNumbered 1 ps
  goes_on p ps left h same more behind =
      let longer : suc (length ps) ≡ suc n = ap (λ qs. suc (length qs)) same ∙ (let d = length-append read (p ∷ []) in omega (arith, d, number)) in (
        ap (λ qs. with_front (mapped named_text qs) (pairs_from (suc (length ps)) (slice_split is_ampersand left))) same
            ∙ ap (λ k. with_front (mapped named_text (read ++ p ∷ [])) (pairs_from k (slice_split is_ampersand left))) longer
            ∙ ap (λ r. with_front (mapped named_text (read ++ p ∷ [])) (pairs_from (suc n) (slice_split is_ampersand r))) behind
            ∙ one_more p h (slice_split is_ampersand (drop (at + 1) rest)) (first_piece rest at is (omega (arith, within, more))),
        subst (AreNumbered 1) (sym same) (numbered_more 1 read p numbered (h.1 ∙ number ∙ omega arith)),
      )
