-- Where what a quotation mark opens ends: the computed place is that of the first such mark that no backslash takes.
use Rattle.std.proofs.Common.{◌≡◌, ◌≢◌, ◌+◌, ◌-◌, ◌≤◌, ◌<◌, ℕ, suc, List, [], ◌∷◌, ◌++◌, length, take, drop, get_or, slice_index, slice_range, Bool, true, false, Option, Some, None, option_map, refl, sym, ap, ◌∙◌, arith, inl, inr, cond, not, ◌==◌, subst}
use Rattle.std.proofs.lemmas.Bool.Decides.{nat_tests}
use Rattle.std.proofs.lemmas.List.{drop-drop, drop_more, get_or-drop, drop_all}
use Rattle.std.specs.List.{prefix_len}
use Rattle.smithy_json_grammar.specs.Ascii.{quotation_mark, escape}
use Rattle.smithy_json_grammar.specs.StringText.{IsQuoted}
use Rattle.smithy_json_grammar.specs.Standing.{IsQuotedAt}
use Rattle.smithy_json_grammar.specs.Stops.{is_stop, first_stop}
use Rattle.smithy_json_grammar.specs.Private.Chars.{quoted_length, quoted_from}
use Rattle.smithy_json_grammar.proofs.SliceLemmas.{drop-slice, length-slice}
use Rattle.smithy_json_grammar.proofs.StringLemmas.{run_stops_of}
use Rattle.smithy_json_grammar.proofs.CharsLemmas.{shift, shift-zero, shift-shift, one_more, two_more}

eq_false : (b c : ℕ) → b ≢ c → (b == c) ≡ false
eq_false b c h = grind (arith, nat_tests)

no_stop_is : (b : ℕ) → not (is_stop false b) ≡ true → (b ≢ quotation_mark) × (b ≢ escape)
no_stop_is b h = (grind (arith, nat_tests), grind (arith, nat_tests))

-- of the two that stop a run one is the mark
pub other_mark : (b : ℕ) → is_stop false b ≡ true → b ≢ escape → b ≡ quotation_mark
other_mark b stops other = grind (arith, nat_tests)

-- past a byte that is neither a mark nor a backslash
past_byte : (b : ℕ) (s : List ℕ) → b ≢ quotation_mark → b ≢ escape → quoted_length (b ∷ s) ≡ option_map suc (quoted_length s)
past_byte b [] no_mark no_slash = rw (eq_false b quotation_mark no_mark) refl
past_byte b (c ∷ s) no_mark no_slash = rw (eq_false b quotation_mark no_mark, eq_false b escape no_slash) refl

not_true : (b : Bool) → not b ≡ false → b ≡ true
not_true true h = refl
not_true false h = cc

-- a byte that is neither
abbrev no_stop : ℕ → Bool
no_stop b = not (is_stop false b)

-- past a run of such bytes
quoted-run : (s : List ℕ) → quoted_length s ≡ shift (prefix_len no_stop s) (quoted_length (drop (prefix_len no_stop s) s))
quoted-run [] = refl
quoted-run (b ∷ s) = go (no_stop b) refl (prefix_len no_stop s) (quoted-run s)
  where
    go : (passes : Bool) → no_stop b ≡ passes → (n : ℕ) → quoted_length s ≡ shift n (quoted_length (drop n s))
        → quoted_length (b ∷ s) ≡ shift (cond passes (1 + n) 0) (quoted_length (drop (cond passes (1 + n) 0) (b ∷ s)))
    go true passes n rest =
        let one : 1 + n ≡ suc n = omega arith in
        let other = no_stop_is b passes in
        past_byte b s other.0 other.1 ∙ one_more (quoted_length s) ∙ ap (shift 1) rest
        ∙ shift-shift 1 n (quoted_length (drop n s))
        ∙ ap (λ k. shift (1 + n) (quoted_length (drop k (b ∷ s)))) (sym one)
    go false passes n rest = sym (shift-zero (quoted_length (b ∷ s)))

-- a place that is computed further on
further : (input : List ℕ) (at k : ℕ) → shift at (shift k (quoted_length (drop k (drop at input)))) ≡ quoted_from input (at + k)
further input at k =
    shift-shift at k (quoted_length (drop k (drop at input)))
    ∙ ap (λ rest. shift (at + k) (quoted_length rest)) (drop-drop k at input)

pub quoted_from-run : (input : List ℕ) (at end : ℕ) → end ≡ first_stop input at false → quoted_from input at ≡ quoted_from input end
quoted_from-run input at end is =
    ap (shift at) (quoted-run (drop at input))
    ∙ further input at (prefix_len no_stop (drop at input)) ∙ ap (quoted_from input) (sym is)

-- and where it ends one of the two stands
pub quoted_stops : (input : List ℕ) (at end : ℕ) → end ≡ first_stop input at false → end < length input → is_stop false (slice_index input end) ≡ true
quoted_stops input at end is within = not_true _ (run_stops_of no_stop input at end is within)

pub quoted_from-over : (input : List ℕ) (at : ℕ) → length input ≤ at → quoted_from input at ≡ None
quoted_from-over input at past = ap (λ rest. shift at (quoted_length rest)) (drop_all at input past)

module _ (input : List ℕ) (at : ℕ) (within : at < length input) where
  front : drop at input ≡ slice_index input at ∷ drop (at + 1) input
  front = drop_more input at 0 within

  -- a mark ends it
  pub quoted_from-mark : slice_index input at ≡ quotation_mark → quoted_from input at ≡ Some at
  quoted_from-mark is = ends (drop (at + 1) input) (front ∙ ap (λ b. b ∷ drop (at + 1) input) is)
    where
      ends : (rest : List ℕ) → drop at input ≡ quotation_mark ∷ rest → quoted_from input at ≡ Some at
      ends [] here = let zero_more : at + 0 ≡ at = omega arith in ap (λ s. shift at (quoted_length s)) here ∙ ap Some zero_more
      ends (c ∷ rest) here = let zero_more : at + 0 ≡ at = omega arith in ap (λ s. shift at (quoted_length s)) here ∙ ap Some zero_more

  -- past a backslash and the byte that it takes
  pub quoted_from-escape : slice_index input at ≡ escape → at + 2 ≤ length input → quoted_from input at ≡ quoted_from input (at + 2)
  quoted_from-escape is more =
      let next : drop (at + 1) input ≡ slice_index input (at + 1) ∷ drop (at + 1 + 1) input = drop_more input (at + 1) 0 (omega arith) in
      let two : at + 1 + 1 ≡ at + 2 = omega arith in
      let both : drop at input ≡ escape ∷ slice_index input (at + 1) ∷ drop (at + 2) input =
      front ∙ ap (λ b. b ∷ drop (at + 1) input) is ∙ ap (λ rest. escape ∷ rest) next ∙ ap (λ k. escape ∷ slice_index input (at + 1) ∷ drop k input) two in
      ap (λ s. shift at (quoted_length s)) both
      ∙ ap (shift at) (two_more (quoted_length (drop (at + 2) input)))
      ∙ shift-shift at 2 (quoted_length (drop (at + 2) input))

  -- a backslash at the end takes nothing
  pub quoted_from-cut : slice_index input at ≡ escape → length input ≤ at + 1 → quoted_from input at ≡ None
  quoted_from-cut is cut =
      ap (λ s. shift at (quoted_length s)) (front ∙ ap (λ b. b ∷ drop (at + 1) input) is ∙ ap (λ rest. escape ∷ rest) (drop_all (at + 1) input cut))

-- ---- what the place says

-- a place that was found: before it each backslash takes a byte, and at it stands the mark
record Closes (s : List ℕ) (n : ℕ) : Type 0 where
  within : n < length s
  quoted : IsQuoted (take n s)
  mark : get_or s n 0 ≡ quotation_mark

some_of : (f : ℕ → ℕ) (place : Option ℕ) (n : ℕ) → option_map f place ≡ Some n → (m : ℕ) × (place ≡ Some m) × (f m ≡ n)
some_of f None n e = cc
some_of f (Some m) n e = (m, refl, cc)

quoted_more : (b : ℕ) (s : List ℕ) → b ≢ quotation_mark → b ≢ escape → IsQuoted s → IsQuoted (b ∷ s)
quoted_more b [] no_mark no_slash h = (no_mark, no_slash)
quoted_more b (c ∷ s) no_mark no_slash h = inl ((no_mark, no_slash), h)

is_byte : (b c : ℕ) → (b == c) ≡ true → b ≡ c
is_byte b c h = grind (arith, nat_tests)

is_other : (b c : ℕ) → (b == c) ≡ false → b ≢ c
is_other b c h = grind (arith, nat_tests)

closes_now : (b : ℕ) (s : List ℕ) (n : ℕ) → b ≡ quotation_mark → ◌≡◌ {A = Option ℕ} (Some 0) (Some n) → Closes (b ∷ s) n
closes_now b s n is e = let same : 0 ≡ n = cc in subst (Closes (b ∷ s)) same (record { within = omega arith; quoted = tt; mark = is })

closes : (s : List ℕ) (n : ℕ) → quoted_length s ≡ Some n → Closes s n
closes [] n e = cc
closes (b ∷ []) n e = go (b == quotation_mark) refl e
  where
    go : (mark : Bool) → (b == quotation_mark) ≡ mark → cond mark (Some 0) None ≡ Some n → Closes (b ∷ []) n
    go true mark e = closes_now b [] n (is_byte b quotation_mark mark) e
    go false mark e = cc
closes (b ∷ c ∷ s) n e = go (b == quotation_mark) refl (b == escape) refl e (closes s) (closes (c ∷ s))
  where
    go : (mark : Bool) → (b == quotation_mark) ≡ mark → (slash : Bool) → (b == escape) ≡ slash
        → cond mark (Some 0) (cond slash (option_map (λ k. suc (suc k)) (quoted_length s)) (option_map suc (quoted_length (c ∷ s)))) ≡ Some n
        → ((m : ℕ) → quoted_length s ≡ Some m → Closes s m) → ((m : ℕ) → quoted_length (c ∷ s) ≡ Some m → Closes (c ∷ s) m) → Closes (b ∷ c ∷ s) n
    go true mark slash is e behind more = closes_now b (c ∷ s) n (is_byte b quotation_mark mark) e
    go false mark true slash e behind more =
        let two = some_of (λ k. suc (suc k)) (quoted_length s) n e in
        let rest = behind two.0 two.1 in
        subst (Closes (b ∷ c ∷ s)) two.2 (record { within = omega (arith, rest.within); quoted = inr (is_byte b escape slash, rest.quoted); mark = rest.mark })
    go false mark false slash e behind more =
        let one = some_of suc (quoted_length (c ∷ s)) n e in
        let rest = more one.0 one.1 in
        subst (Closes (b ∷ c ∷ s)) one.2 (record {
          within = omega (arith, rest.within);
          quoted = quoted_more b (take one.0 (c ∷ s)) (is_other b quotation_mark mark) (is_other b escape slash) rest.quoted;
          mark = rest.mark;
        })

-- and what stands before a mark has that place
quoted_all : (raw rest : List ℕ) → IsQuoted raw → quoted_length (raw ++ quotation_mark ∷ rest) ≡ Some (length raw)
quoted_all [] [] h = refl
quoted_all [] (c ∷ rest) h = refl
quoted_all (b ∷ []) rest h = past_byte b (quotation_mark ∷ rest) h.0 h.1 ∙ ap (option_map suc) (quoted_all [] rest tt)
quoted_all (b ∷ c ∷ raw) rest (inl h) =
    past_byte b (c ∷ raw ++ quotation_mark ∷ rest) h.0.0 h.0.1 ∙ ap (option_map suc) (quoted_all (c ∷ raw) rest h.1)
quoted_all (b ∷ c ∷ raw) rest (inr h) = rw h.0 (ap (option_map (λ n. suc (suc n))) (quoted_all raw rest h.1))

-- ---- the whole

-- what the place that closes what was opened says of it
pub quoted_is_at : (input : List ℕ) (at closing : ℕ) → slice_index input at ≡ quotation_mark → at + 1 ≤ closing → closing < length input
    → quoted_from input (at + 1) ≡ Some closing → IsQuotedAt input at closing
quoted_is_at input at closing opens ordered within is =
    let found = some_of (λ n. at + 1 + n) (quoted_length (drop (at + 1) input)) closing is in
    let n = found.0 in
    let ends = closes (drop (at + 1) input) n found.1 in
    let size : n ≡ closing - (at + 1) = omega (arith, found.2) in
    record {
      ordered = omega (arith, ordered);
      within = within;
      opens = opens;
      quoted = subst (λ k. IsQuoted (take k (drop (at + 1) input))) size ends.quoted;
      closes = ap (λ k. get_or input k 0) (sym found.2) ∙ sym (get_or-drop (at + 1) input n 0) ∙ ends.mark;
    }

-- it is closed at that place
pub quoted_closing_is : (input : List ℕ) (at closing : ℕ) → IsQuotedAt input at closing → quoted_from input (at + 1) ≡ Some closing
quoted_closing_is input at closing is =
    let raw = slice_range input (at + 1) closing in
    let there : drop (at + 1) input ≡ raw ++ quotation_mark ∷ drop (closing + 1) input =
    drop-slice input (at + 1) closing (omega (arith, is.ordered))
    ∙ ap (λ rest. raw ++ rest) (drop_more input closing 0 is.within ∙ ap (λ b. b ∷ drop (closing + 1) input) is.closes) in
    let size : at + 1 + length raw ≡ closing = omega (arith, is.ordered, is.within, length-slice input (at + 1) closing) in
    ap (λ rest. shift (at + 1) (quoted_length rest)) there
    ∙ ap (shift (at + 1)) (quoted_all raw (drop (closing + 1) input) is.quoted) ∙ ap Some size
