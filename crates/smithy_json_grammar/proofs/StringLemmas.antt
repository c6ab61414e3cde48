-- Where a string stands in an input.
use Rattle.std.proofs.Common.{◌≡◌, ◌+◌, ◌-◌, ◌≤◌, ◌<◌, ℕ, suc, List, [], ◌∷◌, ◌++◌, length, take, drop, get_or, slice_index, slice_range, Bool, true, false, Option, Some, None, option_map, IsUtf8, refl, sym, ap, ◌∙◌, arith, subst, cond, ◌==◌, ◌≢◌, nat_lt}
use Rattle.std.proofs.lemmas.Bool.Decides.{nat_tests}
use Rattle.std.proofs.lemmas.List.{drop-drop, length-drop, drop_more, get_or-drop, get_or-take, drop_all}
use Rattle.std.proofs.lemmas.List.Sums.{prefix_len_stops, prefix_len_passes, prefix_len_is, prefix_len-drop_no, prefix_len-drop_all}
use Rattle.std.specs.Bool.{then_some}
use Rattle.std.specs.List.{prefix_len}
use Rattle.smithy_json_grammar.specs.Ascii.{quotation_mark, escape, letter_u, is_short_escape}
use Rattle.smithy_json_grammar.specs.Grammar.{AreChars}
use Rattle.smithy_json_grammar.specs.Standing.{IsStringAt}
use Rattle.smithy_json_grammar.specs.Unescape.{has_escape}
use Rattle.smithy_json_grammar.specs.Private.Chars.{is_plain, begins_with_four_hex_digits, is_escape, chars_length, closing_from, GoesOnAt}
use Rattle.smithy_json_grammar.proofs.SliceLemmas.{drop-slice, length-slice}
use Rattle.smithy_json_grammar.proofs.CharsLemmas.{shift, shift-shift, two_more, chars_length-run, chars_length-hex, four_digits_fit, chars_length-closes, chars_length-chars, no_escape, some_escape}

-- a place that is computed further on
closing_further : (input : List ℕ) (at k : ℕ) → shift at (shift k (chars_length (drop k (drop at input)))) ≡ closing_from input (at + k)
closing_further input at k =
    shift-shift at k (chars_length (drop k (drop at input)))
    ∙ ap (λ rest. shift (at + k) (chars_length rest)) (drop-drop k at input)

-- the text goes on behind a run of bytes that stand for themselves
pub closing_from-run : (input : List ℕ) (at end : ℕ) → end ≡ at + prefix_len is_plain (drop at input) → closing_from input at ≡ closing_from input end
closing_from-run input at end is =
    ap (shift at) (chars_length-run (drop at input))
    ∙ closing_further input at (prefix_len is_plain (drop at input)) ∙ ap (closing_from input) (sym is)

-- where a run ends no byte stands that goes on
pub run_stops_of : (passes : ℕ → Bool) (input : List ℕ) (at end : ℕ) → end ≡ at + prefix_len passes (drop at input) → end < length input → passes (slice_index input end) ≡ false
run_stops_of passes input at end is within =
    let n = prefix_len passes (drop at input) in
    let short : n < length (drop at input) = omega (arith, length-drop at input) in
    ap passes (ap (λ k. get_or input k 0) is ∙ sym (get_or-drop at input n 0)) ∙ prefix_len_stops passes (drop at input) 0 short

pub run_stops : (input : List ℕ) (at end : ℕ) → end ≡ at + prefix_len is_plain (drop at input) → end < length input → is_plain (slice_index input end) ≡ false
run_stops = run_stops_of is_plain

-- so it is over
pub run_is_over : (input : List ℕ) (at end : ℕ) → end ≡ at + prefix_len is_plain (drop at input)
    → at + prefix_len is_plain (drop at input) ≡ end + prefix_len is_plain (drop end input)
run_is_over input at end is =
    let none : prefix_len is_plain (drop end input) ≡ 0 = go (nat_lt end (length input)) refl in
    omega (arith, is, none)
  where
    go : (within : Bool) → nat_lt end (length input) ≡ within → prefix_len is_plain (drop end input) ≡ 0
    go true within =
        let before : end < length input = grind (arith, nat_tests) in
        prefix_len-drop_no is_plain input end 0 before (run_stops input at end is before)
    go false past = prefix_len-drop_all is_plain input end (grind (arith, nat_tests))

module _ (input : List ℕ) (at : ℕ) (within : at < length input) (slash : slice_index input at ≡ escape) where
  -- a backslash at the end closes nothing
  pub escape_cut : length input ≤ at + 1 → closing_from input at ≡ None
  escape_cut cut =
      let front : drop at input ≡ escape ∷ [] = drop_more input at 0 within ∙ (rw (slash, drop_all (at + 1) input cut) refl) in
      ap (λ rest. shift at (chars_length rest)) front

  module _ (letter : ℕ) (further : at + 1 < length input) (is : slice_index input (at + 1) ≡ letter) where
    front : drop at input ≡ escape ∷ letter ∷ drop (at + 2) input
    front =
        let two : at + 1 + 1 ≡ at + 2 = omega arith in
        drop_more input at 0 within ∙ ap (λ b. b ∷ drop (at + 1) input) slash
        ∙ ap (λ rest. escape ∷ rest) (drop_more input (at + 1) 0 further ∙ ap (λ b. b ∷ drop (at + 1 + 1) input) is ∙ ap (λ k. letter ∷ drop k input) two)

    -- an escape: the text goes on behind its letter
    closing_from-escape : is_escape letter (drop (at + 2) input) ≡ true → closing_from input at ≡ closing_from input (at + 2)
    closing_from-escape holds =
        ap (λ rest. shift at (chars_length rest)) front
        ∙ ap (λ b. shift at (cond b (option_map (λ n. suc (suc n)) (chars_length (drop (at + 2) input))) None)) holds
        ∙ ap (shift at) (two_more (chars_length (drop (at + 2) input)))
        ∙ shift-shift at 2 (chars_length (drop (at + 2) input))

    -- no escape
    closing_from-no_escape : is_escape letter (drop (at + 2) input) ≡ false → closing_from input at ≡ None
    closing_from-no_escape fails =
        ap (λ rest. shift at (chars_length rest)) front
        ∙ ap (λ b. shift at (cond b (option_map (λ n. suc (suc n)) (chars_length (drop (at + 2) input))) None)) fails

    -- an escape of two bytes
    pub short_goes_on : is_short_escape letter ≡ true → GoesOnAt input at (Some (at + 2))
    short_goes_on short = (closing_from-escape (rw short refl), omega arith, omega arith)

    -- another letter
    pub other_letter : is_short_escape letter ≡ false → letter ≢ letter_u → closing_from input at ≡ None
    other_letter short other =
        let test : (letter == letter_u) ≡ false = grind (arith, nat_tests) in
        closing_from-no_escape (rw (short, test) refl)

    -- an escape with four digits: the text goes on behind these
    pub digits_go_on : letter ≡ letter_u → (digits : Bool) → digits ≡ begins_with_four_hex_digits (drop (at + 2) input) → GoesOnAt input at (then_some digits (at + 6))
    digits_go_on u true digits =
        let holds : is_escape letter (drop (at + 2) input) ≡ true = rw (u, ← digits) refl in
        let six : at + 2 + 4 ≡ at + 6 = omega arith in (
          closing_from-escape holds ∙ ap (shift (at + 2)) (chars_length-hex (drop (at + 2) input) (sym digits))
              ∙ closing_further input (at + 2) 4 ∙ ap (closing_from input) six,
          omega arith,
          omega (arith, four_digits_fit (drop (at + 2) input) (sym digits), length-drop (at + 2) input),
        )
    digits_go_on u false digits = closing_from-no_escape (rw (u, ← digits) refl)

-- ---- the whole string

shift_some : (at : ℕ) (place : Option ℕ) (closing : ℕ) → shift at place ≡ Some closing → (n : ℕ) × (place ≡ Some n) × (at + n ≡ closing)
shift_some at None closing e = cc
shift_some at (Some n) closing e = (n, refl, cc)

-- what the place that closes a text says of the text
pub record TextEnds (input : List ℕ) (at closing : ℕ) : Type 0 where
  pub ordered : at ≤ closing
  pub within : closing < length input
  pub chars : AreChars (slice_range input at closing)
  pub mark : slice_index input closing ≡ quotation_mark

pub text_ends : (input : List ℕ) (at closing : ℕ) → closing_from input at ≡ Some closing → TextEnds input at closing
text_ends input at closing is =
    let found = shift_some at (chars_length (drop at input)) closing is in
    let n = found.0 in
    let closes = chars_length-closes (drop at input) n found.1 in
    let size : n ≡ closing - at = omega (arith, found.2) in
    record {
      ordered = omega (arith, found.2);
      within = omega (arith, found.2, closes.within, length-drop at input);
      chars = subst (λ k. AreChars (take k (drop at input))) size closes.chars;
      mark = ap (λ k. get_or input k 0) (sym found.2) ∙ sym (get_or-drop at input n 0) ∙ closes.mark;
    }

-- the place that closes a text closes the string
pub string_is_at : (input : List ℕ) (at closing : ℕ) → slice_index input at ≡ quotation_mark → closing_from input (at + 1) ≡ Some closing
    → IsUtf8 (slice_range input (at + 1) closing) → IsStringAt input at closing
string_is_at input at closing opens is utf8 =
    let ends = text_ends input (at + 1) closing is in
    record { ordered = omega (arith, ends.ordered); within = ends.within; opens = opens; text = (utf8, ends.chars); closes = ends.mark }

-- a string is closed at that place
pub closing_is : (input : List ℕ) (at closing : ℕ) → IsStringAt input at closing → closing_from input (at + 1) ≡ Some closing
closing_is input at closing is =
    let raw = slice_range input (at + 1) closing in
    let front : drop (at + 1) input ≡ raw ++ quotation_mark ∷ drop (closing + 1) input =
    drop-slice input (at + 1) closing (omega (arith, is.ordered))
    ∙ ap (λ rest. raw ++ rest) (drop_more input closing 0 is.within ∙ ap (λ b. b ∷ drop (closing + 1) input) is.closes) in
    let size : at + 1 + length raw ≡ closing = omega (arith, is.ordered, is.within, length-slice input (at + 1) closing) in
    ap (λ rest. shift (at + 1) (chars_length rest)) front
    ∙ ap (shift (at + 1)) (chars_length-chars raw (drop (closing + 1) input) is.text.1) ∙ ap Some size

module _ (input : List ℕ) (at stop closing : ℕ) (run : stop ≡ at + prefix_len is_plain (drop at input)) (is : closing_from input at ≡ Some closing) where
  abbrev run_length : ℕ
  run_length = prefix_len is_plain (drop at input)

  abbrev raw : List ℕ
  raw = slice_range input at closing

  size : length raw ≡ closing - at
  size = let ends = text_ends input at closing is in length-slice input at closing ends.ordered (omega (arith, ends.within))

  further : stop ≤ closing
  further = (text_ends input stop closing (sym (closing_from-run input at stop run) ∙ is)).ordered

  -- the run's bytes are the text's first ones
  same_byte : (k : ℕ) → k < closing - at → get_or raw k 0 ≡ get_or (drop at input) k 0
  same_byte k below = get_or-take (closing - at) (drop at input) k 0 below

  stops_within : stop < closing → has_escape raw ≡ true
  stops_within before =
      let ends = text_ends input at closing is in
      let within : run_length < closing - at = omega (arith, run) in
      let short : run_length < length (drop at input) = omega (arith, length-drop at input, ends.within) in
      some_escape raw run_length ends.chars (omega (arith, size)) (ap is_plain (same_byte run_length within) ∙ prefix_len_stops is_plain (drop at input) 0 short)

  stops_at_end : stop ≡ closing → has_escape raw ≡ false
  stops_at_end same =
      let all : run_length ≡ closing - at = omega (arith, run) in
      let passes : (k : ℕ) → k < length raw → is_plain (get_or raw k 0) ≡ true =
      λ k below. ap is_plain (same_byte k (omega (arith, size))) ∙ prefix_len_passes is_plain (drop at input) k 0 (omega (arith, size)) in
      no_escape raw (prefix_len_is is_plain raw (length raw) 0 (omega arith) passes (λ past. absurd (omega arith)))

  -- the text has an escape exactly where some byte doesn't stand for itself
  pub escape_is : nat_lt stop closing ≡ has_escape raw
  escape_is = go (nat_lt stop closing) refl
    where
      go : (before : Bool) → nat_lt stop closing ≡ before → before ≡ has_escape raw
      go true before = sym (stops_within (grind (arith, nat_tests)))
      go false before =
          let below : stop ≤ closing = further in
          sym (stops_at_end (grind (arith, nat_tests)))
