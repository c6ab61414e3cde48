-- The ASCII bytes that stand for themselves where a string's text begins.
use Rattle.std.proofs.Common.{◌≡◌, ◌+◌, ◌-◌, ◌<◌, ℕ, zero, suc, List, [], ◌∷◌, length, take, drop, slice_range, slice_index, Bool, true, false, Some, IsUtf8, IsAscii, nat_lt, cond, refl, sym, ap, ◌∙◌, arith, subst}
use Rattle.std.proofs.lemmas.Bool.Decides.{nat_tests}
use Rattle.std.proofs.lemmas.List.{drop_more}
use Rattle.std.proofs.lemmas.List.Sums.{prefix_len-drop_no}
use Rattle.std.proofs.lemmas.Str.{IsUtf8-from_ascii}
use Rattle.std.specs.List.{prefix_len}
use Rattle.smithy_json_grammar.specs.Ascii.{quotation_mark}
use Rattle.smithy_json_grammar.specs.Standing.{IsStringAt}
use Rattle.smithy_json_grammar.specs.Unescape.{has_escape}
use Rattle.smithy_json_grammar.specs.Private.Chars.{is_plain, is_plain_ascii, chars_length, closing_from}
use Rattle.smithy_json_grammar.proofs.CharsLemmas.{shift}
use Rattle.smithy_json_grammar.proofs.LaneLemmas.{longer_at, one_more}
use Rattle.smithy_json_grammar.proofs.StringLemmas.{closing_from-run, string_is_at, escape_is}

-- ---- one byte

small : (b : ℕ) → is_plain_ascii b ≡ true → b < 128
small b h = grind (arith, nat_tests)

plain : (b : ℕ) → is_plain_ascii b ≡ true → is_plain b ≡ true
plain b h = grind (arith, nat_tests)

-- ---- the run

ascii_before : (b : ℕ) (s : List ℕ) → b < 128 → IsAscii s → IsAscii (b ∷ s)
ascii_before b s h others zero = h
ascii_before b s h others (suc i) = others i

ascii_run : (s : List ℕ) → IsAscii (take (prefix_len is_plain_ascii s) s)
ascii_run [] = λ i. omega arith
ascii_run (b ∷ s) = go (is_plain_ascii b) refl (prefix_len is_plain_ascii s) (ascii_run s)
  where
    go : (passes : Bool) → is_plain_ascii b ≡ passes → (n : ℕ) → IsAscii (take n s) → IsAscii (take (cond passes (1 + n) 0) (b ∷ s))
    go true passes n others = subst (λ k. IsAscii (take k (b ∷ s))) (one_more n) (ascii_before b (take n s) (small b passes) others)
    go false passes n others = λ i. omega arith

module _ (input : List ℕ) (at end : ℕ) (is : end ≡ at + prefix_len is_plain_ascii (drop at input)) where
  -- the run of the bytes that stand for themselves goes on there
  pub same_run : at + prefix_len is_plain (drop at input) ≡ end + prefix_len is_plain (drop end input)
  same_run = longer_at is_plain_ascii is_plain plain input at end is

  pub run_utf8 : IsUtf8 (slice_range input at end)
  run_utf8 =
      let size : end - at ≡ prefix_len is_plain_ascii (drop at input) = omega (arith, is) in
      IsUtf8-from_ascii (slice_range input at end) (subst (λ n. IsAscii (take n (drop at input))) (sym size) (ascii_run (drop at input)))

  module _ (within : end < length input) (mark : slice_index input end ≡ quotation_mark) where
    run_is : end ≡ at + prefix_len is_plain (drop at input)
    run_is =
        let stops : prefix_len is_plain (drop end input) ≡ 0 = prefix_len-drop_no is_plain input end 0 within (ap is_plain mark) in
        omega (arith, same_run, stops)

    -- a closing mark behind it closes the text
    closes : closing_from input at ≡ Some end
    closes =
        let none : end + 0 ≡ end = omega arith in
        closing_from-run input at end run_is
        ∙ ap (λ rest. shift end (chars_length rest)) (drop_more input end 0 within ∙ ap (λ b. b ∷ drop (end + 1) input) mark)
        ∙ ap (λ k. Some k) none

    -- which has no escape
    pub no_escape_there : has_escape (slice_range input at end) ≡ false
    no_escape_there =
        let not_before : nat_lt end end ≡ false = grind (arith, nat_tests) in
        sym (escape_is input at end end run_is closes) ∙ not_before

-- so a string stands there
pub ascii_string_is : (input : List ℕ) (at end : ℕ) → end ≡ at + 1 + prefix_len is_plain_ascii (drop (at + 1) input) → end < length input
    → slice_index input at ≡ quotation_mark → slice_index input end ≡ quotation_mark → IsStringAt input at end
ascii_string_is input at end is within opens mark =
    string_is_at input at end opens (closes input (at + 1) end is within mark) (run_utf8 input (at + 1) end is)
