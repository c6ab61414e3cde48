-- Parts of an input.
use Rattle.std.proofs.Common.{◌≡◌, ◌+◌, ◌-◌, ◌≤◌, ℕ, List, ◌++◌, length, take, drop, slice_range, sym, ap, ◌∙◌, arith, refl, subst, IsUtf8}
use Rattle.std.proofs.lemmas.Str.{IsCharBoundary-from_take}
use Rattle.std.specs.Str.{IsCharBoundary}
use Rattle.std.proofs.lemmas.List.{take-append-drop, drop-drop, length-drop, length-take-le, length-append, take_at, drop_at, length-take}

pub length-slice : (input : List ℕ) (at end : ℕ) → at ≤ end → end ≤ length input → length (slice_range input at end) ≡ end - at
length-slice input at end ordered within = length-take-le (end - at) (drop at input) (omega (arith, length-drop at input))

drop_further : (input : List ℕ) (at end : ℕ) → at ≤ end → drop (end - at) (drop at input) ≡ drop end input
drop_further input at end ordered =
    let same : at + (end - at) ≡ end = omega arith in
    drop-drop (end - at) at input ∙ ap (λ n. drop n input) same

-- what is left at the first place is the part between the places, and what is left at the second
pub drop-slice : (input : List ℕ) (at end : ℕ) → at ≤ end → drop at input ≡ slice_range input at end ++ drop end input
drop-slice input at end ordered =
    sym (take-append-drop (end - at) (drop at input))
    ∙ ap (λ rest. slice_range input at end ++ rest) (drop_further input at end ordered)

module _ (input : List ℕ) (at : ℕ) (text rest : List ℕ) (here : drop at input ≡ text ++ rest) (bound : at ≤ length input) where
  -- a text that stands at a place ends within the input
  pub end_within : at + length text ≤ length input
  end_within = omega (arith, length-drop at input, ap length here, length-append text rest)

  -- and it is the part up to its end
  pub slice_is_text : slice_range input at (at + length text) ≡ text
  slice_is_text =
      let size : at + length text - at ≡ length text = omega arith in
      ap (λ n. take n (drop at input)) size ∙ ap (take (length text)) here ∙ take_at text rest _ refl

  -- and the rest follows it
  pub drop_past_text : drop (at + length text) input ≡ rest
  drop_past_text = sym (drop-drop (length text) at input) ∙ ap (drop (length text)) here ∙ drop_at text rest _ refl

-- a text between two places is the part between them
pub slice_between : (input : List ℕ) (at end : ℕ) (text : List ℕ) → at ≤ end → end ≤ length input → drop at input ≡ text ++ drop end input → slice_range input at end ≡ text
slice_between input at end text ordered within here =
    let size : at + length text ≡ end = omega (arith, length-drop at input, length-drop end input, ap length here, length-append text (drop end input)) in
    ap (slice_range input at) (sym size) ∙ slice_is_text input at text (drop end input) here (omega arith)

-- a text may be cut behind a front that is a text
pub can_cut : (old new : List ℕ) (n : ℕ) → IsUtf8 old → IsUtf8 new → n ≡ length old → take (length old) new ≡ old → IsCharBoundary new n
can_cut old new n old_text new_text size front =
    let short : length old ≤ length new = omega (arith, ap length front, length-take (length old) new) in
    IsCharBoundary-from_take new n new_text (omega arith) (subst IsUtf8 (sym front ∙ ap (λ k. take k new) (sym size)) old_text)
