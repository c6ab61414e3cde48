-- The run of a number's bytes.
use Rattle.std.proofs.Common.{◌≡◌, ◌+◌, ◌-◌, ◌<◌, ℕ, zero, suc, List, [], ◌∷◌, length, take, drop, slice_range, slice_index, Bool, true, false, cond, IsUtf8, IsAscii, refl, sym, ap, ◌∙◌, arith, subst, inl, inr}
use Rattle.std.proofs.lemmas.Bool.Decides.{nat_tests}
use Rattle.std.proofs.lemmas.List.{drop-drop, drop_more}
use Rattle.std.proofs.lemmas.Str.{IsUtf8-from_ascii}
use Rattle.smithy_json_grammar.specs.Ascii.{is_e}
use Rattle.std.specs.List.{prefix_len}
use Rattle.smithy_json_tokens.specs.Expecting.{is_number_byte}
use Rattle.smithy_json_tokens.specs.TokenRules.{is_piece, number_length, run_token, at_run, scan_number}
use Rattle.smithy_json_tokens.specs.Private.Scans.{BeginsNumber}

-- ---- they are ASCII

piece_small : (sign : Bool) (b : ℕ) → is_piece sign b ≡ true → b < 128
piece_small true b h = grind (arith, nat_tests)
piece_small false b h = grind (arith, nat_tests)

e_small : (b : ℕ) → is_e b ≡ true → b < 128
e_small b h = grind (arith, nat_tests)

first_small : (b : ℕ) → BeginsNumber b → b < 128
first_small b (inl h) = omega (arith, h)
first_small b (inr h) = omega (arith, h.1)

ascii_before : (b : ℕ) (s : List ℕ) → b < 128 → IsAscii s → IsAscii (b ∷ s)
ascii_before b s small others zero = small
ascii_before b s small others (suc i) = others i

run_ascii : (sign : Bool) (s : List ℕ) → IsAscii (take (number_length sign s) s)
run_ascii sign [] = λ i. omega arith
run_ascii sign (b ∷ s) = go (is_piece sign b) refl (is_e b) refl (number_length false s) (run_ascii false s) (number_length true s) (run_ascii true s)
  where
    go : (piece : Bool) → is_piece sign b ≡ piece → (e : Bool) → is_e b ≡ e → (n : ℕ) → IsAscii (take n s) → (m : ℕ) → IsAscii (take m s) → IsAscii (take (cond piece (suc n) (cond e (suc m) 0)) (b ∷ s))
    go true piece e _ n few m many = ascii_before b (take n s) (piece_small sign b piece) few
    go false piece true e n few m many = ascii_before b (take m s) (e_small b e) many
    go false piece false e n few m many = λ i. omega arith

-- ---- where they end

module _ (input : List ℕ) (at end : ℕ) (within : at < length input) (ends : end ≡ at + 1 + number_length false (drop (at + 1) input)) where
  front : drop at input ≡ slice_index input at ∷ drop (at + 1) input
  front = drop_more input at 0 within

  run_is : slice_range input at end ≡ slice_index input at ∷ take (number_length false (drop (at + 1) input)) (drop (at + 1) input)
  run_is =
      let size : end - at ≡ suc (number_length false (drop (at + 1) input)) = omega (arith, ends) in
      ap (λ n. take n (drop at input)) size ∙ ap (take (suc (number_length false (drop (at + 1) input)))) front

  pub run_utf8 : BeginsNumber (slice_index input at) → IsUtf8 (slice_range input at end)
  run_utf8 begins =
      subst IsUtf8 (sym run_is)
      (IsUtf8-from_ascii (slice_index input at ∷ take (number_length false (drop (at + 1) input)) (drop (at + 1) input))
      (ascii_before (slice_index input at) (take (number_length false (drop (at + 1) input)) (drop (at + 1) input)) (first_small (slice_index input at) begins) (run_ascii false (drop (at + 1) input))))

  pub scan_number-run : scan_number (slice_index input at) (drop (at + 1) input) ≡ at_run (drop at input) (drop end input) (run_token (slice_range input at end))
  scan_number-run =
      let s = drop (at + 1) input in
      let n = number_length false s in
      let behind : drop n s ≡ drop end input = drop-drop n (at + 1) input ∙ ap (λ k. drop k input) (sym ends) in
      ap (λ here. at_run here (drop n s) (run_token (slice_index input at ∷ take n s))) (sym front)
      ∙ ap (λ rest. at_run (drop at input) rest (run_token (slice_index input at ∷ take n s))) behind
      ∙ ap (λ raw. at_run (drop at input) (drop end input) (run_token raw)) (sym run_is)

-- ---- the same bytes, wherever they stand

number_byte_small : (b : ℕ) → is_number_byte b ≡ true → b < 128
number_byte_small b h = grind (arith, nat_tests)

number_bytes_ascii : (s : List ℕ) → IsAscii (take (prefix_len is_number_byte s) s)
number_bytes_ascii [] = λ i. omega arith
number_bytes_ascii (b ∷ s) = go (is_number_byte b) refl (prefix_len is_number_byte s) (number_bytes_ascii s)
  where
    go : (is : Bool) → is_number_byte b ≡ is → (n : ℕ) → IsAscii (take n s) → IsAscii (take (cond is (1 + n) 0) (b ∷ s))
    go true is n rest =
        let one : suc n ≡ 1 + n = omega arith in
        subst (λ k. IsAscii (take k (b ∷ s))) one (ascii_before b (take n s) (number_byte_small b is) rest)
    go false is n rest = λ i. omega arith

pub number_bytes_utf8 : (input : List ℕ) (at end : ℕ) → end ≡ at + prefix_len is_number_byte (drop at input) → IsUtf8 (slice_range input at end)
number_bytes_utf8 input at end is =
    let size : prefix_len is_number_byte (drop at input) ≡ end - at = omega (arith, is) in
    IsUtf8-from_ascii (slice_range input at end) (subst (λ k. IsAscii (take k (drop at input))) size (number_bytes_ascii (drop at input)))
