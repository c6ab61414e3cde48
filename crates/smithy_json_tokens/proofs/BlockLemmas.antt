-- The text of a string, by the mask of the bytes that stop a run.
use Rattle.std.proofs.Common.{◌≡◌, ◌+◌, ◌-◌, ◌*◌, ◌/◌, ◌^◌, ◌<◌, ◌≤◌, ◌==◌, ℕ, zero, suc, Bool, true, false, cond, List, [], ◌∷◌, map, length, take, drop, slice_index_or, refl, sym, ap, ◌∙◌, arith}
use Rattle.std.proofs.Math.Nat.{pow-suc, mul_comm, zero-div, div-one, div-div-eq-div-mul}
use Rattle.std.proofs.lemmas.List.{drop-drop, drop-take, drop-map, drop_all}
use Rattle.std.specs.List.{prefix_len}
use Rattle.std.specs.Simd.Lanes.{mask_l, chunk}
use Rattle.smithy_json_grammar.specs.Ascii.{escape}
use Rattle.smithy_json_grammar.specs.Private.Chars.{is_plain, ends_run}
use Rattle.smithy_json_grammar.proofs.LaneLemmas.{through}
use Rattle.smithy_json_grammar.proofs.StringLemmas.{run_stops}
use Rattle.smithy_json_tokens.specs.TokenRules.{text_length}
use Rattle.smithy_json_tokens.proofs.ScanLemmas.{text_length-run, text_length-stops, text_length-alone}

-- ---- a mask without its lowest bits

half : (b : Bool) (n : ℕ) → (cond b 1 0 + 2 * n) / 2 ≡ n
half true n = omega arith
half false n = omega arith

mask_drop : (k : ℕ) (bs : List Bool) → mask_l bs / 2 ^ k ≡ mask_l (drop k bs)
mask_drop zero bs = div-one (mask_l bs)
mask_drop (suc k) [] = zero-div (2 ^ suc k)
mask_drop (suc k) (b ∷ bs) =
    ap (λ n. mask_l (b ∷ bs) / n) (pow-suc 2 k ∙ mul_comm (2 ^ k) 2) ∙ sym (div-div-eq-div-mul (mask_l (b ∷ bs)) 2 (2 ^ k))
    ∙ ap (λ n. n / 2 ^ k) (half b (mask_l bs)) ∙ mask_drop k bs

-- is the mask of the bytes behind
pub rest_mask : (input : List ℕ) (at n k : ℕ) → k ≤ n → mask_l (map (ends_run true false) (chunk at n input)) / 2 ^ k ≡ mask_l (map (ends_run true false) (chunk (at + k) (n - k) input))
rest_mask input at n k le =
    let size : n ≡ k + (n - k) = omega arith in
    mask_drop k (map (ends_run true false) (chunk at n input))
    ∙ ap mask_l (drop-map (ends_run true false) k (chunk at n input) ∙ ap (map (ends_run true false)) (ap (λ m. drop k (take m (drop at input))) size ∙ drop-take k (n - k) (drop at input) ∙ ap (take (n - k)) (drop-drop k at input)))

-- ---- what the text does at a stop

-- it ends at a byte that isn't a backslash, and at the input's end
pub ends_at : (input : List ℕ) (at stop : ℕ) → stop ≡ at + prefix_len is_plain (drop at input) → (stop < length input → (slice_index_or input stop 0 == escape) ≡ false) → text_length (drop stop input) ≡ 0
ends_at input at stop is other = omega (arith, text_length-stops input stop (run_stops input at stop is) other)

-- it goes on behind bytes of which none stops it
pub passes : (input : List ℕ) (at n : ℕ) → at + n ≤ length input → mask_l (map (ends_run true false) (chunk at n input)) ≡ 0 → at + text_length (drop at input) ≡ at + n + text_length (drop (at + n) input)
passes input at n room none =
    let run = through (ends_run true false) input at n room none in
    let stop = at + prefix_len is_plain (drop at input) in
    let same : stop ≡ at + n + prefix_len is_plain (drop (at + n) input) = omega (arith, run) in
    text_length-run input at stop refl ∙ sym (text_length-run input (at + n) stop same)

-- a backslash alone at the input's end
pub ends_alone : (input : List ℕ) (stop : ℕ) → stop < length input → length input - stop ≤ 1 → slice_index_or input stop 0 ≡ escape
    → stop + text_length (drop stop input) ≡ length input + text_length (drop (length input) input)
ends_alone input stop within last is =
    let none : text_length (drop (length input) input) ≡ 0 = ap text_length (drop_all (length input) input (omega arith)) in
    omega (arith, text_length-alone input stop within last is, none)
