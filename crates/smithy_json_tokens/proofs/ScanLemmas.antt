-- What the loops of the scanners pass.
use Rattle.std.proofs.Common.{◌≡◌, ◌+◌, ◌-◌, ◌<◌, ◌≤◌, ◌==◌, ◌||◌, nat_lt, ℕ, suc, List, [], ◌∷◌, get_or, length, take, drop, slice_range, slice_index_or, Bool, true, false, cond, IsUtf8, refl, sym, ap, ◌∙◌, arith}
use Rattle.std.proofs.lemmas.Bool.Decides.{nat_tests}
use Rattle.std.proofs.lemmas.List.{drop-drop, drop_more, drop_all, length-drop, get_or-drop}
use Rattle.std.specs.List.{prefix_len}
use Rattle.std.specs.Str.{is_utf8}
use Rattle.std.proofs.lemmas.Str.{is_utf8-from_IsUtf8, IsUtf8-from_is_utf8}
use Rattle.smithy_json_grammar.specs.Ascii.{quotation_mark, escape, space}
use Rattle.smithy_json_grammar.specs.Private.Chars.{is_plain}
use Rattle.smithy_json_tokens.specs.declared.error.DeserializeErrorKind.TheVariants.{InvalidUtf8}
use Rattle.smithy_json_tokens.specs.Tokens.{JsonToken}
use Rattle.smithy_json_tokens.specs.TokenRules.{scanned, failed, text_length, at_mark, scan_string}

-- ---- where a string's text ends

plain_step : (b : ℕ) (s : List ℕ) → is_plain b ≡ true → text_length (b ∷ s) ≡ suc (text_length s)
plain_step b s plain =
    let no_mark : (b == quotation_mark || nat_lt b space) ≡ false = grind (arith, nat_tests) in
    let no_escape : (b == escape) ≡ false = grind (arith, nat_tests) in
    rw (no_mark, no_escape) refl

-- bytes that stand for themselves
plain_run : (s : List ℕ) → text_length s ≡ prefix_len is_plain s + text_length (drop (prefix_len is_plain s) s)
plain_run [] = refl
plain_run (b ∷ s) = go (is_plain b) refl (prefix_len is_plain s) (plain_run s)
  where
    go : (plain : Bool) → is_plain b ≡ plain → (n : ℕ) → text_length s ≡ n + text_length (drop n s)
        → text_length (b ∷ s) ≡ cond plain (1 + n) 0 + text_length (drop (cond plain (1 + n) 0) (b ∷ s))
    go true plain n rest =
        let one : 1 + n ≡ suc n = omega arith in
        let same : text_length (drop (1 + n) (b ∷ s)) ≡ text_length (drop n s) = ap (λ k. text_length (drop k (b ∷ s))) one in
        omega (arith, plain_step b s plain, rest, same)
    go false plain n rest = let none : 0 + text_length (b ∷ s) ≡ text_length (b ∷ s) = omega arith in sym none

pub text_length-run : (input : List ℕ) (at end : ℕ) → end ≡ at + prefix_len is_plain (drop at input) → at + text_length (drop at input) ≡ end + text_length (drop end input)
text_length-run input at end is =
    let n = prefix_len is_plain (drop at input) in
    let behind : drop n (drop at input) ≡ drop end input = drop-drop n at input ∙ ap (λ k. drop k input) (sym is) in
    omega (arith, is, plain_run (drop at input), ap text_length behind)

-- a backslash alone at the input's end
pub text_length-alone : (input : List ℕ) (end : ℕ) → end < length input → length input - end ≤ 1 → slice_index_or input end 0 ≡ escape
    → end + text_length (drop end input) ≡ length input
text_length-alone input end within last is =
    let front : drop end input ≡ escape ∷ drop (end + 1) input = drop_more input end 0 within ∙ ap (λ b. b ∷ drop (end + 1) input) is in
    let alone : drop end input ≡ escape ∷ [] = front ∙ ap (λ rest. escape ∷ rest) (drop_all (end + 1) input (omega arith)) in
    let one : text_length (drop end input) ≡ 1 = ap text_length alone in
    omega (arith, one)

no_more : (s : List ℕ) → (0 < length s → is_plain (get_or s 0 0) ≡ false) → (0 < length s → (get_or s 0 0 == escape) ≡ false) → text_length s ≡ 0
no_more [] h k = refl
no_more (b ∷ s) h k =
    let stops = h (omega arith) in
    let other = k (omega arith) in
    let mark : (b == quotation_mark || nat_lt b space) ≡ true = grind (arith, nat_tests, stops, other) in
    rw mark refl

-- the byte that ends it, or the input's end
pub text_length-stops : (input : List ℕ) (end : ℕ) → (end < length input → is_plain (slice_index_or input end 0) ≡ false) → (end < length input → (slice_index_or input end 0 == escape) ≡ false)
    → end ≡ end + text_length (drop end input)
text_length-stops input end stops other =
    let same : get_or (drop end input) 0 0 ≡ slice_index_or input end 0 = get_or-drop end input 0 0 ∙ ap (λ k. get_or input k 0) (zero_more end) in
    let none = no_more (drop end input)
    (λ some. ap is_plain same ∙ stops (omega (arith, length-drop end input)))
    (λ some. ap (λ b. b == escape) same ∙ other (omega (arith, length-drop end input))) in
    omega (arith, none)
  where
    zero_more : (n : ℕ) → n + 0 ≡ n
    zero_more n = omega arith

-- a backslash and the byte that it takes
pub text_length-taken : (input : List ℕ) (end : ℕ) → end < length input → 1 < length input - end → slice_index_or input end 0 ≡ escape
    → end + text_length (drop end input) ≡ end + 2 + text_length (drop (end + 2) input)
text_length-taken input end within more is =
    let two : end + 1 + 1 ≡ end + 2 = omega arith in
    let front : drop end input ≡ escape ∷ slice_index_or input (end + 1) 0 ∷ drop (end + 2) input =
    drop_more input end 0 within ∙ ap (λ b. b ∷ drop (end + 1) input) is
    ∙ ap (λ rest. escape ∷ rest) (drop_more input (end + 1) 0 (omega arith) ∙ ap (λ k. slice_index_or input (end + 1) 0 ∷ drop k input) two) in
    let step : text_length (drop end input) ≡ suc (suc (text_length (drop (end + 2) input))) = ap text_length front in
    omega (arith, step)

-- ---- the byte that ends a string's text

not_utf8 : (raw : List ℕ) → (IsUtf8 raw → ⊥) → is_utf8 raw ≡ false
not_utf8 raw ill = go (is_utf8 raw) refl
  where
    go : (u : Bool) → is_utf8 raw ≡ u → u ≡ false
    go true is = absurd (ill (IsUtf8-from_is_utf8 raw is))
    go false is = refl

module _ (t : List ℕ → JsonToken) (input : List ℕ) (at end : ℕ) (ends : end ≡ at + 1 + text_length (drop (at + 1) input)) where
  mark : scan_string t (drop at input) (drop (at + 1) input) ≡ at_mark t (drop at input) (slice_range input (at + 1) end) (drop end input)
  mark =
      let n = text_length (drop (at + 1) input) in
      let size : n ≡ end - (at + 1) = omega (arith, ends) in
      let behind : drop n (drop (at + 1) input) ≡ drop end input = drop-drop n (at + 1) input ∙ ap (λ k. drop k input) (sym ends) in
      ap (λ k. at_mark t (drop at input) (take k (drop (at + 1) input)) (drop n (drop (at + 1) input))) size
      ∙ ap (at_mark t (drop at input) (slice_range input (at + 1) end)) behind

  module _ (within : end < length input) (quote : slice_index_or input end 0 ≡ quotation_mark) where
    front : drop end input ≡ quotation_mark ∷ drop (end + 1) input
    front = drop_more input end 0 within ∙ ap (λ b. b ∷ drop (end + 1) input) quote

    -- a text in UTF-8
    pub scan_string-closes : IsUtf8 (slice_range input (at + 1) end) → scan_string t (drop at input) (drop (at + 1) input) ≡ scanned (t (slice_range input (at + 1) end)) (drop (end + 1) input)
    scan_string-closes is =
        mark ∙ ap (at_mark t (drop at input) (slice_range input (at + 1) end)) front
        ∙ ap (λ u. cond u (scanned (t (slice_range input (at + 1) end)) (drop (end + 1) input)) (failed InvalidUtf8 (drop at input))) (is_utf8-from_IsUtf8 (slice_range input (at + 1) end) is)

    -- another
    pub scan_string-ill_formed : (IsUtf8 (slice_range input (at + 1) end) → ⊥) → scan_string t (drop at input) (drop (at + 1) input) ≡ failed InvalidUtf8 (drop at input)
    scan_string-ill_formed ill =
        mark ∙ ap (at_mark t (drop at input) (slice_range input (at + 1) end)) front
        ∙ ap (λ u. cond u (scanned (t (slice_range input (at + 1) end)) (drop (end + 1) input)) (failed InvalidUtf8 (drop at input))) (not_utf8 (slice_range input (at + 1) end) ill)
