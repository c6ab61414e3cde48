-- Strings of which less is asked: their escapes byte by byte, and that each string of RFC 8259 is one.
use Rattle.std.proofs.Common.{◌≡◌, ◌≢◌, ◌+◌, ◌≤◌, ◌<◌, ◌&&◌, ◌||◌, ◌==◌, nat_le, ℕ, List, [], ◌∷◌, length, drop, slice_index, slice_range, Bool, true, false, IsUtf8, Some, refl, sym, ap, ◌∙◌, arith, inl, inr, subst}
use Rattle.std.specs.Char.{is_ascii_hexdigit, IsAsciiHexdigit}
use Rattle.std.specs.List.{list_all}
use Rattle.std.specs.Str.{is_utf8}
use Rattle.std.proofs.lemmas.Bool.Decides.{nat_tests}
use Rattle.std.proofs.lemmas.List.{drop_more, drop_all}
use Rattle.std.proofs.lemmas.Str.{is_utf8-from_IsUtf8, IsUtf8-from_is_utf8}
use Rattle.smithy_json_grammar.specs.Ascii.{escape, letter_u, space, is_short_escape}
use Rattle.smithy_json_grammar.specs.Grammar.{BeginsWithFourHexDigits, IsEscape, AreChars}
use Rattle.smithy_json_grammar.specs.StringText.{begins_with_four_hex_digits, is_escape, IsQuoted, escapes_are_valid, is_plain_text, is_lenient_text}
use Rattle.smithy_json_grammar.specs.Standing.{IsStringAt, IsQuotedAt}
use Rattle.smithy_json_grammar.proofs.QuotedPlaceLemmas.{quoted_closing_is}

eq_false : (b c : ℕ) → b ≢ c → (b == c) ≡ false
eq_false b c h = grind (arith, nat_tests)

eq_true : (b c : ℕ) → b ≡ c → (b == c) ≡ true
eq_true b c h = grind (arith, nat_tests)

-- ---- byte by byte

past_byte : (b : ℕ) (s : List ℕ) → b ≢ escape → escapes_are_valid (b ∷ s) ≡ escapes_are_valid s
past_byte b [] other = rw (eq_false b escape other) refl
past_byte b (c ∷ s) other = rw (eq_false b escape other) refl

module _ (bytes : List ℕ) (at : ℕ) (within : at < length bytes) where
  front : drop at bytes ≡ slice_index bytes at ∷ drop (at + 1) bytes
  front = drop_more bytes at 0 within

  pub valid_past_byte : slice_index bytes at ≢ escape → escapes_are_valid (drop at bytes) ≡ escapes_are_valid (drop (at + 1) bytes)
  valid_past_byte other = ap escapes_are_valid front ∙ past_byte (slice_index bytes at) (drop (at + 1) bytes) other

  -- a backslash at the end
  pub invalid_cut : slice_index bytes at ≡ escape → length bytes ≤ at + 1 → escapes_are_valid (drop at bytes) ≡ false
  invalid_cut is cut =
      ap escapes_are_valid (front ∙ ap (λ b. b ∷ drop (at + 1) bytes) is ∙ ap (λ rest. escape ∷ rest) (drop_all (at + 1) bytes cut))

  module _ (is : slice_index bytes at ≡ escape) (more : at + 2 ≤ length bytes) where
    both : drop at bytes ≡ escape ∷ slice_index bytes (at + 1) ∷ drop (at + 2) bytes
    both =
        let next : drop (at + 1) bytes ≡ slice_index bytes (at + 1) ∷ drop (at + 1 + 1) bytes = drop_more bytes (at + 1) 0 (omega arith) in
        let two : at + 1 + 1 ≡ at + 2 = omega arith in
        front ∙ ap (λ b. b ∷ drop (at + 1) bytes) is ∙ ap (λ rest. escape ∷ rest) next ∙ ap (λ k. escape ∷ slice_index bytes (at + 1) ∷ drop k bytes) two

    tested : escapes_are_valid (drop at bytes) ≡ (is_escape (slice_index bytes (at + 1)) (drop (at + 2) bytes) && escapes_are_valid (drop (at + 2) bytes))
    tested = ap escapes_are_valid both

    pub valid_past_escape : is_escape (slice_index bytes (at + 1)) (drop (at + 2) bytes) ≡ true
        → escapes_are_valid (drop at bytes) ≡ escapes_are_valid (drop (at + 2) bytes)
    valid_past_escape holds = tested ∙ ap (λ b. b && escapes_are_valid (drop (at + 2) bytes)) holds

    pub invalid_escape : is_escape (slice_index bytes (at + 1)) (drop (at + 2) bytes) ≡ false → escapes_are_valid (drop at bytes) ≡ false
    invalid_escape fails = tested ∙ ap (λ b. b && escapes_are_valid (drop (at + 2) bytes)) fails

pub valid_at_end : (bytes : List ℕ) (at : ℕ) → length bytes ≤ at → escapes_are_valid (drop at bytes) ≡ true
valid_at_end bytes at past = ap escapes_are_valid (drop_all at bytes past)

-- ---- strings of RFC 8259

pub chars_are_quoted : (raw : List ℕ) → AreChars raw → IsQuoted raw
chars_are_quoted [] h = h
chars_are_quoted (b ∷ []) h = (h.1, h.2)
chars_are_quoted (b ∷ c ∷ raw) (inl h) = inl ((h.0.1, h.0.2), chars_are_quoted (c ∷ raw) h.1)
chars_are_quoted (b ∷ c ∷ raw) (inr h) = inr (h.0, chars_are_quoted raw h.2)

hex_passes : (b : ℕ) → IsAsciiHexdigit b → is_ascii_hexdigit b ≡ true
hex_passes b h = grind (arith, nat_tests)

four_pass : (s : List ℕ) → BeginsWithFourHexDigits s → begins_with_four_hex_digits s ≡ true
four_pass [] h = absurd h
four_pass (a ∷ []) h = absurd h
four_pass (a ∷ b ∷ []) h = absurd h
four_pass (a ∷ b ∷ c ∷ []) h = absurd h
four_pass (a ∷ b ∷ c ∷ d ∷ s) h = rw (hex_passes a h.0, hex_passes b h.1, hex_passes c h.2, hex_passes d h.3) refl

escape_passes : (letter : ℕ) (rest : List ℕ) → IsEscape letter rest → is_escape letter rest ≡ true
escape_passes letter rest (inl h) = rw h refl
escape_passes letter rest (inr h) = either (is_short_escape letter) (rw (eq_true letter letter_u h.0, four_pass rest h.1) refl)
  where
    either : (p : Bool) {q : Bool} → q ≡ true → (p || q) ≡ true
    either true h = refl
    either false h = h

chars_valid : (raw : List ℕ) → AreChars raw → escapes_are_valid raw ≡ true
chars_valid [] h = refl
chars_valid (b ∷ []) h = past_byte b [] h.2
chars_valid (b ∷ c ∷ raw) (inl h) = past_byte b (c ∷ raw) h.0.2 ∙ chars_valid (c ∷ raw) h.1
chars_valid (b ∷ c ∷ raw) (inr h) = rw (h.0, escape_passes c raw h.1) (chars_valid raw h.2)

pub string_is_quoted : (input : List ℕ) (at closing : ℕ) → IsStringAt input at closing → IsQuotedAt input at closing
string_is_quoted input at closing h = record {
  ordered = h.ordered;
  within = h.within;
  opens = h.opens;
  quoted = chars_are_quoted (slice_range input (at + 1) closing) h.text.1;
  closes = h.closes;
}

pub string_is_lenient : (input : List ℕ) (at closing : ℕ) → IsStringAt input at closing → is_lenient_text (slice_range input (at + 1) closing) ≡ true
string_is_lenient input at closing h =
    rw (is_utf8-from_IsUtf8 (slice_range input (at + 1) closing) h.text.0, chars_valid (slice_range input (at + 1) closing) h.text.1) refl

pub is_lenient : (raw : List ℕ) → IsUtf8 raw → escapes_are_valid raw ≡ true → is_lenient_text raw ≡ true
is_lenient raw utf8 valid = rw (is_utf8-from_IsUtf8 raw utf8, valid) refl

-- ---- without control characters

no_utf8 : (raw : List ℕ) → (IsUtf8 raw → ⊥) → is_utf8 raw ≡ false
no_utf8 raw none = by (is_utf8 raw) refl
  where
    by : (test : Bool) → is_utf8 raw ≡ test → is_utf8 raw ≡ false
    by true is = absurd (none (IsUtf8-from_is_utf8 raw is))
    by false is = is

pub plain_is : (raw : List ℕ) (plain : Bool) → IsUtf8 raw → plain ≡ list_all (nat_le space) raw → plain ≡ is_plain_text raw
plain_is raw plain utf8 is = is ∙ ap (λ b. b && list_all (nat_le space) raw) (sym (is_utf8-from_IsUtf8 raw utf8))

pub no_plain : (raw : List ℕ) → (IsUtf8 raw → ⊥) → false ≡ is_plain_text raw
no_plain raw none = ap (λ b. b && list_all (nat_le space) raw) (sym (no_utf8 raw none))

-- ---- one closing mark

same_some : (m n : ℕ) → Some m ≡ Some n → m ≡ n
same_some m n h = cc

pub one_closing : (input : List ℕ) (at m n : ℕ) → IsQuotedAt input at m → IsQuotedAt input at n → m ≡ n
one_closing input at m n h k = same_some m n (sym (quoted_closing_is input at m h) ∙ quoted_closing_is input at n k)

either_fails : (p q : Bool) → q ≡ false → (p && q) ≡ false
either_fails true q h = h
either_fails false q h = refl

module _ (input : List ℕ) (at closing : ℕ) (here : IsQuotedAt input at closing) (other : ℕ) (there : IsQuotedAt input at other) where
  -- what isn't in UTF-8, and what has another escape, is no such text
  pub not_utf8 : (IsUtf8 (slice_range input (at + 1) closing) → ⊥) → is_lenient_text (slice_range input (at + 1) other) ≡ false
  not_utf8 none =
      subst (λ k. is_lenient_text (slice_range input (at + 1) k) ≡ false) (one_closing input at closing other here there)
      (rw (no_utf8 (slice_range input (at + 1) closing) none) refl)

  pub not_valid : escapes_are_valid (slice_range input (at + 1) closing) ≡ false → is_lenient_text (slice_range input (at + 1) other) ≡ false
  not_valid fails =
      subst (λ k. is_lenient_text (slice_range input (at + 1) k) ≡ false) (one_closing input at closing other here there)
      (either_fails (is_utf8 (slice_range input (at + 1) closing)) (escapes_are_valid (slice_range input (at + 1) closing)) fails)
