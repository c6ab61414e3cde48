-- How a text is escaped, and that it unescapes to itself.
use Rattle.std.proofs.Common.{◌≡◌, ◌≢◌, ◌+◌, ◌≤◌, ◌<◌, ℕ, suc, List, [], ◌∷◌, ◌++◌, map, length, take, drop, get_or, Bool, true, false, ◌==◌, Ok, Err, nat_lt, refl, sym, ap, ◌∙◌, arith, cond, subst, inl, inr, ◌⊎◌, nat_le, slice_range, ◌-◌}
use Rattle.std.proofs.lemmas.Bool.Decides.{nat_tests}
use Rattle.std.proofs.lemmas.List.{append-nil, drop_all, take_all, length-append, drop-drop, length-drop}
use Rattle.std.proofs.lemmas.List.Sums.{prefix_len-le-length}
use Rattle.std.proofs.lemmas.List.FromFn.{get_or-map-range_with_len}
use Rattle.std.proofs.lemmas.Str.{encode_ascii, IsCharBoundary-after_ascii, IsCharBoundary-before_ascii, IsCharBoundary-end}
use Rattle.std.specs.Str.{IsCharBoundary}
use Rattle.std.specs.Char.Escape.{hex_digit_at}
use Rattle.std.specs.Char.Utf16.{is_high_surrogate, is_low_surrogate}
use Rattle.std.specs.List.{prefix_len, range_with_len}
use Rattle.std.specs.Prelude.{encode_utf8, IsUtf8}
use Rattle.smithy_json_grammar.specs.Ascii.{quotation_mark, escape, backspace, form_feed, line_feed, carriage_return, tab, space}
use Rattle.smithy_json.specs.Escape.{hex_escape, escaped_byte, escaped}
use Rattle.smithy_json_grammar.specs.Unescape.{with_front, code_unit, unescape}
use Rattle.smithy_json_grammar.specs.Private.Chars.{is_plain}
use Rattle.smithy_json_grammar.specs.declared.escape_error.EscapeError.TheVariants.{InvalidUnicodeEscape}
use Rattle.smithy_json_grammar.proofs.UnescapeLemmas.{digits_alone}
use Rattle.smithy_json_grammar.proofs.StringLemmas.{run_stops}

-- ---- one byte

other_byte : (b c : ℕ) → c < 32 → is_plain b ≡ true → (b == c) ≡ false
other_byte b c small plain = grind (arith, nat_tests)

not_quote : (b : ℕ) → is_plain b ≡ true → (b == quotation_mark) ≡ false
not_quote b plain = grind (arith, nat_tests)

not_escape : (b : ℕ) → is_plain b ≡ true → (b == escape) ≡ false
not_escape b plain = grind (arith, nat_tests)

not_control : (b : ℕ) → is_plain b ≡ true → nat_lt b space ≡ false
not_control b plain = grind (arith, nat_tests)

-- a byte that stands for itself is written so
pub plain_byte : (b : ℕ) → is_plain b ≡ true → escaped_byte b ≡ b ∷ []
plain_byte b plain = rw (
  not_quote b plain,
  not_escape b plain,
  other_byte b backspace (omega arith) plain,
  other_byte b form_feed (omega arith) plain,
  other_byte b line_feed (omega arith) plain,
  other_byte b carriage_return (omega arith) plain,
  other_byte b tab (omega arith) plain,
  not_control b plain,
) refl

-- the others are a quotation mark, a backslash and the bytes below 0x20
pub other_bytes : (b : ℕ) → is_plain b ≡ false → (b ≡ quotation_mark) ⊎ ((b ≡ escape) ⊎ (b < 32))
other_bytes b other = go (b == quotation_mark) refl (b == escape) refl
  where
    go : (quote : Bool) → (b == quotation_mark) ≡ quote → (slash : Bool) → (b == escape) ≡ slash → (b ≡ quotation_mark) ⊎ ((b ≡ escape) ⊎ (b < 32))
    go true quote _ _ = inl (grind (arith, nat_tests))
    go false quote true slash = inr (inl (grind (arith, nat_tests)))
    go false quote false slash = inr (inr (grind (arith, nat_tests)))

pub other_is_ascii : (b : ℕ) → is_plain b ≡ false → b < 128
other_is_ascii b other = go (other_bytes b other)
  where
    go : (b ≡ quotation_mark) ⊎ ((b ≡ escape) ⊎ (b < 32)) → b < 128
    go (inl is) = omega arith
    go (inr (inl is)) = omega arith
    go (inr (inr is)) = omega arith

-- a fact of each byte below 0x20, by computing
pub each_control : {X : Type 0} (f g : ℕ → X) (d : X) → map f (range_with_len 0 32) ≡ map g (range_with_len 0 32) → (b : ℕ) → b < 32 → f b ≡ g b
each_control f g d same b below =
    sym (get_or-map-range_with_len f 0 32 b b d below (omega arith))
    ∙ (ap (λ l. get_or l b d) same ∙ get_or-map-range_with_len g 0 32 b b d below (omega arith))

all_long : map (λ b. nat_le 2 (length (escaped_byte b))) (range_with_len 0 32) ≡ map (λ b. true) (range_with_len 0 32)
all_long = refl

all_digits : map (λ b. code_unit (0x30 ∷ 0x30 ∷ hex_digit_at 0x10 b ∷ hex_digit_at 1 b ∷ [])) (range_with_len 0 32) ≡ map (λ b. Ok b) (range_with_len 0 32)
unfolding code_unit
all_digits = refl

long_control : (b : ℕ) → b < 32 → nat_le 2 (length (escaped_byte b)) ≡ true
long_control b below = each_control (λ b. nat_le 2 (length (escaped_byte b))) (λ b. true) false all_long b below

digits_of_control : (b : ℕ) → b < 32 → code_unit (0x30 ∷ 0x30 ∷ hex_digit_at 0x10 b ∷ hex_digit_at 1 b ∷ []) ≡ Ok b
digits_of_control b below = each_control (λ b. code_unit (0x30 ∷ 0x30 ∷ hex_digit_at 0x10 b ∷ hex_digit_at 1 b ∷ [])) (λ b. Ok b) (Ok 0) all_digits b below

-- an escape has two bytes or more
escape_is_long : (b : ℕ) → is_plain b ≡ false → 2 ≤ length (escaped_byte b)
escape_is_long b other = go (other_bytes b other)
  where
    go : (b ≡ quotation_mark) ⊎ ((b ≡ escape) ⊎ (b < 32)) → 2 ≤ length (escaped_byte b)
    go (inl is) = rw is (omega arith)
    go (inr (inl is)) = rw is (omega arith)
    go (inr (inr below)) =
        let long = long_control b below in grind (arith, nat_tests)

-- ---- unescaping an escaped byte

is_no_surrogate : (b : ℕ) → b < 32 → (is_high_surrogate b ≡ false) × (is_low_surrogate b ≡ false)
is_no_surrogate b below = (grind (arith, nat_tests), grind (arith, nat_tests))

hex_unescapes : (b : ℕ) (rest : List ℕ) → b < 32 → unescape (hex_escape b ++ rest) ≡ with_front (b ∷ []) (unescape rest)
hex_unescapes b rest below =
    let surrogate = is_no_surrogate b below in
    digits_alone (0x30 ∷ 0x30 ∷ hex_digit_at 0x10 b ∷ hex_digit_at 1 b ∷ rest) b (omega arith) (digits_of_control b below) surrogate.0
    ∙ ap (λ low. cond low (Err InvalidUnicodeEscape) (with_front (encode_utf8 b) (unescape rest))) surrogate.1
    ∙ ap (λ bytes. with_front bytes (unescape rest)) (encode_ascii b (omega arith))

is_byte : (b c : ℕ) → (b == c) ≡ true → c ≡ b
is_byte b c test = grind (arith, nat_tests)

abbrev Unescapes_to : List ℕ → ℕ → Type 0
Unescapes_to rest b = unescape (escaped_byte b ++ rest) ≡ with_front (b ∷ []) (unescape rest)

control_unescapes : (b : ℕ) (rest : List ℕ) → b < 32 → Unescapes_to rest b
control_unescapes b rest below = go (b == backspace) refl (b == form_feed) refl (b == line_feed) refl (b == carriage_return) refl (b == tab) refl
  where
    no_mark : (b == quotation_mark) ≡ false
    no_mark = grind (arith, nat_tests)

    no_slash : (b == escape) ≡ false
    no_slash = grind (arith, nat_tests)

    control : nat_lt b space ≡ true
    control = grind (arith, nat_tests)

    go : (t₀ : Bool) → (b == backspace) ≡ t₀ → (t₁ : Bool) → (b == form_feed) ≡ t₁ → (t₂ : Bool) → (b == line_feed) ≡ t₂ → (t₃ : Bool) → (b == carriage_return) ≡ t₃ → (t₄ : Bool) → (b == tab) ≡ t₄ → Unescapes_to rest b
    go true e _ _ _ _ _ _ _ _ = subst (Unescapes_to rest) (is_byte b backspace e) refl
    go false _ true e _ _ _ _ _ _ = subst (Unescapes_to rest) (is_byte b form_feed e) refl
    go false _ false _ true e _ _ _ _ = subst (Unescapes_to rest) (is_byte b line_feed e) refl
    go false _ false _ false _ true e _ _ = subst (Unescapes_to rest) (is_byte b carriage_return e) refl
    go false _ false _ false _ false _ true e = subst (Unescapes_to rest) (is_byte b tab e) refl
    go false e₀ false e₁ false e₂ false e₃ false e₄ =
        let written : escaped_byte b ≡ hex_escape b = rw (no_mark, no_slash, e₀, e₁, e₂, e₃, e₄, control) refl in
        ap (λ bytes. unescape (bytes ++ rest)) written ∙ hex_unescapes b rest below

byte_unescapes : (b : ℕ) (rest : List ℕ) → Unescapes_to rest b
byte_unescapes b rest = go (is_plain b) refl
  where
    other : (b ≡ quotation_mark) ⊎ ((b ≡ escape) ⊎ (b < 32)) → Unescapes_to rest b
    other (inl is) = subst (Unescapes_to rest) (sym is) refl
    other (inr (inl is)) = subst (Unescapes_to rest) (sym is) refl
    other (inr (inr below)) = control_unescapes b rest below

    go : (plain : Bool) → is_plain b ≡ plain → Unescapes_to rest b
    go true plain = ap (λ bytes. unescape (bytes ++ rest)) (plain_byte b plain) ∙ rw (not_escape b plain, unescape) refl
    go false plain = other (other_bytes b plain)

-- ---- a text

-- an escaped text unescapes to the text
pub unescape_of_escaped : (text : List ℕ) → unescape (escaped text) ≡ Ok text
unescape_of_escaped [] = refl
unescape_of_escaped (b ∷ text) = byte_unescapes b (escaped text) ∙ ap (with_front (b ∷ [])) (unescape_of_escaped text)

escaped-run : (s : List ℕ) → escaped s ≡ take (prefix_len is_plain s) s ++ escaped (drop (prefix_len is_plain s) s)
escaped-run [] = refl
escaped-run (b ∷ s) = go (is_plain b) refl (prefix_len is_plain s) (escaped-run s)
  where
    go : (plain : Bool) → is_plain b ≡ plain → (n : ℕ) → escaped s ≡ take n s ++ escaped (drop n s)
        → escaped (b ∷ s) ≡ take (cond plain (1 + n) 0) (b ∷ s) ++ escaped (drop (cond plain (1 + n) 0) (b ∷ s))
    go true plain n rest =
        let one : suc n ≡ 1 + n = omega arith in
        ap (λ bytes. bytes ++ escaped s) (plain_byte b plain) ∙ ap (λ t. b ∷ t) rest
        ∙ ap (λ k. take k (b ∷ s) ++ escaped (drop k (b ∷ s))) one
    go false plain n rest = refl

pub escaped_same : (s : List ℕ) → prefix_len is_plain s ≡ length s → escaped s ≡ s
escaped_same s all =
    escaped-run s ∙ ap (λ n. take n s ++ escaped (drop n s)) all
    ∙ ap (λ r. take (length s) s ++ escaped r) (drop_all (length s) s (omega arith))
    ∙ append-nil (take (length s) s) ∙ take_all (length s) s (omega arith)

byte_is_long : (b : ℕ) → 1 ≤ length (escaped_byte b)
byte_is_long b = go (is_plain b) refl
  where
    go : (plain : Bool) → is_plain b ≡ plain → 1 ≤ length (escaped_byte b)
    go true plain = omega (arith, ap length (plain_byte b plain))
    go false plain = omega (arith, escape_is_long b plain)

no_shorter : (s : List ℕ) → length s ≤ length (escaped s)
no_shorter [] = omega arith
no_shorter (b ∷ s) = omega (arith, length-append (escaped_byte b) (escaped s), byte_is_long b, no_shorter s)

-- a text with a byte that doesn't stand for itself becomes longer
pub escaped_longer : (s : List ℕ) → prefix_len is_plain s ≢ length s → length s < length (escaped s)
escaped_longer [] other = absurd (other refl)
escaped_longer (b ∷ s) other = go (is_plain b) refl (escaped_longer s)
  where
    go : (plain : Bool) → is_plain b ≡ plain → (prefix_len is_plain s ≢ length s → length s < length (escaped s)) → suc (length s) < length (escaped_byte b ++ escaped s)
    go true plain later =
        let more : 1 + prefix_len is_plain s ≢ suc (length s) = rw plain at other in
        let longer = later (λ (e : prefix_len is_plain s ≡ length s). more (omega arith)) in
        omega (arith, length-append (escaped_byte b) (escaped s), ap length (plain_byte b plain), longer)
    go false plain later = omega (arith, length-append (escaped_byte b) (escaped s), escape_is_long b plain, no_shorter s)

module _ (value : List ℕ) (at stop : ℕ) (run : stop ≡ at + prefix_len is_plain (drop at value)) where
  -- the run is written as it is
  pub escaped_to_stop : escaped (drop at value) ≡ slice_range value at stop ++ escaped (drop stop value)
  escaped_to_stop =
      let n = prefix_len is_plain (drop at value) in
      let size : n ≡ stop - at = omega (arith, run) in
      escaped-run (drop at value)
      ∙ ap (λ k. take k (drop at value) ++ escaped (drop n (drop at value))) size
      ∙ ap (λ r. slice_range value at stop ++ escaped r) (drop-drop n at value ∙ ap (λ k. drop k value) (sym run))

  pub stop_is_other : at ≤ length value → stop < length value → is_plain (get_or value stop 0) ≡ false
  stop_is_other within before = run_stops value at stop run before

pub boundary_at_stop : (value : List ℕ) (at stop : ℕ) → IsUtf8 value → stop ≡ at + prefix_len is_plain (drop at value) → at ≤ length value → IsCharBoundary value stop
boundary_at_stop value at stop utf8 run within = go (nat_lt stop (length value)) refl
  where
    bound : stop ≤ length value
    bound = omega (arith, run, prefix_len-le-length is_plain (drop at value), length-drop at value)

    go : (before : Bool) → nat_lt stop (length value) ≡ before → IsCharBoundary value stop
    go true test =
        let before : stop < length value = grind (arith, nat_tests) in
        IsCharBoundary-before_ascii value stop before (other_is_ascii (get_or value stop 0) (run_stops value at stop run before))
    go false test =
        let stop_within = bound in
        let same : length value ≡ stop = grind (arith, nat_tests) in
        subst (IsCharBoundary value) same (IsCharBoundary-end value)

pub boundary_behind_stop : (value : List ℕ) (stop : ℕ) → IsUtf8 value → stop < length value → is_plain (get_or value stop 0) ≡ false → IsCharBoundary value (stop + 1)
boundary_behind_stop value stop utf8 before other = IsCharBoundary-after_ascii value stop utf8 before (other_is_ascii (get_or value stop 0) other)
