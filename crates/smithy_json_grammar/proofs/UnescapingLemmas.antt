-- One escape after another.
use Rattle.std.proofs.Common.{◌≡◌, ◌≢◌, ◌+◌, ◌-◌, ◌≤◌, ◌<◌, ℕ, suc, List, [], ◌∷◌, ◌++◌, length, take, drop, get_or, Bool, true, false, ◌&&◌, ◌==◌, Result, Ok, Err, refl, sym, ap, ◌∙◌, arith, subst, cond, not, nat_lt, slice_index, slice_range}
use Rattle.std.proofs.lemmas.Bool.Decides.{nat_tests}
use Rattle.std.proofs.lemmas.List.{drop-drop, get_or-drop, length-drop, drop_more, drop_all, take_all, append-nil}
use Rattle.std.proofs.lemmas.List.Sums.{prefix_len_stops, prefix_len-le-length, prefix_len-drop_yes}
use Rattle.std.proofs.lemmas.Str.{IsCharBoundary-after_ascii, IsCharBoundary-before_ascii, IsCharBoundary-end}
use Rattle.std.specs.Char.{InScalarRange, OutOfScalarRange}
use Rattle.std.specs.Char.Utf16.{is_high_surrogate, is_low_surrogate, surrogate_pair_char}
use Rattle.std.specs.List.{prefix_len}
use Rattle.std.specs.Prelude.{encode_utf8, IsUtf8}
use Rattle.std.specs.Str.{IsCharBoundary}
use Rattle.smithy_json_grammar.specs.Ascii.{escape, letter_u}
use Rattle.smithy_json_grammar.specs.Stops.{is_stop, first_stop}
use Rattle.smithy_json_grammar.specs.Unescape.{with_front, code_unit, unescape, unescape_letter, unescape_digits, unescape_low, has_escape}
use Rattle.smithy_json_grammar.specs.Private.Unescaping.{is_no_escape, Unescapes}
use Rattle.smithy_json_grammar.specs.declared.escape_error.EscapeError.{EscapeError}
use Rattle.smithy_json_grammar.specs.declared.escape_error.EscapeError.TheVariants.{InvalidUnicodeEscape, ExpectedSurrogatePair, InvalidSurrogatePair}
use Rattle.smithy_json_grammar.proofs.LaneLemmas.{longer_at}
use Rattle.smithy_json_grammar.proofs.UnescapeLemmas.{with_front-nil, with_front-with_front, last_digit, digits_alone, low_of, unescape_low-six}

-- an escape that goes on behind k of its bytes
pub escape_further : (reading inner : List ℕ → Result (List ℕ) EscapeError) (rest inner_rest : List ℕ) (k c n : ℕ) → inner_rest ≡ drop k rest → k ≤ length rest → reading rest ≡ inner (drop k rest)
    → Unescapes inner inner_rest (Ok (c, n)) → Unescapes reading rest (Ok (c, k + n))
escape_further reading inner rest inner_rest k c n same within goes unescapes =
    let step : k + n - 1 ≡ k + (n - 1) = omega (arith, unescapes.1) in
    let size = ap length same ∙ length-drop k rest in (
      goes ∙ ap inner (sym same) ∙ unescapes.0
          ∙ ap (λ t. with_front (encode_utf8 c) (unescape t)) (ap (drop n) same ∙ drop-drop n k rest),
      omega (arith, unescapes.1),
      omega (arith, unescapes.2, size),
      rw (step, ← get_or-drop k rest (n - 1) 0, ← same) unescapes.3,
    )

pub letter_u_goes : (rest : List ℕ) → 0 < length rest → get_or rest 0 0 ≡ letter_u → unescape_letter rest ≡ unescape_digits (drop 1 rest)
letter_u_goes [] some is = absurd (omega arith)
letter_u_goes (u ∷ rest) some is = rw is refl

-- a code unit that is no surrogate is its character
pub unit_unescapes : (rest : List ℕ) (unit : ℕ) → 4 ≤ length rest → code_unit (take 4 rest) ≡ Ok unit → is_high_surrogate unit ≡ false → is_low_surrogate unit ≡ false
    → Unescapes unescape_digits rest (Ok (unit, 4))
unit_unescapes rest unit long is high low = (
  digits_alone rest unit long is high ∙ ap (λ b. cond b (Err InvalidUnicodeEscape) (with_front (encode_utf8 unit) (unescape (drop 4 rest)))) low,
  omega arith,
  long,
  last_digit rest unit long is,
)

-- a low surrogate stands alone
pub low_alone : (rest : List ℕ) (unit : ℕ) → 4 ≤ length rest → code_unit (take 4 rest) ≡ Ok unit → is_high_surrogate unit ≡ false → is_low_surrogate unit ≡ true
    → unescape_digits rest ≡ Err InvalidUnicodeEscape
low_alone rest unit long is high low =
    digits_alone rest unit long is high ∙ ap (λ b. cond b (Err InvalidUnicodeEscape) (with_front (encode_utf8 unit) (unescape (drop 4 rest)))) low

no_low_escape : (high : ℕ) (rest : List ℕ) → 6 ≤ length rest → ((get_or rest 0 0 == escape) && (get_or rest 1 0 == letter_u)) ≡ false → unescape_low high rest ≡ Err ExpectedSurrogatePair
no_low_escape high rest long other = unescape_low-six high rest long ∙ ap (λ b. low_of high b (code_unit (take 4 (drop 2 rest))) (drop 6 rest)) other

no_escape_byte : (b : ℕ) → b ≢ escape → (b == escape) ≡ false
no_escape_byte b other = grind (arith, nat_tests)

no_letter_u : (b : ℕ) → b ≢ letter_u → (b == letter_u) ≡ false
no_letter_u b other = grind (arith, nat_tests)

pub not_first : (high : ℕ) (rest : List ℕ) → 6 ≤ length rest → get_or rest 0 0 ≢ escape → unescape_low high rest ≡ Err ExpectedSurrogatePair
not_first high rest long other = no_low_escape high rest long (rw (no_escape_byte (get_or rest 0 0) other) refl)

pub not_second : (high : ℕ) (rest : List ℕ) → 6 ≤ length rest → get_or rest 1 0 ≢ letter_u → unescape_low high rest ≡ Err ExpectedSurrogatePair
not_second high rest long other = no_low_escape high rest long (rw (no_letter_u (get_or rest 1 0) other) (and_false (get_or rest 0 0 == escape)))
  where
    and_false : (b : Bool) → (b && false) ≡ false
    and_false true = refl
    and_false false = refl

module _ (high : ℕ) (rest : List ℕ) (long : 6 ≤ length rest) (first : get_or rest 0 0 ≡ escape) (second : get_or rest 1 0 ≡ letter_u) where
  begins : ((get_or rest 0 0 == escape) && (get_or rest 1 0 == letter_u)) ≡ true
  begins = rw (first, second) refl

  low_is : (unit : Result ℕ EscapeError) → code_unit (take 4 (drop 2 rest)) ≡ unit → unescape_low high rest ≡ low_of high true unit (drop 6 rest)
  low_is unit is =
      unescape_low-six high rest long ∙ ap (λ b. low_of high b (code_unit (take 4 (drop 2 rest))) (drop 6 rest)) begins
      ∙ ap (λ u. low_of high true u (drop 6 rest)) is

  pub low_fault : (fault : EscapeError) → code_unit (take 4 (drop 2 rest)) ≡ Err fault → unescape_low high rest ≡ Err fault
  low_fault fault is = low_is (Err fault) is

  pub no_low : (low : ℕ) → code_unit (take 4 (drop 2 rest)) ≡ Ok low → is_low_surrogate low ≡ false → unescape_low high rest ≡ Err (InvalidSurrogatePair high low)
  no_low low is other =
      low_is (Ok low) is
      ∙ ap (λ b. cond b (with_front (encode_utf8 (surrogate_pair_char high low)) (unescape (drop 6 rest))) (Err (InvalidSurrogatePair high low))) other

  pub pair_unescapes : (low : ℕ) → code_unit (take 4 (drop 2 rest)) ≡ Ok low → is_low_surrogate low ≡ true → Unescapes (unescape_low high) rest (Ok (surrogate_pair_char high low, 6))
  pair_unescapes low is pair = (
    low_is (Ok low) is
        ∙ ap (λ b. cond b (with_front (encode_utf8 (surrogate_pair_char high low)) (unescape (drop 6 rest))) (Err (InvalidSurrogatePair high low))) pair,
    omega arith,
    long,
    rw (← get_or-drop 2 rest 3 0) (last_digit (drop 2 rest) low (omega (arith, length-drop 2 rest)) is),
  )

pub scalar_is_no_low : (unit : ℕ) → InScalarRange unit → is_low_surrogate unit ≡ false
scalar_is_no_low unit is = grind (arith, nat_tests)

pub other_is_low : (unit : ℕ) → OutOfScalarRange unit → unit < 65536 → is_high_surrogate unit ≡ false → is_low_surrogate unit ≡ true
other_is_low unit out fits high = grind (arith, nat_tests)

pub not_empty : (s : List ℕ) → (length s == 0) ≡ false → 0 < length s
not_empty s test = grind (arith, nat_tests)

-- ---- the bytes before an escape

-- a run up to a quotation mark or a backslash holds no backslash
no_stop : (b : ℕ) → not (is_stop false b) ≡ true → is_no_escape b ≡ true
no_stop b h = grind (arith, nat_tests)

pub further_without_escape : (input : List ℕ) (at end : ℕ) → end ≡ first_stop input at false
    → at + prefix_len is_no_escape (drop at input) ≡ end + prefix_len is_no_escape (drop end input)
further_without_escape = longer_at (λ b. not (is_stop false b)) is_no_escape no_stop

other_byte : (b : ℕ) → b ≢ escape → (b == escape) ≡ false
other_byte b h = grind (arith, nat_tests)

pub past_other_byte : (input : List ℕ) (at : ℕ) → at < length input → slice_index input at ≢ escape
    → prefix_len is_no_escape (drop at input) ≡ 1 + prefix_len is_no_escape (drop (at + 1) input)
past_other_byte input at within other = prefix_len-drop_yes is_no_escape input at 0 within (ap not (other_byte (slice_index input at) other))

run_unescapes : (s : List ℕ) → unescape s ≡ with_front (take (prefix_len is_no_escape s) s) (unescape (drop (prefix_len is_no_escape s) s))
run_unescapes [] = refl
run_unescapes (b ∷ s) = go (b == escape) refl (prefix_len is_no_escape s) (run_unescapes s)
  where
    go : (is : Bool) → (b == escape) ≡ is → (n : ℕ) → unescape s ≡ with_front (take n s) (unescape (drop n s))
        → unescape (b ∷ s) ≡ with_front (take (cond (not is) (1 + n) 0) (b ∷ s)) (unescape (drop (cond (not is) (1 + n) 0) (b ∷ s)))
    go true is n rest = sym (with_front-nil (unescape (b ∷ s)))
    go false is n rest =
        let one : 1 + n ≡ suc n = omega arith in
        rw (one, is, unescape) (ap (with_front (b ∷ [])) rest ∙ with_front-with_front (b ∷ []) (take n s) (unescape (drop n s)))

module _ (value : List ℕ) (at start : ℕ) (within : at ≤ length value) (run : start ≡ at + prefix_len is_no_escape (drop at value)) (text : List ℕ)
    (so_far : unescape value ≡ with_front text (unescape (drop at value))) where
  abbrev run_length : ℕ
  run_length = prefix_len is_no_escape (drop at value)

  -- the run is the text of its bytes
  pub so_far_run : unescape value ≡ with_front (text ++ slice_range value at start) (unescape (drop start value))
  so_far_run =
      let size : run_length ≡ start - at = omega arith in
      so_far ∙ ap (with_front text) (run_unescapes (drop at value))
      ∙ with_front-with_front text (take run_length (drop at value)) (unescape (drop run_length (drop at value)))
      ∙ ap (λ r. with_front (text ++ take run_length (drop at value)) (unescape r)) (drop-drop run_length at value ∙ ap (λ k. drop k value) (sym run))
      ∙ ap (λ k. with_front (text ++ take k (drop at value)) (unescape (drop start value))) size

  pub stop_is_escape : start < length value → get_or value start 0 ≡ escape
  stop_is_escape before =
      let short : run_length < length (drop at value) = omega (arith, length-drop at value) in
      let stops = prefix_len_stops is_no_escape (drop at value) 0 short in
      let same : get_or (drop at value) run_length 0 ≡ get_or value start 0 = get_or-drop at value run_length 0 ∙ ap (λ k. get_or value k 0) (sym run) in
      is_escape_byte (get_or value start 0) (sym (ap is_no_escape same) ∙ stops)
    where
      is_escape_byte : (b : ℕ) → is_no_escape b ≡ false → b ≡ escape
      is_escape_byte b test = grind (arith, nat_tests)

  -- at the end, all is text
  pub so_far_end : start ≡ length value → unescape value ≡ Ok (text ++ slice_range value at start)
  so_far_end same =
      so_far_run ∙ ap (λ k. with_front (text ++ slice_range value at start) (unescape k)) (drop_all start value (omega arith))
      ∙ ap Ok (append-nil (text ++ slice_range value at start))

  module _ (before : start < length value) where
    at_escape : unescape (drop start value) ≡ unescape_letter (drop (start + 1) value)
    at_escape =
        let front : drop start value ≡ escape ∷ drop (start + 1) value =
        drop_more value start 0 before ∙ ap (λ b. b ∷ drop (start + 1) value) (stop_is_escape before) in
        ap unescape front

    pub so_far_fault : (fault : EscapeError) → unescape_letter (drop (start + 1) value) ≡ Err fault → unescape value ≡ Err fault
    so_far_fault fault is = so_far_run ∙ ap (with_front (text ++ slice_range value at start)) (at_escape ∙ is)

    pub so_far_escape : (character n : ℕ) → Unescapes unescape_letter (drop (start + 1) value) (Ok (character, n))
        → unescape value ≡ with_front ((text ++ slice_range value at start) ++ encode_utf8 character) (unescape (drop (start + 1 + n) value))
    so_far_escape character n unescapes =
        so_far_run
        ∙ ap (with_front (text ++ slice_range value at start)) (at_escape ∙ unescapes.0)
        ∙ with_front-with_front (text ++ slice_range value at start) (encode_utf8 character) (unescape (drop n (drop (start + 1) value)))
        ∙ ap (λ r. with_front ((text ++ slice_range value at start) ++ encode_utf8 character) (unescape r)) (drop-drop n (start + 1) value)

    pub escape_within : (character n : ℕ) → Unescapes unescape_letter (drop (start + 1) value) (Ok (character, n)) → start + 1 + n ≤ length value
    escape_within character n unescapes = omega (arith, unescapes.2, length-drop (start + 1) value)

    -- behind an escape a text may be cut
    pub boundary_behind : (character n : ℕ) → IsUtf8 value → Unescapes unescape_letter (drop (start + 1) value) (Ok (character, n)) → IsCharBoundary value (start + 1 + n)
    boundary_behind character n utf8 unescapes =
        let last : start + 1 + (n - 1) + 1 ≡ start + 1 + n = omega (arith, unescapes.1) in
        let here : start + 1 + (n - 1) < length value = omega (arith, unescapes.1, escape_within character n unescapes) in
        let ascii : get_or value (start + 1 + (n - 1)) 0 < 128 = subst (λ b. b < 128) (get_or-drop (start + 1) value (n - 1) 0) unescapes.3 in
        subst (IsCharBoundary value) last (IsCharBoundary-after_ascii value (start + 1 + (n - 1)) utf8 here ascii)

  pub boundary_before : IsCharBoundary value start
  boundary_before = go (nat_lt start (length value)) refl
    where
      end_within : start ≤ length value
      end_within = omega (arith, prefix_len-le-length is_no_escape (drop at value), length-drop at value)

      go : (before : Bool) → nat_lt start (length value) ≡ before → IsCharBoundary value start
      go true test =
          let before : start < length value = grind (arith, nat_tests) in
          IsCharBoundary-before_ascii value start before (subst (λ b. b < 128) (sym (stop_is_escape before)) (omega arith))
      go false test =
          let bound = end_within in
          let same : length value ≡ start = grind (arith, nat_tests) in
          subst (IsCharBoundary value) same (IsCharBoundary-end value)

-- ---- a text without escapes

pub no_escape_run : (s : List ℕ) → prefix_len is_no_escape s ≡ length s → has_escape s ≡ false
no_escape_run [] all = refl
no_escape_run (b ∷ s) all = go (b == escape) refl (no_escape_run s)
  where
    go : (is : Bool) → (b == escape) ≡ is → (prefix_len is_no_escape s ≡ length s → has_escape s ≡ false) → has_escape (b ∷ s) ≡ false
    go true is later =
        let none : 0 ≡ suc (length s) = rw is at all in absurd (omega arith)
    go false is later =
        let more : 1 + prefix_len is_no_escape s ≡ suc (length s) = rw is at all in
        rw is (later (omega arith))

pub some_escape_run : (s : List ℕ) → prefix_len is_no_escape s ≢ length s → has_escape s ≡ true
some_escape_run [] other = absurd (other refl)
some_escape_run (b ∷ s) other = go (b == escape) refl (some_escape_run s)
  where
    go : (is : Bool) → (b == escape) ≡ is → (prefix_len is_no_escape s ≢ length s → has_escape s ≡ true) → has_escape (b ∷ s) ≡ true
    go true is later = rw is refl
    go false is later =
        let more : 1 + prefix_len is_no_escape s ≢ suc (length s) = rw is at other in
        rw is (later (λ (e : prefix_len is_no_escape s ≡ length s). more (omega arith)))

pub no_escape_is_text : (s : List ℕ) → prefix_len is_no_escape s ≡ length s → unescape s ≡ Ok s
no_escape_is_text s all =
    run_unescapes s ∙ ap (λ n. with_front (take n s) (unescape (drop n s))) all
    ∙ ap (λ r. with_front (take (length s) s) (unescape r)) (drop_all (length s) s (omega arith))
    ∙ ap Ok (append-nil (take (length s) s) ∙ take_all (length s) s (omega arith))
