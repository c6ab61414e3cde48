-- Unescaping, step by step.
use Rattle.std.proofs.Common.{◌≡◌, ◌+◌, ◌*◌, ◌≤◌, ◌<◌, ℕ, List, [], ◌∷◌, ◌++◌, length, take, drop, get_or, Bool, true, false, ◌&&◌, ◌==◌, Result, Ok, Err, nat_lt, refl, sym, ap, ◌∙◌, arith, cond}
use Rattle.std.proofs.lemmas.Bool.Decides.{nat_tests}
use Rattle.std.proofs.lemmas.Bool.{and_parts}
use Rattle.std.proofs.lemmas.List.{append_assoc}
use Rattle.std.specs.Char.{is_ascii_hexdigit, digit_value}
use Rattle.std.specs.Char.Utf16.{is_high_surrogate, is_low_surrogate, surrogate_pair_char}
use Rattle.std.specs.List.{list_all}
use Rattle.std.specs.Prelude.{encode_utf8, IsUtf8}
use Rattle.std.specs.Str.{is_utf8}
use Rattle.std.proofs.lemmas.Str.{is_utf8-from_IsUtf8, IsUtf8-from_is_utf8}
use Rattle.smithy_json_grammar.specs.Ascii.{escape, letter_u}
use Rattle.smithy_json_grammar.specs.Unescape.{with_front, digits_fault, code_unit, unescape, unescape_digits, unescape_low}
use Rattle.smithy_json_grammar.specs.declared.escape_error.EscapeError.{EscapeError}
use Rattle.smithy_json_grammar.specs.declared.escape_error.EscapeError.TheVariants.{InvalidUtf8, InvalidUnicodeEscape, ExpectedSurrogatePair, InvalidSurrogatePair}

-- ---- bytes before a text

pub with_front-with_front : (a b : List ℕ) (r : Result (List ℕ) EscapeError) → with_front a (with_front b r) ≡ with_front (a ++ b) r
with_front-with_front a b (Ok text) = ap Ok (sym (append_assoc a b text))
with_front-with_front a b (Err fault) = refl

pub with_front-nil : (r : Result (List ℕ) EscapeError) → with_front [] r ≡ r
with_front-nil (Ok text) = refl
with_front-nil (Err fault) = refl

-- ---- four hexadecimal digits

four_of : (s : List ℕ) → length s ≡ 4 → s ≡ get_or s 0 0 ∷ get_or s 1 0 ∷ get_or s 2 0 ∷ get_or s 3 0 ∷ []
four_of (a ∷ b ∷ c ∷ d ∷ []) e = refl
four_of [] e = absurd (omega arith)
four_of (a ∷ []) e = absurd (omega arith)
four_of (a ∷ b ∷ []) e = absurd (omega arith)
four_of (a ∷ b ∷ c ∷ []) e = absurd (omega arith)
four_of (a ∷ b ∷ c ∷ d ∷ x ∷ s) e = absurd (omega arith)

ap₄ : {a a' b b' c c' d d' : ℕ} → a ≡ a' → b ≡ b' → c ≡ c' → d ≡ d' → ◌≡◌ {A = Result ℕ EscapeError} (Ok (a * 0x1000 + b * 0x100 + c * 0x10 + d)) (Ok (a' * 0x1000 + b' * 0x100 + c' * 0x10 + d'))
ap₄ e f g h = cc

hex_below_16 : (b : ℕ) → is_ascii_hexdigit b ≡ nat_lt (digit_value b) 16
hex_below_16 b = grind (arith, nat_tests)

-- the code unit of four digits, by their values
pub code_unit-values : (a b c d : ℕ) → (nat_lt (digit_value a) 16 && nat_lt (digit_value b) 16 && nat_lt (digit_value c) 16 && nat_lt (digit_value d) 16) ≡ true
    → code_unit (a ∷ b ∷ c ∷ d ∷ []) ≡ Ok (digit_value a * 0x1000 + digit_value b * 0x100 + digit_value c * 0x10 + digit_value d)
unfolding code_unit
code_unit-values a b c d all =
    let abc = and_parts (nat_lt (digit_value a) 16 && nat_lt (digit_value b) 16 && nat_lt (digit_value c) 16) (nat_lt (digit_value d) 16) all in
    let ab = and_parts (nat_lt (digit_value a) 16 && nat_lt (digit_value b) 16) (nat_lt (digit_value c) 16) abc.0 in
    let each = and_parts (nat_lt (digit_value a) 16) (nat_lt (digit_value b) 16) ab.0 in
    let value : (((0 * 16 + digit_value a) * 16 + digit_value b) * 16 + digit_value c) * 16 + digit_value d ≡ digit_value a * 0x1000 + digit_value b * 0x100 + digit_value c * 0x10 + digit_value d = omega arith in
    rw (hex_below_16 a ∙ each.0, hex_below_16 b ∙ each.1, hex_below_16 c ∙ ab.1, hex_below_16 d ∙ abc.1) (ap Ok value)

regroup : (w x y z : Bool) → (w && (x && (y && (z && true)))) ≡ (w && x && y && z)
regroup false x y z = refl
regroup true false y z = refl
regroup true true false z = refl
regroup true true true false = refl
regroup true true true true = refl

-- or their fault
pub code_unit-fault : (a b c d : ℕ) → (nat_lt (digit_value a) 16 && nat_lt (digit_value b) 16 && nat_lt (digit_value c) 16 && nat_lt (digit_value d) 16) ≡ false
    → code_unit (a ∷ b ∷ c ∷ d ∷ []) ≡ Err (digits_fault (a ∷ b ∷ c ∷ d ∷ []))
unfolding code_unit
code_unit-fault a b c d none =
    let all = regroup (nat_lt (digit_value a) 16) (nat_lt (digit_value b) 16) (nat_lt (digit_value c) 16) (nat_lt (digit_value d) 16) ∙ none in
    rw (hex_below_16 a, hex_below_16 b, hex_below_16 c, hex_below_16 d, all) refl

pub digits_fault-utf8 : (digits : List ℕ) → IsUtf8 digits → InvalidUnicodeEscape ≡ digits_fault digits
unfolding digits_fault
digits_fault-utf8 digits is = rw (is_utf8-from_IsUtf8 digits is) refl

pub digits_fault-other : (digits : List ℕ) → (IsUtf8 digits → ⊥) → InvalidUtf8 ≡ digits_fault digits
unfolding digits_fault
digits_fault-other digits is_not = go (is_utf8 digits) refl
  where
    go : (is : Bool) → is_utf8 digits ≡ is → InvalidUtf8 ≡ cond is InvalidUnicodeEscape InvalidUtf8
    go true is = absurd (is_not (IsUtf8-from_is_utf8 digits is))
    go false is = refl

module _ (digits : List ℕ) (four : length digits ≡ 4) (a b c d : ℕ) (at : a ≡ digit_value (get_or digits 0 0)) (bt : b ≡ digit_value (get_or digits 1 0)) (ct : c ≡ digit_value (get_or digits 2 0)) (dt : d ≡ digit_value (get_or digits 3 0)) where
  are_four : digits ≡ get_or digits 0 0 ∷ get_or digits 1 0 ∷ get_or digits 2 0 ∷ get_or digits 3 0 ∷ []
  are_four = four_of digits four

  tests : (nat_lt a 16 && nat_lt b 16 && nat_lt c 16 && nat_lt d 16) ≡ (nat_lt (digit_value (get_or digits 0 0)) 16 && nat_lt (digit_value (get_or digits 1 0)) 16 && nat_lt (digit_value (get_or digits 2 0)) 16 && nat_lt (digit_value (get_or digits 3 0)) 16)
  tests = cc

  pub code_unit_read : (nat_lt a 16 && nat_lt b 16 && nat_lt c 16 && nat_lt d 16) ≡ true → Ok (a * 0x1000 + b * 0x100 + c * 0x10 + d) ≡ code_unit digits
  code_unit_read all =
      let value = code_unit-values (get_or digits 0 0) (get_or digits 1 0) (get_or digits 2 0) (get_or digits 3 0) (sym tests ∙ all) in
      ap₄ at bt ct dt ∙ sym value ∙ ap code_unit (sym are_four)

  pub code_unit_fails : (nat_lt a 16 && nat_lt b 16 && nat_lt c 16 && nat_lt d 16) ≡ false → Err (digits_fault digits) ≡ code_unit digits
  code_unit_fails none =
      let fault = code_unit-fault (get_or digits 0 0) (get_or digits 1 0) (get_or digits 2 0) (get_or digits 3 0) (sym tests ∙ none) in
      ap (λ s. Err (digits_fault s)) are_four ∙ sym fault ∙ ap code_unit (sym are_four)

-- ---- one escape

hex_is_ascii : (b : ℕ) → is_ascii_hexdigit b ≡ true → b < 128
hex_is_ascii b h = grind (arith, nat_tests)

-- digits of a code unit are ASCII
code_unit_is_ascii : (a b c d : ℕ) (unit : ℕ) → code_unit (a ∷ b ∷ c ∷ d ∷ []) ≡ Ok unit → d < 128
unfolding code_unit
code_unit_is_ascii a b c d unit e = go (list_all is_ascii_hexdigit (a ∷ b ∷ c ∷ d ∷ [])) refl
  where
    go : (all : Bool) → list_all is_ascii_hexdigit (a ∷ b ∷ c ∷ d ∷ []) ≡ all → d < 128
    go true all =
        let bcd = and_parts (is_ascii_hexdigit a) (list_all is_ascii_hexdigit (b ∷ c ∷ d ∷ [])) all in
        let cd = and_parts (is_ascii_hexdigit b) (list_all is_ascii_hexdigit (c ∷ d ∷ [])) bcd.1 in
        let last = and_parts (is_ascii_hexdigit c) (list_all is_ascii_hexdigit (d ∷ [])) cd.1 in
        hex_is_ascii d (and_parts (is_ascii_hexdigit d) true last.1).0
    go false all =
        let no : ◌≡◌ {A = Result ℕ EscapeError} (Err (digits_fault (a ∷ b ∷ c ∷ d ∷ []))) (Ok unit) = rw all at e in cc

hex_value : (b : ℕ) → is_ascii_hexdigit b ≡ true → digit_value b < 16
hex_value b h = grind (arith, nat_tests)

-- and a code unit is one of 16 bits
code_unit_fits : (a b c d : ℕ) (unit : ℕ) → code_unit (a ∷ b ∷ c ∷ d ∷ []) ≡ Ok unit → unit < 65536
unfolding code_unit
code_unit_fits a b c d unit e = go (list_all is_ascii_hexdigit (a ∷ b ∷ c ∷ d ∷ [])) refl
  where
    go : (all : Bool) → list_all is_ascii_hexdigit (a ∷ b ∷ c ∷ d ∷ []) ≡ all → unit < 65536
    go true all =
        let bcd = and_parts (is_ascii_hexdigit a) (list_all is_ascii_hexdigit (b ∷ c ∷ d ∷ [])) all in
        let cd = and_parts (is_ascii_hexdigit b) (list_all is_ascii_hexdigit (c ∷ d ∷ [])) bcd.1 in
        let last = and_parts (is_ascii_hexdigit c) (list_all is_ascii_hexdigit (d ∷ [])) cd.1 in
        let found : ◌≡◌ {A = Result ℕ EscapeError} (Ok ((((0 * 16 + digit_value a) * 16 + digit_value b) * 16 + digit_value c) * 16 + digit_value d)) (Ok unit) = rw all at e in
        let value : (((0 * 16 + digit_value a) * 16 + digit_value b) * 16 + digit_value c) * 16 + digit_value d ≡ unit = cc in
        omega (arith, value, hex_value a bcd.0, hex_value b cd.0, hex_value c last.0, hex_value d (and_parts (is_ascii_hexdigit d) true last.1).0)
    go false all =
        let no : ◌≡◌ {A = Result ℕ EscapeError} (Err (digits_fault (a ∷ b ∷ c ∷ d ∷ []))) (Ok unit) = rw all at e in cc

pub unit_fits : (s : List ℕ) (unit : ℕ) → 4 ≤ length s → code_unit (take 4 s) ≡ Ok unit → unit < 65536
unit_fits (a ∷ b ∷ c ∷ d ∷ s) unit long e = code_unit_fits a b c d unit e
unit_fits [] unit long e = absurd (omega arith)
unit_fits (a ∷ []) unit long e = absurd (omega arith)
unit_fits (a ∷ b ∷ []) unit long e = absurd (omega arith)
unit_fits (a ∷ b ∷ c ∷ []) unit long e = absurd (omega arith)

pub last_digit : (s : List ℕ) (unit : ℕ) → 4 ≤ length s → code_unit (take 4 s) ≡ Ok unit → get_or s 3 0 < 128
last_digit (a ∷ b ∷ c ∷ d ∷ s) unit long e = code_unit_is_ascii a b c d unit e
last_digit [] unit long e = absurd (omega arith)
last_digit (a ∷ []) unit long e = absurd (omega arith)
last_digit (a ∷ b ∷ []) unit long e = absurd (omega arith)
last_digit (a ∷ b ∷ c ∷ []) unit long e = absurd (omega arith)

pub digits_high : (s : List ℕ) (unit : ℕ) → 4 ≤ length s → code_unit (take 4 s) ≡ Ok unit → is_high_surrogate unit ≡ true → unescape_digits s ≡ unescape_low unit (drop 4 s)
digits_high (a ∷ b ∷ c ∷ d ∷ s) unit long e high = rw (e, high, unescape_digits) refl
digits_high [] unit long e high = absurd (omega arith)
digits_high (a ∷ []) unit long e high = absurd (omega arith)
digits_high (a ∷ b ∷ []) unit long e high = absurd (omega arith)
digits_high (a ∷ b ∷ c ∷ []) unit long e high = absurd (omega arith)

pub digits_alone : (s : List ℕ) (unit : ℕ) → 4 ≤ length s → code_unit (take 4 s) ≡ Ok unit → is_high_surrogate unit ≡ false
    → unescape_digits s ≡ cond (is_low_surrogate unit) (Err InvalidUnicodeEscape) (with_front (encode_utf8 unit) (unescape (drop 4 s)))
digits_alone (a ∷ b ∷ c ∷ d ∷ s) unit long e high = rw (e, high, unescape_digits) refl
digits_alone [] unit long e high = absurd (omega arith)
digits_alone (a ∷ []) unit long e high = absurd (omega arith)
digits_alone (a ∷ b ∷ []) unit long e high = absurd (omega arith)
digits_alone (a ∷ b ∷ c ∷ []) unit long e high = absurd (omega arith)

-- six bytes behind a high surrogate, by what their first two and their digits are
abbrev pub low_of : ℕ → Bool → Result ℕ EscapeError → List ℕ → Result (List ℕ) EscapeError
low_of high false unit rest = Err ExpectedSurrogatePair
low_of high true (Err fault) rest = Err fault
low_of high true (Ok low) rest =
    cond (is_low_surrogate low) (with_front (encode_utf8 (surrogate_pair_char high low)) (unescape rest)) (Err (InvalidSurrogatePair high low))

low_of_six : (high : ℕ) (begins : Bool) (unit : Result ℕ EscapeError) (s : List ℕ) (e u a b c d : ℕ) → ((e == escape) && (u == letter_u)) ≡ begins → code_unit (a ∷ b ∷ c ∷ d ∷ []) ≡ unit
    → unescape_low high (e ∷ u ∷ a ∷ b ∷ c ∷ d ∷ s) ≡ low_of high begins unit s
low_of_six high false unit s e u a b c d begins is = rw (begins, unescape_low) refl
low_of_six high true (Err fault) s e u a b c d begins is = rw (begins, is, unescape_low) refl
low_of_six high true (Ok low) s e u a b c d begins is = rw (begins, is, unescape_low) refl

pub unescape_low-six : (high : ℕ) (s : List ℕ) → 6 ≤ length s
    → unescape_low high s ≡ low_of high ((get_or s 0 0 == escape) && (get_or s 1 0 == letter_u)) (code_unit (take 4 (drop 2 s))) (drop 6 s)
unescape_low-six high (e ∷ u ∷ a ∷ b ∷ c ∷ d ∷ s) long = low_of_six high ((e == escape) && (u == letter_u)) (code_unit (a ∷ b ∷ c ∷ d ∷ [])) s e u a b c d refl refl
unescape_low-six high [] long = absurd (omega arith)
unescape_low-six high (a ∷ []) long = absurd (omega arith)
unescape_low-six high (a ∷ b ∷ []) long = absurd (omega arith)
unescape_low-six high (a ∷ b ∷ c ∷ []) long = absurd (omega arith)
unescape_low-six high (a ∷ b ∷ c ∷ d ∷ []) long = absurd (omega arith)
unescape_low-six high (a ∷ b ∷ c ∷ d ∷ e ∷ []) long = absurd (omega arith)
