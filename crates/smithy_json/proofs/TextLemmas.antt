-- What a raw text in UTF-8 stands for is in UTF-8.
use Rattle.std.proofs.Common.{◌≡◌, ◌+◌, ◌*◌, ◌<◌, ℕ, zero, suc, List, [], ◌∷◌, ◌++◌, length, take, drop, get_or, Bool, true, false, ◌&&◌, ◌==◌, Some, Result, Ok, Err, refl, sym, ap, ◌∙◌, arith, subst, cond, append_assoc}
use Rattle.std.proofs.lemmas.Bool.Decides.{nat_tests}
use Rattle.std.proofs.lemmas.Bool.{and_parts}
use Rattle.std.proofs.lemmas.Str.{IsUtf8-append, IsUtf8-encode, IsUtf8-take, IsUtf8-drop, IsUtf8-from_ascii, IsCharBoundary-before_ascii, IsCharBoundary-after_ascii}
use Rattle.std.specs.Char.{IsScalar, is_ascii_hexdigit, digit_value}
use Rattle.std.specs.Char.Utf16.{is_high_surrogate, is_low_surrogate, surrogate_pair_char}
use Rattle.std.specs.List.{list_all}
use Rattle.std.specs.Prelude.{encode_utf8, IsUtf8}
use Rattle.std.specs.Result.{result_ok}
use Rattle.smithy_json_grammar.specs.Ascii.{escape, letter_u, is_short_escape}
use Rattle.smithy_json_grammar.specs.Unescape.{with_front, short_escape, code_unit, digits_fault, unescape, unescape_letter, unescape_digits, unescape_low, unescaped}
use Rattle.smithy_json_grammar.specs.declared.escape_error.EscapeError.{EscapeError}
use Rattle.smithy_json_grammar.specs.declared.escape_error.EscapeError.TheVariants.{UnexpectedEndOfString, InvalidEscapeCharacter, InvalidUnicodeEscape, ExpectedSurrogatePair, InvalidSurrogatePair}

-- ---- texts around an ASCII byte

length-front : (front rest : List ℕ) (b : ℕ) → length front < length (front ++ b ∷ rest)
length-front [] rest b = omega arith
length-front (x ∷ front) rest b = omega (arith, length-front front rest b)

byte_behind : (front rest : List ℕ) (b : ℕ) → get_or (front ++ b ∷ rest) (length front) 0 ≡ b
byte_behind [] rest b = refl
byte_behind (x ∷ front) rest b = byte_behind front rest b

take_front : (front rest : List ℕ) → take (length front) (front ++ rest) ≡ front
take_front [] rest = refl
take_front (x ∷ front) rest = ap (λ t. x ∷ t) (take_front front rest)

-- before it
pub utf8_before : (front rest : List ℕ) (b : ℕ) → b < 128 → IsUtf8 (front ++ b ∷ rest) → IsUtf8 front
utf8_before front rest b ascii utf8 =
    let all = front ++ b ∷ rest in
    let at = length front in
    let below : get_or all at 0 < 128 = subst (λ x. x < 128) (sym (byte_behind front rest b)) ascii in
    subst IsUtf8 (take_front front (b ∷ rest)) (IsUtf8-take all at utf8 (IsCharBoundary-before_ascii all at (length-front front rest b) below))

drop_front : (front rest : List ℕ) (b : ℕ) → drop (length front + 1) (front ++ b ∷ rest) ≡ rest
drop_front [] rest b = refl
drop_front (x ∷ front) rest b =
    let one : length (x ∷ front) + 1 ≡ suc (length front + 1) = omega arith in
    ap (λ n. drop n (x ∷ (front ++ b ∷ rest))) one ∙ drop_front front rest b

-- behind it
pub utf8_behind : (front rest : List ℕ) (b : ℕ) → b < 128 → IsUtf8 (front ++ b ∷ rest) → IsUtf8 rest
utf8_behind front rest b ascii utf8 =
    let all = front ++ b ∷ rest in
    let at = length front in
    let below : get_or all at 0 < 128 = subst (λ x. x < 128) (sym (byte_behind front rest b)) ascii in
    subst IsUtf8 (drop_front front rest b) (IsUtf8-drop all (at + 1) utf8 (IsCharBoundary-after_ascii all at utf8 (length-front front rest b) below))

utf8_tail : (rest : List ℕ) (b : ℕ) → b < 128 → IsUtf8 (b ∷ rest) → IsUtf8 rest
utf8_tail rest b ascii utf8 = utf8_behind [] rest b ascii utf8

utf8_byte : (b : ℕ) → b < 128 → IsUtf8 (b ∷ [])
utf8_byte b ascii = IsUtf8-from_ascii (b ∷ []) go
  where
    go : (i : ℕ) → get_or (b ∷ []) i 0 < 128
    go zero = ascii
    go (suc i) = omega arith

-- ---- one step

-- bytes before a text, taken apart
front_apart : (bytes t : List ℕ) (r : Result (List ℕ) EscapeError) → with_front bytes r ≡ Ok t → (u : List ℕ) × (r ≡ Ok u) × (t ≡ bytes ++ u)
front_apart bytes t (Ok u) h = (u, refl, cc)
front_apart bytes t (Err fault) h = absurd (let e : Err fault ≡ Ok t = h in cc)

short_is_ascii : (b : ℕ) → is_short_escape b ≡ true → (b < 128) × (short_escape b < 128)
short_is_ascii b h = (grind (arith, nat_tests), grind (arith, nat_tests))

hex_is_ascii : (b : ℕ) → is_ascii_hexdigit b ≡ true → b < 128
hex_is_ascii b h = grind (arith, nat_tests)

hex_value : (b : ℕ) → is_ascii_hexdigit b ≡ true → digit_value b < 16
hex_value b h = grind (arith, nat_tests)

-- four digits are ASCII, and their code unit is of 16 bits
record IsUnit (a b c d unit : ℕ) : Type 0 where
  a_ascii : a < 128
  b_ascii : b < 128
  c_ascii : c < 128
  d_ascii : d < 128
  fits : unit < 65536

digits_apart : (a b c d unit : ℕ) → code_unit (a ∷ b ∷ c ∷ d ∷ []) ≡ Ok unit → IsUnit a b c d unit
unfolding code_unit
digits_apart a b c d unit e = go (list_all is_ascii_hexdigit (a ∷ b ∷ c ∷ d ∷ [])) refl
  where
    go : (all : Bool) → list_all is_ascii_hexdigit (a ∷ b ∷ c ∷ d ∷ []) ≡ all → IsUnit a b c d unit
    go true all =
        let bcd = and_parts (is_ascii_hexdigit a) (list_all is_ascii_hexdigit (b ∷ c ∷ d ∷ [])) all in
        let cd = and_parts (is_ascii_hexdigit b) (list_all is_ascii_hexdigit (c ∷ d ∷ [])) bcd.1 in
        let last = and_parts (is_ascii_hexdigit c) (list_all is_ascii_hexdigit (d ∷ [])) cd.1 in
        let end = (and_parts (is_ascii_hexdigit d) true last.1).0 in
        let found : ◌≡◌ {A = Result ℕ EscapeError} (Ok ((((0 * 16 + digit_value a) * 16 + digit_value b) * 16 + digit_value c) * 16 + digit_value d)) (Ok unit) = rw all at e in
        let value : (((0 * 16 + digit_value a) * 16 + digit_value b) * 16 + digit_value c) * 16 + digit_value d ≡ unit = cc in
        record {
          a_ascii = hex_is_ascii a bcd.0;
          b_ascii = hex_is_ascii b cd.0;
          c_ascii = hex_is_ascii c last.0;
          d_ascii = hex_is_ascii d end;
          fits = omega (arith, value, hex_value a bcd.0, hex_value b cd.0, hex_value c last.0, hex_value d end);
        }
    go false all =
        let no : ◌≡◌ {A = Result ℕ EscapeError} (Err (digits_fault (a ∷ b ∷ c ∷ d ∷ []))) (Ok unit) = rw all at e in cc

utf8_behind_unit : (a b c d unit : ℕ) (rest : List ℕ) → IsUnit a b c d unit → IsUtf8 (a ∷ b ∷ c ∷ d ∷ rest) → IsUtf8 rest
utf8_behind_unit a b c d unit rest is utf8 =
    utf8_tail rest d is.d_ascii (utf8_tail (d ∷ rest) c is.c_ascii
    (utf8_tail (c ∷ d ∷ rest) b is.b_ascii (utf8_tail (b ∷ c ∷ d ∷ rest) a is.a_ascii utf8)))

alone_is_scalar : (unit : ℕ) → unit < 65536 → is_high_surrogate unit ≡ false → is_low_surrogate unit ≡ false → IsScalar unit
alone_is_scalar unit fits high low = grind (arith, nat_tests)

pair_is_scalar : (high low : ℕ) → is_high_surrogate high ≡ true → is_low_surrogate low ≡ true → IsScalar (surrogate_pair_char high low)
pair_is_scalar high low h l = grind (arith, nat_tests)

-- ---- a text

-- a text before a text of bytes that are in UTF-8
joined : (bytes t u : List ℕ) → IsUtf8 bytes → IsUtf8 u → t ≡ bytes ++ u → IsUtf8 t
joined bytes t u first more is = subst IsUtf8 (sym is) (IsUtf8-append bytes u first more)

-- what is to be shown of a raw text: bytes of a character may stand in front of it, and are kept
abbrev GivesText : List ℕ → Type 0
GivesText raw = (front t : List ℕ) → IsUtf8 (front ++ raw) → unescape raw ≡ Ok t → IsUtf8 (front ++ t)

-- and of what stands behind the byte `escape`
abbrev GivesTextBehind : (List ℕ → Result (List ℕ) EscapeError) → List ℕ → Type 0
GivesTextBehind reading rest = (t : List ℕ) → IsUtf8 rest → reading rest ≡ Ok t → IsUtf8 t

character_step : (c : ℕ) → IsScalar c → (rest : List ℕ) → GivesText rest → (t : List ℕ) → IsUtf8 rest
    → with_front (encode_utf8 c) (unescape rest) ≡ Ok t → IsUtf8 t
character_step c scalar rest next t utf8 h =
    let apart = front_apart (encode_utf8 c) t (unescape rest) h in
    joined (encode_utf8 c) t apart.0 (IsUtf8-encode c scalar) (next [] apart.0 utf8 apart.1) apart.2

text_step : (b : ℕ) (rest : List ℕ) → GivesText rest → GivesTextBehind unescape_letter rest → GivesText (b ∷ rest)
text_step b rest next behind front t utf8 h = go (b == escape) refl
  where
    go : (is : Bool) → (b == escape) ≡ is → IsUtf8 (front ++ t)
    go true is =
        let ascii : b < 128 = grind (arith, nat_tests) in
        IsUtf8-append front t (utf8_before front rest b ascii utf8)
        (behind t (utf8_behind front rest b ascii utf8) (rw (is, unescape) at h))
    go false is =
        let apart = front_apart (b ∷ []) t (unescape rest) (rw (is, unescape) at h) in
        subst (λ u. IsUtf8 (front ++ u)) (sym apart.2)
        (subst IsUtf8 (append_assoc front (b ∷ []) apart.0)
        (next (front ++ b ∷ []) apart.0 (subst IsUtf8 (sym (append_assoc front (b ∷ []) rest)) utf8) apart.1))

letter_step : (letter : ℕ) (rest : List ℕ) → GivesText rest → GivesTextBehind unescape_digits rest → GivesTextBehind unescape_letter (letter ∷ rest)
letter_step letter rest next behind t utf8 h = go (letter == letter_u) refl (is_short_escape letter) refl
  where
    go : (is : Bool) → (letter == letter_u) ≡ is → (short : Bool) → is_short_escape letter ≡ short → IsUtf8 t
    go true is short is_short =
        let ascii : letter < 128 = grind (arith, nat_tests) in
        behind t (utf8_tail rest letter ascii utf8) (rw (is, unescape_letter) at h)
    go false is true is_short =
        let ascii = short_is_ascii letter is_short in
        let apart = front_apart (short_escape letter ∷ []) t (unescape rest) (rw (is, is_short, unescape_letter) at h) in
        joined (short_escape letter ∷ []) t apart.0 (utf8_byte (short_escape letter) ascii.1)
        (next [] apart.0 (utf8_tail rest letter ascii.0 utf8) apart.1) apart.2
    go false is false is_short =
        absurd (let e : ◌≡◌ {A = Result (List ℕ) EscapeError} (Err (InvalidEscapeCharacter letter)) (Ok t) = rw (is, is_short, unescape_letter) at h in cc)

digits_step : (a b c d : ℕ) (rest : List ℕ) → GivesText rest → ((high : ℕ) → is_high_surrogate high ≡ true → GivesTextBehind (unescape_low high) rest)
    → GivesTextBehind unescape_digits (a ∷ b ∷ c ∷ d ∷ rest)
digits_step a b c d rest next behind t utf8 h = go (code_unit (a ∷ b ∷ c ∷ d ∷ [])) refl
  where
    alone : (unit : ℕ) → code_unit (a ∷ b ∷ c ∷ d ∷ []) ≡ Ok unit → unit < 65536 → IsUtf8 rest
        → (high : Bool) → is_high_surrogate unit ≡ high → (low : Bool) → is_low_surrogate unit ≡ low → IsUtf8 t
    alone unit found fits left true is_high low is_low = behind unit is_high t left (rw (found, is_high, unescape_digits) at h)
    alone unit found fits left false is_high true is_low =
        absurd (let e : ◌≡◌ {A = Result (List ℕ) EscapeError} (Err InvalidUnicodeEscape) (Ok t) = rw (found, is_high, is_low, unescape_digits) at h in cc)
    alone unit found fits left false is_high false is_low =
        character_step unit (alone_is_scalar unit fits is_high is_low) rest next t left (rw (found, is_high, is_low, unescape_digits) at h)

    go : (found : Result ℕ EscapeError) → code_unit (a ∷ b ∷ c ∷ d ∷ []) ≡ found → IsUtf8 t
    go (Err fault) found = absurd (let e : ◌≡◌ {A = Result (List ℕ) EscapeError} (Err fault) (Ok t) = rw (found, unescape_digits) at h in cc)
    go (Ok unit) found =
        let is = digits_apart a b c d unit found in
        alone unit found is.fits (utf8_behind_unit a b c d unit rest is utf8) (is_high_surrogate unit) refl (is_low_surrogate unit) refl

low_step : (high : ℕ) → is_high_surrogate high ≡ true → (e u a b c d : ℕ) (rest : List ℕ) → GivesText rest
    → GivesTextBehind (unescape_low high) (e ∷ u ∷ a ∷ b ∷ c ∷ d ∷ rest)
low_step high is e u a b c d rest next t utf8 h = go (e == escape && u == letter_u) refl (code_unit (a ∷ b ∷ c ∷ d ∷ [])) refl
  where
    pair : (low : ℕ) → IsUtf8 rest → (is_low : Bool) → is_low_surrogate low ≡ is_low
        → cond (is_low_surrogate low) (with_front (encode_utf8 (surrogate_pair_char high low)) (unescape rest)) (Err (InvalidSurrogatePair high low)) ≡ Ok t → IsUtf8 t
    pair low left false is_low found =
        absurd (let x : ◌≡◌ {A = Result (List ℕ) EscapeError} (Err (InvalidSurrogatePair high low)) (Ok t) = rw is_low at found in cc)
    pair low left true is_low found =
        character_step (surrogate_pair_char high low) (pair_is_scalar high low is is_low) rest next t left (rw is_low at found)

    go : (marked : Bool) → (e == escape && u == letter_u) ≡ marked → (found : Result ℕ EscapeError) → code_unit (a ∷ b ∷ c ∷ d ∷ []) ≡ found → IsUtf8 t
    go false marked found unit =
        absurd (let x : ◌≡◌ {A = Result (List ℕ) EscapeError} (Err ExpectedSurrogatePair) (Ok t) = rw (marked, unescape_low) at h in cc)
    go true marked (Err fault) unit =
        absurd (let x : ◌≡◌ {A = Result (List ℕ) EscapeError} (Err fault) (Ok t) = rw (marked, unit, unescape_low) at h in cc)
    go true marked (Ok low) unit =
        let both = and_parts (e == escape) (u == letter_u) marked in
        let first : e < 128 = let is_first = both.0 in grind (arith, nat_tests) in
        let second : u < 128 = let is_second = both.1 in grind (arith, nat_tests) in
        let digits = utf8_tail (a ∷ b ∷ c ∷ d ∷ rest) u second (utf8_tail (u ∷ a ∷ b ∷ c ∷ d ∷ rest) e first utf8) in
        pair low (utf8_behind_unit a b c d low rest (digits_apart a b c d low unit) digits) (is_low_surrogate low) refl (rw (marked, unit, unescape_low) at h)

cut : (t : List ℕ) → ◌≡◌ {A = Result (List ℕ) EscapeError} (Err UnexpectedEndOfString) (Ok t) → IsUtf8 t
cut t h = absurd (let e : ◌≡◌ {A = Result (List ℕ) EscapeError} (Err UnexpectedEndOfString) (Ok t) = h in cc)

mutual
  text_from : (raw : List ℕ) → GivesText raw
  text_from [] front t utf8 h = let same : [] ≡ t = cc in subst (λ u. IsUtf8 (front ++ u)) same utf8
  text_from (b ∷ rest) front t utf8 h = text_step b rest (text_from rest) (letter_text rest) front t utf8 h

  letter_text : (rest : List ℕ) → GivesTextBehind unescape_letter rest
  letter_text [] t utf8 h = cut t h
  letter_text (letter ∷ rest) t utf8 h = letter_step letter rest (text_from rest) (digits_text rest) t utf8 h

  digits_text : (rest : List ℕ) → GivesTextBehind unescape_digits rest
  digits_text (a ∷ b ∷ c ∷ d ∷ rest) t utf8 h = digits_step a b c d rest (text_from rest) (low_text rest) t utf8 h
  digits_text [] t utf8 h = cut t h
  digits_text (a ∷ []) t utf8 h = cut t h
  digits_text (a ∷ b ∷ []) t utf8 h = cut t h
  digits_text (a ∷ b ∷ c ∷ []) t utf8 h = cut t h

  low_text : (rest : List ℕ) (high : ℕ) → is_high_surrogate high ≡ true → GivesTextBehind (unescape_low high) rest
  low_text (e ∷ u ∷ a ∷ b ∷ c ∷ d ∷ rest) high is t utf8 h = low_step high is e u a b c d rest (text_from rest) t utf8 h
  low_text [] high is t utf8 h = cut t h
  low_text (a ∷ []) high is t utf8 h = cut t h
  low_text (a ∷ b ∷ []) high is t utf8 h = cut t h
  low_text (a ∷ b ∷ c ∷ []) high is t utf8 h = cut t h
  low_text (a ∷ b ∷ c ∷ d ∷ []) high is t utf8 h = cut t h
  low_text (a ∷ b ∷ c ∷ d ∷ e ∷ []) high is t utf8 h = cut t h

ok_of : (r : Result (List ℕ) EscapeError) (t : List ℕ) → result_ok r ≡ Some t → r ≡ Ok t
ok_of (Ok u) t h = cc
ok_of (Err fault) t h = cc

-- the text of a raw text in UTF-8 is in UTF-8
pub unescaped_is_utf8 : (raw text : List ℕ) → IsUtf8 raw → unescaped raw ≡ Some text → IsUtf8 text
unescaped_is_utf8 raw text utf8 h = text_from raw [] text utf8 (ok_of (unescape raw) text h)
