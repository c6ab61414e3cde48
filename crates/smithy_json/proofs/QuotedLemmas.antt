-- A text between quotation marks, with its escapes, is a string that stands for the text.
use Rattle.std.proofs.Common.{◌≡◌, ◌<◌, ℕ, zero, suc, List, [], ◌∷◌, ◌++◌, map, get_or, Bool, true, false, ◌&&◌, ◌==◌, Some, nat_lt, refl, sym, ap, arith, subst, inl, inr, ◌⊎◌, append_assoc}
use Rattle.std.proofs.lemmas.Bool.Decides.{nat_tests}
use Rattle.std.proofs.lemmas.Bool.{and_parts}
use Rattle.std.proofs.lemmas.Str.{IsUtf8-append, IsUtf8-from_ascii}
use Rattle.std.specs.Char.{IsAsciiHexdigit, is_ascii_hexdigit}
use Rattle.std.specs.Char.Escape.{hex_digit_at}
use Rattle.std.specs.List.{list_all, range_with_len}
use Rattle.std.specs.Prelude.{IsUtf8}
use Rattle.std.specs.Result.{result_ok}
use Rattle.smithy_json_grammar.specs.Ascii.{quotation_mark, escape, letter_u, backspace, form_feed, line_feed, carriage_return, tab, space}
use Rattle.smithy_json.specs.Escape.{hex_escape, escaped_byte, escaped, quoted}
use Rattle.smithy_json_grammar.specs.Grammar.{IsUnescaped, IsEscape, AreChars, IsString}
use Rattle.smithy_json_grammar.specs.Unescape.{unescaped}
use Rattle.smithy_json_grammar.specs.Private.Chars.{is_plain}
use Rattle.smithy_json.proofs.EscapeLemmas.{plain_byte, other_bytes, other_is_ascii, each_control, unescape_of_escaped}
use Rattle.smithy_json.proofs.TextLemmas.{utf8_before, utf8_behind}

-- ---- in UTF-8

abbrev are_ascii : List ℕ → Bool
are_ascii bytes = list_all (λ b. nat_lt b 128) bytes

ascii_at : (bytes : List ℕ) → are_ascii bytes ≡ true → (i : ℕ) → get_or bytes i 0 < 128
ascii_at [] all i = omega arith
ascii_at (b ∷ bytes) all zero = let first = (and_parts (nat_lt b 128) (are_ascii bytes) all).0 in grind (arith, nat_tests)
ascii_at (b ∷ bytes) all (suc i) = ascii_at bytes (and_parts (nat_lt b 128) (are_ascii bytes) all).1 i

all_controls : map (λ b. are_ascii (escaped_byte b)) (range_with_len 0 32) ≡ map (λ b. true) (range_with_len 0 32)
all_controls = refl

escaped_byte_is_utf8 : (b : ℕ) → is_plain b ≡ false → IsUtf8 (escaped_byte b)
escaped_byte_is_utf8 b other = IsUtf8-from_ascii (escaped_byte b) (ascii_at (escaped_byte b) (go (other_bytes b other)))
  where
    go : (b ≡ quotation_mark) ⊎ ((b ≡ escape) ⊎ (b < 32)) → are_ascii (escaped_byte b) ≡ true
    go (inl is) = rw is refl
    go (inr (inl is)) = rw is refl
    go (inr (inr below)) = each_control (λ b. are_ascii (escaped_byte b)) (λ b. true) false all_controls b below

-- bytes of a character may stand in front
abbrev StaysText : List ℕ → Type 0
StaysText t = (front : List ℕ) → IsUtf8 (front ++ t) → IsUtf8 (front ++ escaped t)

text_step : (b : ℕ) (t : List ℕ) → StaysText t → StaysText (b ∷ t)
text_step b t next front utf8 = go (is_plain b) refl
  where
    go : (plain : Bool) → is_plain b ≡ plain → IsUtf8 (front ++ (escaped_byte b ++ escaped t))
    go true plain =
        subst (λ bytes. IsUtf8 (front ++ (bytes ++ escaped t))) (sym (plain_byte b plain))
        (subst IsUtf8 (append_assoc front (b ∷ []) (escaped t))
        (next (front ++ b ∷ []) (subst IsUtf8 (sym (append_assoc front (b ∷ []) t)) utf8)))
    go false plain =
        let ascii = other_is_ascii b plain in
        IsUtf8-append front (escaped_byte b ++ escaped t) (utf8_before front t b ascii utf8)
        (IsUtf8-append (escaped_byte b) (escaped t) (escaped_byte_is_utf8 b plain) (next [] (utf8_behind front t b ascii utf8)))

escaped_is_utf8 : (t : List ℕ) → StaysText t
escaped_is_utf8 [] front utf8 = utf8
escaped_is_utf8 (b ∷ t) front utf8 = text_step b t (escaped_is_utf8 t) front utf8

-- ---- of characters

plain_char : (b : ℕ) (rest : List ℕ) → IsUnescaped b → AreChars rest → AreChars (b ∷ rest)
plain_char b [] is chars = is
plain_char b (letter ∷ rest) is chars = inl (is, chars)

escape_char : (letter : ℕ) (rest : List ℕ) → IsEscape letter rest → AreChars rest → AreChars (escape ∷ letter ∷ rest)
escape_char letter rest is chars = inr (refl, is, chars)

plain_is_unescaped : (b : ℕ) → is_plain b ≡ true → IsUnescaped b
plain_is_unescaped b plain = (grind (arith, nat_tests), (λ is. grind (arith, nat_tests)), (λ is. grind (arith, nat_tests)))

all_digits : map (λ b. is_ascii_hexdigit (hex_digit_at 0x10 b) && is_ascii_hexdigit (hex_digit_at 1 b)) (range_with_len 0 32) ≡ map (λ b. true) (range_with_len 0 32)
all_digits = refl

is_hexdigit : (d : ℕ) → is_ascii_hexdigit d ≡ true → IsAsciiHexdigit d
is_hexdigit d h = grind (arith, nat_tests)

hexdigit_is_unescaped : (d : ℕ) → is_ascii_hexdigit d ≡ true → IsUnescaped d
hexdigit_is_unescaped d h = (grind (arith, nat_tests), (λ is. grind (arith, nat_tests)), (λ is. grind (arith, nat_tests)))

hex_chars : (b : ℕ) (rest : List ℕ) → b < 32 → AreChars rest → AreChars (hex_escape b ++ rest)
hex_chars b rest below chars =
    let digits = and_parts (is_ascii_hexdigit (hex_digit_at 0x10 b)) (is_ascii_hexdigit (hex_digit_at 1 b))
    (each_control (λ b. is_ascii_hexdigit (hex_digit_at 0x10 b) && is_ascii_hexdigit (hex_digit_at 1 b)) (λ b. true) false all_digits b below) in
    let high = hex_digit_at 0x10 b in
    let low = hex_digit_at 1 b in
    let zero_digit : is_ascii_hexdigit 0x30 ≡ true = refl in
    escape_char letter_u (0x30 ∷ 0x30 ∷ high ∷ low ∷ rest)
    (inr (refl, (is_hexdigit 0x30 zero_digit, is_hexdigit 0x30 zero_digit, is_hexdigit high digits.0, is_hexdigit low digits.1)))
    (plain_char 0x30 (0x30 ∷ high ∷ low ∷ rest) (hexdigit_is_unescaped 0x30 zero_digit)
    (plain_char 0x30 (high ∷ low ∷ rest) (hexdigit_is_unescaped 0x30 zero_digit)
    (plain_char high (low ∷ rest) (hexdigit_is_unescaped high digits.0) (plain_char low rest (hexdigit_is_unescaped low digits.1) chars))))

is_byte : (b c : ℕ) → (b == c) ≡ true → c ≡ b
is_byte b c test = grind (arith, nat_tests)

control_chars : (b : ℕ) (rest : List ℕ) → b < 32 → AreChars rest → AreChars (escaped_byte b ++ rest)
control_chars b rest below chars = go (b == backspace) refl (b == form_feed) refl (b == line_feed) refl (b == carriage_return) refl (b == tab) refl
  where
    no_mark : (b == quotation_mark) ≡ false
    no_mark = grind (arith, nat_tests)

    no_slash : (b == escape) ≡ false
    no_slash = grind (arith, nat_tests)

    control : nat_lt b space ≡ true
    control = grind (arith, nat_tests)

    Chars : ℕ → Type 0
    Chars b = AreChars (escaped_byte b ++ rest)

    short : (c letter : ℕ) → escaped_byte c ≡ escape ∷ letter ∷ [] → IsEscape letter rest → Chars c
    short c letter is escapes = subst (λ bytes. AreChars (bytes ++ rest)) (sym is) (escape_char letter rest escapes chars)

    go : (t₀ : Bool) → (b == backspace) ≡ t₀ → (t₁ : Bool) → (b == form_feed) ≡ t₁ → (t₂ : Bool) → (b == line_feed) ≡ t₂ → (t₃ : Bool) → (b == carriage_return) ≡ t₃ → (t₄ : Bool) → (b == tab) ≡ t₄ → Chars b
    go true e _ _ _ _ _ _ _ _ = subst Chars (is_byte b backspace e) (short backspace _ refl (inl refl))
    go false _ true e _ _ _ _ _ _ = subst Chars (is_byte b form_feed e) (short form_feed _ refl (inl refl))
    go false _ false _ true e _ _ _ _ = subst Chars (is_byte b line_feed e) (short line_feed _ refl (inl refl))
    go false _ false _ false _ true e _ _ = subst Chars (is_byte b carriage_return e) (short carriage_return _ refl (inl refl))
    go false _ false _ false _ false _ true e = subst Chars (is_byte b tab e) (short tab _ refl (inl refl))
    go false e₀ false e₁ false e₂ false e₃ false e₄ =
        let written : escaped_byte b ≡ hex_escape b = rw (no_mark, no_slash, e₀, e₁, e₂, e₃, e₄, control) refl in
        subst (λ bytes. AreChars (bytes ++ rest)) (sym written) (hex_chars b rest below chars)

byte_chars : (b : ℕ) (rest : List ℕ) → AreChars rest → AreChars (escaped_byte b ++ rest)
byte_chars b rest chars = go (is_plain b) refl
  where
    Chars : ℕ → Type 0
    Chars b = AreChars (escaped_byte b ++ rest)

    other : (b ≡ quotation_mark) ⊎ ((b ≡ escape) ⊎ (b < 32)) → Chars b
    other (inl is) = subst Chars (sym is) (escape_char quotation_mark rest (inl refl) chars)
    other (inr (inl is)) = subst Chars (sym is) (escape_char escape rest (inl refl) chars)
    other (inr (inr below)) = control_chars b rest below chars

    go : (plain : Bool) → is_plain b ≡ plain → Chars b
    go true plain = subst (λ bytes. AreChars (bytes ++ rest)) (sym (plain_byte b plain)) (plain_char b rest (plain_is_unescaped b plain) chars)
    go false plain = other (other_bytes b plain)

escaped_chars : (t : List ℕ) → AreChars (escaped t)
escaped_chars [] = tt
escaped_chars (b ∷ t) = byte_chars b (escaped t) (escaped_chars t)

-- ---- a text

-- a quoted text is a string
pub quoted_is_string : (t : List ℕ) → IsUtf8 t → IsString (escaped t) (quoted t)
quoted_is_string t utf8 = (refl, (escaped_is_utf8 t [] utf8, escaped_chars t))

-- that stands for the text
pub unescaped_of_escaped : (t : List ℕ) → unescaped (escaped t) ≡ Some t
unescaped_of_escaped t = ap result_ok (unescape_of_escaped t)
