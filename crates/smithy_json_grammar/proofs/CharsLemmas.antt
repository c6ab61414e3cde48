-- Where the text of a string ends: the computed place is the one of the grammar.
use Rattle.std.proofs.Common.{◌≡◌, ◌≢◌, ◌+◌, ◌≤◌, ◌<◌, ℕ, zero, suc, List, [], ◌∷◌, ◌++◌, length, take, drop, get_or, Bool, true, false, ◌&&◌, Option, Some, None, option_map, refl, sym, ap, ◌∙◌, arith, inl, inr, cond, ◌==◌, nat_le, subst}
use Rattle.std.proofs.lemmas.Bool.Decides.{nat_tests}
use Rattle.std.proofs.lemmas.Bool.{and_parts}
use Rattle.std.specs.Char.{is_ascii_hexdigit, IsAsciiHexdigit}
use Rattle.std.specs.Int.{is_in_range}
use Rattle.std.specs.List.{prefix_len}
use Rattle.smithy_json_grammar.specs.Ascii.{quotation_mark, escape, space, letter_u, is_short_escape}
use Rattle.smithy_json_grammar.specs.Grammar.{IsUnescaped, BeginsWithFourHexDigits, IsEscape, AreChars}
use Rattle.smithy_json_grammar.specs.Unescape.{has_escape}
use Rattle.smithy_json_grammar.specs.Private.Chars.{is_plain, begins_with_four_hex_digits, is_escape, chars_length, escape_length}

-- ---- a place further on

abbrev pub shift : ℕ → Option ℕ → Option ℕ
shift k place = option_map (λ n. k + n) place

pub shift-zero : (place : Option ℕ) → shift 0 place ≡ place
shift-zero None = refl
shift-zero (Some n) = let e : 0 + n ≡ n = omega arith in ap Some e

pub shift-shift : (j k : ℕ) (place : Option ℕ) → shift j (shift k place) ≡ shift (j + k) place
shift-shift j k None = refl
shift-shift j k (Some n) = let e : j + (k + n) ≡ j + k + n = omega arith in ap Some e

pub one_more : (place : Option ℕ) → option_map suc place ≡ shift 1 place
one_more None = refl
one_more (Some n) = let e : suc n ≡ 1 + n = omega arith in ap Some e

pub two_more : (place : Option ℕ) → option_map (λ n. suc (suc n)) place ≡ shift 2 place
two_more None = refl
two_more (Some n) = let e : suc (suc n) ≡ 2 + n = omega arith in ap Some e

-- ---- bytes that stand for themselves

plain_tests : (b : ℕ) → is_plain b ≡ true → IsUnescaped b
plain_tests b h = (grind (arith, nat_tests), grind (arith, nat_tests), grind (arith, nat_tests))

unescaped_tests : (b : ℕ) → IsUnescaped b → is_plain b ≡ true
unescaped_tests b h = grind (arith, nat_tests)

hex_is_plain : (b : ℕ) → is_ascii_hexdigit b ≡ true → is_plain b ≡ true
hex_is_plain b h = grind (arith, nat_tests)

-- what the computed place is at a byte that stands for itself
eq_false : (b c : ℕ) → b ≢ c → (b == c) ≡ false
eq_false b c h = grind (arith, nat_tests)

le_true : (a b : ℕ) → a ≤ b → nat_le a b ≡ true
le_true a b h = grind (arith, nat_tests)

chars_length-plain : (b : ℕ) (rest : List ℕ) → is_plain b ≡ true → chars_length (b ∷ rest) ≡ option_map suc (chars_length rest)
chars_length-plain b rest h =
    let plain = plain_tests b h in
    rw (eq_false b quotation_mark plain.1, eq_false b escape plain.2, le_true space b plain.0) refl

-- at a run of such bytes
pub chars_length-run : (s : List ℕ) → chars_length s ≡ shift (prefix_len is_plain s) (chars_length (drop (prefix_len is_plain s) s))
chars_length-run [] = refl
chars_length-run (b ∷ s) = go (is_plain b) refl (prefix_len is_plain s) (chars_length-run s)
  where
    go : (plain : Bool) → is_plain b ≡ plain → (n : ℕ) → chars_length s ≡ shift n (chars_length (drop n s))
        → chars_length (b ∷ s) ≡ shift (cond plain (1 + n) 0) (chars_length (drop (cond plain (1 + n) 0) (b ∷ s)))
    go true plain n rest =
        let one : 1 + n ≡ suc n = omega arith in
        chars_length-plain b s plain ∙ one_more (chars_length s) ∙ ap (shift 1) rest
        ∙ shift-shift 1 n (chars_length (drop n s))
        ∙ ap (λ k. shift (1 + n) (chars_length (drop k (b ∷ s)))) (sym one)
    go false plain n rest = sym (shift-zero (chars_length (b ∷ s)))

four_more : (place : Option ℕ) → option_map suc (option_map suc (option_map suc (option_map suc place))) ≡ shift 4 place
four_more None = refl
four_more (Some n) = let e : suc (suc (suc (suc n))) ≡ 4 + n = omega arith in ap Some e

pub four_digits_fit : (s : List ℕ) → begins_with_four_hex_digits s ≡ true → 4 ≤ length s
four_digits_fit (a ∷ b ∷ c ∷ d ∷ s) h = omega arith
four_digits_fit [] h = cc
four_digits_fit (a ∷ []) h = cc
four_digits_fit (a ∷ b ∷ []) h = cc
four_digits_fit (a ∷ b ∷ c ∷ []) h = cc

-- at four hexadecimal digits
pub chars_length-hex : (s : List ℕ) → begins_with_four_hex_digits s ≡ true → chars_length s ≡ shift 4 (chars_length (drop 4 s))
chars_length-hex (a ∷ b ∷ c ∷ d ∷ s) h =
    let abc = and_parts (is_ascii_hexdigit a && is_ascii_hexdigit b && is_ascii_hexdigit c) (is_ascii_hexdigit d) h in
    let ab = and_parts (is_ascii_hexdigit a && is_ascii_hexdigit b) (is_ascii_hexdigit c) abc.0 in
    let each = and_parts (is_ascii_hexdigit a) (is_ascii_hexdigit b) ab.0 in
    chars_length-plain a (b ∷ c ∷ d ∷ s) (hex_is_plain a each.0)
    ∙ ap (option_map suc) (chars_length-plain b (c ∷ d ∷ s) (hex_is_plain b each.1)
    ∙ ap (option_map suc) (chars_length-plain c (d ∷ s) (hex_is_plain c ab.1)
    ∙ ap (option_map suc) (chars_length-plain d s (hex_is_plain d abc.1))))
    ∙ four_more (chars_length s)
chars_length-hex [] h = cc
chars_length-hex (a ∷ []) h = cc
chars_length-hex (a ∷ b ∷ []) h = cc
chars_length-hex (a ∷ b ∷ c ∷ []) h = cc

-- ---- the grammar

AreChars-plain : (b : ℕ) (s : List ℕ) → IsUnescaped b → AreChars s → AreChars (b ∷ s)
AreChars-plain b [] plain are = plain
AreChars-plain b (c ∷ s) plain are = inl (plain, are)

hex_tests : (b : ℕ) → is_ascii_hexdigit b ≡ true → IsAsciiHexdigit b
hex_tests b h = go (is_in_range 48 57 b) refl (is_in_range 65 70 b) refl
  where
    go : (digit : Bool) → is_in_range 48 57 b ≡ digit → (upper : Bool) → is_in_range 65 70 b ≡ upper → IsAsciiHexdigit b
    go true digit _ _ = inl (inl (grind (arith, nat_tests), grind (arith, nat_tests)))
    go false digit true upper = inl (inr (grind (arith, nat_tests), grind (arith, nat_tests)))
    go false digit false upper = inr (grind (arith, nat_tests), grind (arith, nat_tests))

hex_digits_within : (s : List ℕ) (n : ℕ) → begins_with_four_hex_digits s ≡ true → 4 ≤ n → BeginsWithFourHexDigits (take n s)
hex_digits_within (a ∷ b ∷ c ∷ d ∷ s) (suc (suc (suc (suc n)))) h long =
    let abc = and_parts (is_ascii_hexdigit a && is_ascii_hexdigit b && is_ascii_hexdigit c) (is_ascii_hexdigit d) h in
    let ab = and_parts (is_ascii_hexdigit a && is_ascii_hexdigit b) (is_ascii_hexdigit c) abc.0 in
    let each = and_parts (is_ascii_hexdigit a) (is_ascii_hexdigit b) ab.0 in
    (hex_tests a each.0, hex_tests b each.1, hex_tests c ab.1, hex_tests d abc.1)
hex_digits_within (a ∷ b ∷ c ∷ d ∷ s) zero h long = absurd (omega arith)
hex_digits_within (a ∷ b ∷ c ∷ d ∷ s) (suc zero) h long = absurd (omega arith)
hex_digits_within (a ∷ b ∷ c ∷ d ∷ s) (suc (suc zero)) h long = absurd (omega arith)
hex_digits_within (a ∷ b ∷ c ∷ d ∷ s) (suc (suc (suc zero))) h long = absurd (omega arith)
hex_digits_within [] n h long = cc
hex_digits_within (a ∷ []) n h long = cc
hex_digits_within (a ∷ b ∷ []) n h long = cc
hex_digits_within (a ∷ b ∷ c ∷ []) n h long = cc

four_at_least : (place : Option ℕ) (n : ℕ) → shift 4 place ≡ Some n → 4 ≤ n
four_at_least None n e = cc
four_at_least (Some m) n e = let same : 4 + m ≡ n = cc in omega arith

escape_within : (letter : ℕ) (rest : List ℕ) (n : ℕ) → is_escape letter rest ≡ true → chars_length rest ≡ Some n → IsEscape letter (take n rest)
escape_within letter rest n h e = go (is_short_escape letter) refl
  where
    go : (short : Bool) → is_short_escape letter ≡ short → IsEscape letter (take n rest)
    go true short = inl short
    go false short =
        let both : ((letter == letter_u) && begins_with_four_hex_digits rest) ≡ true = rw short at h in
        let parts = and_parts (letter == letter_u) (begins_with_four_hex_digits rest) both in
        inr (grind (arith, nat_tests), hex_digits_within rest n parts.1 (four_at_least _ n (sym (chars_length-hex rest parts.1) ∙ e)))

-- a place that was found: before it are characters of a string, and at it the closing mark
pub record Closes (s : List ℕ) (n : ℕ) : Type 0 where
  pub within : n < length s
  pub chars : AreChars (take n s)
  pub mark : get_or s n 0 ≡ quotation_mark

closes_later : (b : ℕ) (s : List ℕ) (n m : ℕ) → suc n ≡ m → IsUnescaped b → Closes s n → Closes (b ∷ s) m
closes_later b s n m e plain closes = subst (Closes (b ∷ s)) e (record { within = omega (arith, closes.within); chars = AreChars-plain b (take n s) plain closes.chars; mark = closes.mark })

option_map_suc_some : (place : Option ℕ) (n : ℕ) → option_map suc place ≡ Some n → (m : ℕ) × (place ≡ Some m) × (suc m ≡ n)
option_map_suc_some None n e = cc
option_map_suc_some (Some m) n e = (m, refl, cc)

option_map_two_some : (place : Option ℕ) (n : ℕ) → option_map (λ k. suc (suc k)) place ≡ Some n → (m : ℕ) × (place ≡ Some m) × (suc (suc m) ≡ n)
option_map_two_some None n e = cc
option_map_two_some (Some m) n e = (m, refl, cc)

closes_at : (b : ℕ) (s : List ℕ) (n : ℕ) → ((m : ℕ) → chars_length s ≡ Some m → Closes s m) → ((m : ℕ) → escape_length s ≡ Some m → Closes (escape ∷ s) m)
    → chars_length (b ∷ s) ≡ Some n → Closes (b ∷ s) n
closes_at b s n later escapes e = go (b == quotation_mark) refl (b == escape) refl (nat_le space b) refl
  where
    go : (mark : Bool) → (b == quotation_mark) ≡ mark → (slash : Bool) → (b == escape) ≡ slash → (plain : Bool) → nat_le space b ≡ plain → Closes (b ∷ s) n
    go true mark _ _ _ _ =
        let zero_is : ◌≡◌ {A = Option ℕ} (Some 0) (Some n) = rw mark at e in
        let same : 0 ≡ n = cc in
        subst (Closes (b ∷ s)) same (record { within = omega arith; chars = tt; mark = grind (arith, nat_tests) })
    go false mark true slash _ _ =
        let found : escape_length s ≡ Some n = rw (mark, slash) at e in
        let same : escape ≡ b = grind (arith, nat_tests) in
        subst (λ x. Closes (x ∷ s) n) same (escapes n found)
    go false mark false slash true plain =
        let found : option_map suc (chars_length s) ≡ Some n = rw (mark, slash, plain) at e in
        let one = option_map_suc_some (chars_length s) n found in
        closes_later b s one.0 n one.2 (grind (arith, nat_tests), grind (arith, nat_tests), grind (arith, nat_tests)) (later one.0 one.1)
    go false mark false slash false plain =
        let found : ◌≡◌ {A = Option ℕ} None (Some n) = rw (mark, slash, plain) at e in cc

escape_closes : (letter : ℕ) (rest : List ℕ) (n : ℕ) → ((m : ℕ) → chars_length rest ≡ Some m → Closes rest m) → escape_length (letter ∷ rest) ≡ Some n → Closes (escape ∷ letter ∷ rest) n
escape_closes letter rest n later e = go (is_escape letter rest) refl
  where
    go : (is : Bool) → is_escape letter rest ≡ is → Closes (escape ∷ letter ∷ rest) n
    go true is =
        let found : option_map (λ k. suc (suc k)) (chars_length rest) ≡ Some n = rw is at e in
        let two = option_map_two_some (chars_length rest) n found in
        let closes = later two.0 two.1 in
        subst (Closes (escape ∷ letter ∷ rest)) two.2 (record {
          within = omega (arith, closes.within);
          chars = inr (refl, escape_within letter rest two.0 is two.1, closes.chars);
          mark = closes.mark;
        })
    go false is =
        let found : ◌≡◌ {A = Option ℕ} None (Some n) = rw is at e in cc

mutual
  -- the computed place closes a string
  pub chars_length-closes : (s : List ℕ) (n : ℕ) → chars_length s ≡ Some n → Closes s n
  chars_length-closes [] n e = cc
  chars_length-closes (b ∷ s) n e = closes_at b s n (chars_length-closes s) (escape_length-closes s) e

  escape_length-closes : (s : List ℕ) (n : ℕ) → escape_length s ≡ Some n → Closes (escape ∷ s) n
  escape_length-closes [] n e = cc
  escape_length-closes (letter ∷ rest) n e = escape_closes letter rest n (chars_length-closes rest) e

hex_test : (b : ℕ) → IsAsciiHexdigit b → is_ascii_hexdigit b ≡ true
hex_test b (inl (inl h)) = grind (arith, nat_tests)
hex_test b (inl (inr h)) = grind (arith, nat_tests)
hex_test b (inr h) = grind (arith, nat_tests)

four_hex_digits_before : (s rest : List ℕ) → BeginsWithFourHexDigits s → begins_with_four_hex_digits (s ++ rest) ≡ true
four_hex_digits_before (a ∷ b ∷ c ∷ d ∷ s) rest h = rw (hex_test a h.0, hex_test b h.1, hex_test c h.2, hex_test d h.3) refl
four_hex_digits_before [] rest h = absurd h
four_hex_digits_before (a ∷ []) rest h = absurd h
four_hex_digits_before (a ∷ b ∷ []) rest h = absurd h
four_hex_digits_before (a ∷ b ∷ c ∷ []) rest h = absurd h

escape_before : (letter : ℕ) (s rest : List ℕ) → IsEscape letter s → is_escape letter (s ++ rest) ≡ true
escape_before letter s rest (inl short) = rw short refl
escape_before letter s rest (inr h) = rw (h.0, four_hex_digits_before s rest h.1) refl

-- characters and a closing mark have their computed place
pub chars_length-chars : (raw rest : List ℕ) → AreChars raw → chars_length (raw ++ quotation_mark ∷ rest) ≡ Some (length raw)
chars_length-chars [] rest are = refl
chars_length-chars (b ∷ []) rest are = chars_length-plain b (quotation_mark ∷ rest) (unescaped_tests b are)
chars_length-chars (b ∷ c ∷ raw) rest (inl are) =
    chars_length-plain b (c ∷ raw ++ quotation_mark ∷ rest) (unescaped_tests b are.0)
    ∙ ap (option_map suc) (chars_length-chars (c ∷ raw) rest are.1)
chars_length-chars (b ∷ c ∷ raw) rest (inr are) =
    rw (are.0, escape_before c raw (quotation_mark ∷ rest) are.1) (ap (option_map (λ n. suc (suc n))) (chars_length-chars raw rest are.2))

-- ---- escapes in a text

not_escape : (b : ℕ) → is_plain b ≡ true → (b == escape) ≡ false
not_escape b plain = grind (arith, nat_tests)

no_escape_more : (b : ℕ) (raw : List ℕ) → (prefix_len is_plain raw ≡ length raw → has_escape raw ≡ false) → prefix_len is_plain (b ∷ raw) ≡ length (b ∷ raw) → has_escape (b ∷ raw) ≡ false
no_escape_more b raw later all = go (is_plain b) refl
  where
    go : (plain : Bool) → is_plain b ≡ plain → has_escape (b ∷ raw) ≡ false
    go true plain =
        let more : 1 + prefix_len is_plain raw ≡ suc (length raw) = rw plain at all in
        rw (not_escape b plain) (later (omega arith))
    go false plain =
        let none : 0 ≡ suc (length raw) = rw plain at all in absurd (omega arith)

-- a text of bytes that stand for themselves has no escape
pub no_escape : (raw : List ℕ) → prefix_len is_plain raw ≡ length raw → has_escape raw ≡ false
no_escape [] all = refl
no_escape (b ∷ raw) all = no_escape_more b raw (no_escape raw) all

contradiction : {b : Bool} → b ≡ true → b ≡ false → ⊥
contradiction p q = cc

-- a text of characters with another byte has one
pub some_escape : (raw : List ℕ) (k : ℕ) → AreChars raw → k < length raw → is_plain (get_or raw k 0) ≡ false → has_escape raw ≡ true
some_escape [] k are within stops = absurd (omega arith)
some_escape (b ∷ []) zero are within stops = absurd (contradiction (unescaped_tests b are) stops)
some_escape (b ∷ []) (suc k) are within stops = absurd (omega arith)
some_escape (b ∷ c ∷ raw) zero (inl are) within stops = absurd (contradiction (unescaped_tests b are.0) stops)
some_escape (b ∷ c ∷ raw) (suc k) (inl are) within stops =
    rw (not_escape b (unescaped_tests b are.0)) (some_escape (c ∷ raw) k are.1 (omega arith) stops)
some_escape (b ∷ c ∷ raw) k (inr are) within stops = rw are.0 refl
