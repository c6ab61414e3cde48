-- Under the boundary of RFC 8259 a token lies exactly where its tree does, where it passes the tests of that grammar.
use Rattle.std.specs.Prelude.{◌≡◌, ◌==◌, ◌&&◌, ◌||◌, ◌≤◌, ℕ, drop, nat_le, List, [], ◌∷◌, Bool, true, false, Some, None, if◌then◌else◌, refl}
use Rattle.std.specs.Char.{is_ascii_hexdigit, IsAsciiHexdigit}
use Rattle.std.specs.Str.{is_utf8}
use Rattle.std.proofs.Common.{sym, ◌∙◌, ap, arith, inl, inr}
use Rattle.std.proofs.lemmas.Bool.{and_parts}
use Rattle.std.proofs.lemmas.Bool.Decides.{nat_tests}
use Rattle.std.proofs.lemmas.Str.{IsUtf8-from_is_utf8, is_utf8-from_IsUtf8}
use Rattle.smithy_json_grammar.specs.Ascii.{quotation_mark, escape, letter_u, space, is_short_escape}
use Rattle.smithy_json_grammar.specs.Grammar.{IsNumber, IsUnescaped, BeginsWithFourHexDigits, IsEscape, AreChars, IsStringText, IsBoundary, IsValue}
use Rattle.smithy_json_grammar.specs.Tree.{null}
use Rattle.smithy_json_grammar.proofs.NumberTextLemmas.{tells_numbers}
use Rattle.smithy_json_grammar.proofs.LenientTextLemmas.{chars_are_quoted}
use Rattle.smithy_declarations.specs.declared.shape_type.Scalar.{Scalar}
use Rattle.smithy_declarations.specs.declared.shape_type.Scalar.TheVariants as scalars
use Rattle.smithy_json_values.specs.LexicalGrammar.{rfc_8259, is_unescaped, begins_with_four_hex_digits, is_escape, are_chars, is_number_as, in_grammar, is_skipped_in, LiesInGrammar}
use Rattle.smithy_json_values.specs.Scalar.{JsonScalar, a_boolean, a_number, a_string, tree_of}
use Rattle.smithy_json_values.specs.Standing.{Lies, TreeLies, IsName, Names, begins_with_alphanumeric, json_frames}
use Rattle.smithy_json_values.specs.Tokens.{IsNumberRun, EndsRun, IsToken, EndsToken, IsNameToken, NameTokens}
use Rattle.smithy_json_values.specs.Private.Lexical.{number_pass, number_fills, boundary_stops, eq_false}
use Rattle.smithy_wire.specs.Rules.{Answer, no_meaning, settled}
use Rattle.smithy_shapes.specs.Limits.{Limits}

-- the token is one of RFC 8259, sections 6 and 7
abbrev pub IsInGrammar : JsonScalar → Type 0
IsInGrammar (a_boolean b) = Unit {0}
IsInGrammar (a_number raw) = IsNumber raw
IsInGrammar (a_string raw) = IsStringText raw

-- ---- numbers

pub number_is_run : (raw : List ℕ) → IsNumber raw → IsNumberRun raw
number_is_run [] h = absurd (number_fills h)
number_is_run (b ∷ raw) h = number_pass (b ∷ raw) h

pub boundary_ends : (s : List ℕ) → IsBoundary s → EndsRun s
boundary_ends [] h = tt
boundary_ends (b ∷ s) h = boundary_stops (b ∷ s) h

-- ---- tokens

pub value_is_token : (x : JsonScalar) (s : List ℕ) → IsValue (tree_of x) s → IsToken x s × IsInGrammar x
value_is_token (a_boolean true) s h = (h, tt)
value_is_token (a_boolean false) s h = (h, tt)
value_is_token (a_number raw) s h = ((h.0, number_is_run raw h.1), h.1)
value_is_token (a_string raw) s h = ((h.0, chars_are_quoted raw h.1.1), h.1)

pub token_is_value : (x : JsonScalar) (s : List ℕ) → IsToken x s → IsInGrammar x → IsValue (tree_of x) s
token_is_value (a_boolean true) s h g = h
token_is_value (a_boolean false) s h g = h
token_is_value (a_number raw) s h g = (h.0, g)
token_is_value (a_string raw) s h g = (h.0, g)

scalar_boundary : (x : JsonScalar) (i : List ℕ) (a e : ℕ) → TreeLies 1 (tree_of x) i a e → IsBoundary (drop e i)
scalar_boundary (a_boolean b) i a e h = h.1
scalar_boundary (a_number raw) i a e h = h.1
scalar_boundary (a_string raw) i a e h = h.1

ends_token : (x : JsonScalar) (r : List ℕ) → IsBoundary r → EndsToken x r
ends_token (a_boolean b) r h = tt
ends_token (a_number raw) r h = boundary_ends r h
ends_token (a_string raw) r h = tt

pub tree_is_token : (x : JsonScalar) (i : List ℕ) (d a e : ℕ) → TreeLies 1 (tree_of x) i a e → json_frames.scalar i d x a e × IsInGrammar x
tree_is_token x i d a e h =
    let front = h.0.2 in
    let token = value_is_token x front.1 front.4 in
    let boundary = scalar_boundary x i a e h in
    (((h.0.0, h.0.1, (front.0, front.1, front.2, front.3, token.0)), ends_token x (drop e i) boundary, boundary), token.1)

follows_scalar : (x : JsonScalar) (i : List ℕ) (a e : ℕ) → Lies (IsValue (tree_of x)) i a e → IsBoundary (drop e i) → TreeLies 1 (tree_of x) i a e
follows_scalar (a_boolean b) i a e h boundary = (h, boundary)
follows_scalar (a_number raw) i a e h boundary = (h, boundary)
follows_scalar (a_string raw) i a e h boundary = (h, boundary)

pub token_is_tree : (x : JsonScalar) (i : List ℕ) (d a e : ℕ) → json_frames.scalar i d x a e → IsInGrammar x → TreeLies 1 (tree_of x) i a e
token_is_tree x i d a e h g =
    let front = h.0.2 in
    follows_scalar x i a e (h.0.0, h.0.1, (front.0, front.1, front.2, front.3, token_is_value x front.1 front.4 g)) h.2

-- ---- what passes the tests of RFC 8259 is in its grammar

unescaped_is : (b : ℕ) → is_unescaped b ≡ true → IsUnescaped b
unescaped_is b h = (grind (arith, nat_tests), grind (arith, nat_tests), grind (arith, nat_tests))

hex_is : (b : ℕ) → is_ascii_hexdigit b ≡ true → IsAsciiHexdigit b
hex_is b h = grind (arith, nat_tests)

four_are : (s : List ℕ) → begins_with_four_hex_digits s ≡ true → BeginsWithFourHexDigits s
four_are [] h = cc
four_are (a ∷ []) h = cc
four_are (a ∷ b ∷ []) h = cc
four_are (a ∷ b ∷ c ∷ []) h = cc
four_are (a ∷ b ∷ c ∷ d ∷ s) h =
    let p = and_parts (is_ascii_hexdigit a) (is_ascii_hexdigit b && (is_ascii_hexdigit c && is_ascii_hexdigit d)) h in
    let q = and_parts (is_ascii_hexdigit b) (is_ascii_hexdigit c && is_ascii_hexdigit d) p.1 in
    let r = and_parts (is_ascii_hexdigit c) (is_ascii_hexdigit d) q.1 in
    (hex_is a p.0, hex_is b q.0, hex_is c r.0, hex_is d r.1)

same_byte : (b c : ℕ) → (b == c) ≡ true → b ≡ c
same_byte b c h = grind (arith, nat_tests)

escape_is : (letter : ℕ) (rest : List ℕ) → is_escape letter rest ≡ true → IsEscape letter rest
escape_is letter rest h = by (is_short_escape letter) refl
  where
    by : (short : Bool) → is_short_escape letter ≡ short → IsEscape letter rest
    by true is = inl is
    by false is =
        let p = and_parts (letter == letter_u) (begins_with_four_hex_digits rest) (rw is at h) in
        inr (same_byte letter letter_u p.0, four_are rest p.1)

chars_are : (raw : List ℕ) → are_chars raw ≡ true → AreChars raw
chars_are [] h = tt
chars_are (b ∷ []) h = unescaped_is b h
chars_are (b ∷ letter ∷ rest) h = by (b == escape) refl (chars_are (letter ∷ rest)) (chars_are rest)
  where
    by : (is : Bool) → (b == escape) ≡ is → (are_chars (letter ∷ rest) ≡ true → AreChars (letter ∷ rest)) → (are_chars rest ≡ true → AreChars rest)
        → AreChars (b ∷ letter ∷ rest)
    by true is more behind =
        let p = and_parts (is_escape letter rest) (are_chars rest) (rw is at h) in
        inr (same_byte b escape is, escape_is letter rest p.0, behind p.1)
    by false is more behind =
        let same = ap (λ t. if t then is_escape letter rest && are_chars rest else is_unescaped b && are_chars (letter ∷ rest)) is in
        let p = and_parts (is_unescaped b) (are_chars (letter ∷ rest)) (sym same ∙ h) in
        inl (unescaped_is b p.0, more p.1)

-- every kind of numbers is read by the one test
one_test : (s : Scalar) (raw : List ℕ) → is_number_as rfc_8259 s raw ≡ rfc_8259.is_number raw
one_test scalars.BigInteger raw = refl
one_test scalars.BigDecimal raw = refl
one_test scalars.Timestamp raw = refl
one_test _ raw = refl

pub skipped_is : (x : JsonScalar) → is_skipped_in rfc_8259 x ≡ true → IsInGrammar x
skipped_is (a_boolean b) h = tt
skipped_is (a_number raw) h = (tells_numbers raw).0 h
skipped_is (a_string raw) h =
    let p = and_parts (is_utf8 raw) (are_chars raw) h in (IsUtf8-from_is_utf8 raw p.0, chars_are raw p.1)

pub in_good : (s : Scalar) (x : JsonScalar) → in_grammar rfc_8259 s x ≡ true → is_skipped_in rfc_8259 x ≡ true
in_good s (a_boolean b) h = refl
in_good s (a_number raw) h = sym (one_test s raw) ∙ h
in_good s (a_string raw) h = h

pub good_in : (s : Scalar) (x : JsonScalar) → is_skipped_in rfc_8259 x ≡ true → in_grammar rfc_8259 s x ≡ true
good_in s (a_boolean b) h = refl
good_in s (a_number raw) h = one_test s raw ∙ h
good_in s (a_string raw) h = h

pub grammar_is : (s : Scalar) (x : JsonScalar) → in_grammar rfc_8259 s x ≡ true → IsInGrammar x
grammar_is s x h = skipped_is x (in_good s x h)

-- ---- and they pass what is in it

both : (p q : Bool) → p ≡ true → q ≡ true → (p && q) ≡ true
both p q h k = rw (h, k) refl

either : (p q : Bool) → q ≡ true → (p || q) ≡ true
either true q h = refl
either false q h = h

eq_true : (b c : ℕ) → b ≡ c → (b == c) ≡ true
eq_true b c h = grind (arith, nat_tests)

at_least : (b : ℕ) → space ≤ b → nat_le space b ≡ true
at_least b h = grind (arith, nat_tests)

unescaped_passes : (b : ℕ) → IsUnescaped b → is_unescaped b ≡ true
unescaped_passes b h = rw (at_least b h.0, eq_false b quotation_mark h.1, eq_false b escape h.2) refl

hex_passes : (b : ℕ) → IsAsciiHexdigit b → is_ascii_hexdigit b ≡ true
hex_passes b h = grind (arith, nat_tests)

four_pass : (s : List ℕ) → BeginsWithFourHexDigits s → begins_with_four_hex_digits s ≡ true
four_pass [] h = absurd h
four_pass (a ∷ []) h = absurd h
four_pass (a ∷ b ∷ []) h = absurd h
four_pass (a ∷ b ∷ c ∷ []) h = absurd h
four_pass (a ∷ b ∷ c ∷ d ∷ s) h = rw (hex_passes a h.0, hex_passes b h.1, hex_passes c h.2, hex_passes d h.3) refl

escape_passes : (letter : ℕ) (rest : List ℕ) → IsEscape letter rest → is_escape letter rest ≡ true
escape_passes letter rest (inl h) = rw h refl
escape_passes letter rest (inr h) =
    either (is_short_escape letter) ((letter == letter_u) && begins_with_four_hex_digits rest)
    (both (letter == letter_u) (begins_with_four_hex_digits rest) (eq_true letter letter_u h.0) (four_pass rest h.1))

chars_pass : (raw : List ℕ) → AreChars raw → are_chars raw ≡ true
chars_pass [] h = refl
chars_pass (b ∷ []) h = unescaped_passes b h
chars_pass (b ∷ c ∷ s) (inl h) =
    ap (λ t. if t then is_escape c s && are_chars s else is_unescaped b && are_chars (c ∷ s)) (eq_false b escape h.0.2)
    ∙ both (is_unescaped b) (are_chars (c ∷ s)) (unescaped_passes b h.0) (chars_pass (c ∷ s) h.1)
chars_pass (b ∷ c ∷ s) (inr h) =
    ap (λ t. if t then is_escape c s && are_chars s else is_unescaped b && are_chars (c ∷ s)) (eq_true b escape h.0)
    ∙ both (is_escape c s) (are_chars s) (escape_passes c s h.1) (chars_pass s h.2)

pub skipped_in : (x : JsonScalar) → IsInGrammar x → is_skipped_in rfc_8259 x ≡ true
skipped_in (a_boolean b) h = refl
skipped_in (a_number raw) h = (tells_numbers raw).1 h
skipped_in (a_string raw) h = rw (is_utf8-from_IsUtf8 raw h.0, chars_pass raw h.1) refl

-- ---- what means something only where it passes the tests

pub passes : (s : Scalar) (x : JsonScalar) → IsInGrammar x → in_grammar rfc_8259 s x ≡ true
passes s x h = good_in s x (skipped_in x h)

-- a tree lies there exactly where its token does, in the grammar of the standard
pub tree_in_grammar : (s : Scalar) (x : JsonScalar) (i : List ℕ) (a e : ℕ) → TreeLies 1 (tree_of x) i a e → LiesInGrammar rfc_8259 s x i a e
tree_in_grammar s x i a e h = let token = tree_is_token x i 0 a e h in (token.0, passes s x token.1)

pub in_grammar_tree : (s : Scalar) (x : JsonScalar) (i : List ℕ) (a e : ℕ) → LiesInGrammar rfc_8259 s x i a e → TreeLies 1 (tree_of x) i a e
in_grammar_tree s x i a e h = token_is_tree x i 0 a e h.0 (grammar_is s x h.1)

-- what a token of the grammar says is what it says without the test
pub said_in : {A : Type 0} (s : Scalar) (x : JsonScalar) (a other : A) → IsInGrammar x → (if in_grammar rfc_8259 s x then a else other) ≡ a
said_in s x a other h = ap (λ b. if b then a else other) (passes s x h)

-- and what says something is a token of the grammar
pub answer_in : {A : Type 0} (s : Scalar) (x : JsonScalar) (a b : Answer A) → (no_meaning ≡ b → ⊥) → (if in_grammar rfc_8259 s x then a else no_meaning) ≡ b
    → IsInGrammar x × (a ≡ b)
answer_in s x a b other h = by (in_grammar rfc_8259 s x) refl h
  where
    by : (test : Bool) → in_grammar rfc_8259 s x ≡ test → (if test then a else no_meaning) ≡ b → IsInGrammar x × (a ≡ b)
    by true is h = (grammar_is s x is, h)
    by false is h = absurd (other h)

pub settled_in : {A : Type 0} (limits : Limits) (nil : A) (s : Scalar) (x : JsonScalar) (a : Answer A) (v : A)
    → settled limits nil (if in_grammar rfc_8259 s x then a else no_meaning) ≡ Some v → IsInGrammar x × (settled limits nil a ≡ Some v)
settled_in limits nil s x a v h = by (in_grammar rfc_8259 s x) refl h
  where
    by : (test : Bool) → in_grammar rfc_8259 s x ≡ test → settled limits nil (if test then a else no_meaning) ≡ Some v
        → IsInGrammar x × (settled limits nil a ≡ Some v)
    by true is h = (grammar_is s x is, h)
    by false is h = absurd (let no : None ≡ Some v = h in cc)

-- ---- nulls and names

pub boundary_is_no_word : (s : List ℕ) → IsBoundary s → begins_with_alphanumeric s ≡ false
boundary_is_no_word [] h = refl
boundary_is_no_word (b ∷ s) (inl h) = grind (arith, nat_tests)
boundary_is_no_word (b ∷ s) (inr (inl h)) = rw h refl
boundary_is_no_word (b ∷ s) (inr (inr (inl h))) = rw h refl
boundary_is_no_word (b ∷ s) (inr (inr (inr h))) = rw h refl

pub null_token : (i : List ℕ) (d a e : ℕ) → TreeLies 1 null i a e → json_frames.null i d a e
null_token i d a e h = (h.0, boundary_is_no_word (drop e i) h.1, h.1)

pub token_null : (i : List ℕ) (d a e : ℕ) → json_frames.null i d a e → TreeLies 1 null i a e
token_null i d a e h = (h.0, h.2)

lies_as : (P Q : List ℕ → Type 0) (i : List ℕ) (a e : ℕ) → ((s : List ℕ) → P s → Q s) → Lies P i a e → Lies Q i a e
lies_as P Q i a e f h = (h.0, h.1, (h.2.0, h.2.1, h.2.2, h.2.3, f h.2.1 h.2.4))

pub name_is_token : (raw s : List ℕ) → IsName raw s → IsNameToken raw s
name_is_token raw s h = (h.0, h.1, chars_are_quoted raw h.2.1, h.3)

pub names_token : (i : List ℕ) (entered : Bool) (b : ℕ) (raw : List ℕ) (c : ℕ) → Names entered i b raw c → NameTokens entered i b raw c × IsStringText raw
names_token i entered b raw c h =
    ((h.0, h.1, lies_as (IsName raw) (IsNameToken raw) i h.0 c (name_is_token raw) h.2), h.2.2.4.2)

pub token_names : (i : List ℕ) (entered : Bool) (b : ℕ) (raw : List ℕ) (c : ℕ) → NameTokens entered i b raw c → IsStringText raw → Names entered i b raw c
token_names i entered b raw c h text =
    (h.0, h.1, lies_as (IsNameToken raw) (IsName raw) i h.0 c (λ s t. (t.0, t.1, text, t.3)) h.2)
