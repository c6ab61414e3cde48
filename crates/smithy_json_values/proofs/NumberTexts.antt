-- The text of a number is ASCII, and what a text is as a big number.
use Rattle.std.proofs.Common.{◌≡◌, ◌<◌, ℕ, zero, suc, List, [], ◌∷◌, Bool, true, false, Option, Some, None, refl, ap, ◌∙◌, arith, inl, inr, ◌^◌, IsAscii, IsUtf8}
use Rattle.std.specs.Prelude.{◌&&◌, FitsSigned, ℤ, pos, negsuc, neg_ℤ, int_le, int_lt}
use Rattle.std.specs.Int.{w128}
use Rattle.std.proofs.lemmas.Bool.{cases_Bool}
use Rattle.std.proofs.lemmas.Int.{ints}
use Rattle.std.proofs.lemmas.Bool.{and_parts, ltb-true}
use Rattle.std.proofs.lemmas.Bool.Decides.{nat_tests}
use Rattle.std.proofs.lemmas.Str.{IsUtf8-from_ascii}
use Rattle.smithy_declarations.specs.declared.shape_type.Scalar.{Scalar}
use Rattle.smithy_declarations.specs.declared.shape_type.Scalar.TheVariants as scalars
use Rattle.smithy_declarations.specs.Value.{whole, decimal, scalar_value}
use Rattle.smithy_texts.specs.Decimal.{DecimalForm, integer_form, is_decimal, decimal_form, mantissa, written_exponent, net_exponent, exponents_fit}
use Rattle.smithy_texts.specs.Ranges.{fits_signed, is_exponent}
use Rattle.smithy_texts.proofs.WrittenNumerals.{fits_signed-wide}
use Rattle.smithy_json_grammar.specs.Grammar.{IsNumber}
use Rattle.smithy_json_grammar.specs.Unescape.{unescaped}
use Rattle.smithy_json_values.specs.Scalar.{JsonScalar, a_boolean, a_number, a_string, number_text, big_number, number_says}
use Rattle.smithy_json_values.specs.LexicalGrammar.{LexicalGrammar, LiesInGrammar}
use Rattle.smithy_json_values.specs.Private.Lexical.{is_numeric, Pass, number_pass}
use Rattle.smithy_json_values.specs.Private.ScalarAtPlace.{NothingAt}
use Rattle.smithy_json_values.specs.NumberText.{NumberTextLies}
use Rattle.smithy_wire.specs.Rules.{means, no_meaning, wide}
use Rattle.smithy_wire.specs.BigNumbers.{is_in_limits, big_decimal}
use Rattle.smithy_wire.proofs.Bounds.{bounded_exceeds}

numeric_is_ascii : (b : ℕ) → is_numeric b ≡ true → b < 128
numeric_is_ascii b h = grind (arith, nat_tests)

pub pass_is_ascii : (s : List ℕ) → Pass is_numeric s → IsAscii s
pass_is_ascii [] h i = omega arith
pass_is_ascii (b ∷ s) h zero = numeric_is_ascii b h.0
pass_is_ascii (b ∷ s) h (suc i) = pass_is_ascii s h.1 i

pub number_is_utf8 : (raw : List ℕ) → IsNumber raw → IsUtf8 raw
number_is_utf8 raw h = IsUtf8-from_ascii raw (pass_is_ascii raw (number_pass raw h))

-- what has this text is what the text is
pub says_as_text : (s : Scalar) (x : JsonScalar) (t : List ℕ) → number_text x ≡ Some t → number_says s (number_text x) ≡ big_number s t
says_as_text s x t is = ap (number_says s) is

-- where no text of a number lies, nothing lies that is one
pub says_nothing : (g : LexicalGrammar) (s : Scalar) (input : List ℕ) (at : ℕ) → ((text : List ℕ) (e : ℕ) → NumberTextLies g s input at text e → ⊥)
    → NothingAt g s input at
says_nothing g s input at none x e lies = by (number_text x) refl
  where
    by : (o : Option (List ℕ)) → number_text x ≡ o → number_says s o ≡ no_meaning
    by None is = refl
    by (Some t) is = absurd (none t e (record { found = x; lies = lies; is = is }))

-- no text of a number lies there where neither a number nor a string with a text does
pub no_number_text : (g : LexicalGrammar) (s : Scalar) (input : List ℕ) (at : ℕ) → ((raw : List ℕ) (e : ℕ) → LiesInGrammar g s (a_number raw) input at e → ⊥)
    → ((raw : List ℕ) (e : ℕ) → LiesInGrammar g s (a_string raw) input at e → (text : List ℕ) → unescaped raw ≡ Some text → ⊥)
    → (text : List ℕ) (e : ℕ) → NumberTextLies g s input at text e → ⊥
no_number_text g s input at no_number no_string text e h = by h.found h.lies h.is
  where
    by : (x : JsonScalar) → LiesInGrammar g s x input at e → number_text x ≡ Some text → ⊥
    by (a_boolean b) lies is = cc
    by (a_number raw) lies is = no_number raw e lies
    by (a_string raw) lies is = no_string raw e lies text is

-- ---- what a text is as a big number

wide_fits : (z : ℤ) → fits_signed 128 z ≡ true → FitsSigned w128 z
wide_fits (pos n) h =
    record { sfits = ltb-true _ _ (and_parts (int_le (neg_ℤ (pos (2 ^ 127))) (pos n)) (int_lt (pos n) (pos (2 ^ 127))) h).1 }
wide_fits (negsuc n) h =
    let low = (and_parts (int_le (neg_ℤ (pos (2 ^ 127))) (negsuc n)) (int_lt (negsuc n) (pos (2 ^ 127))) h).0 in
    record { sfits = grind (arith, ints) }

leaves_wide : (z : ℤ) → (FitsSigned w128 z → ⊥) → fits_signed 128 z ≡ false
leaves_wide z misfit = elim (cases_Bool (fits_signed 128 z)) [
  | inl fits ↦ absurd (misfit (wide_fits z fits))
  | inr other ↦ other
]

pub integer_means : (t : List ℕ) (n : ℤ) → integer_form t ≡ Some n → FitsSigned w128 n → big_number scalars.BigInteger t ≡ means (scalar_value (whole n))
integer_means t n form fits = rw (form, fits_signed-wide n fits) refl

pub integer_exceeds : (t : List ℕ) (n : ℤ) → integer_form t ≡ Some n → (FitsSigned w128 n → ⊥) → big_number scalars.BigInteger t ≡ wide
integer_exceeds t n form misfit = rw (form, leaves_wide n misfit) refl

abbrev pub form_of : List ℕ → DecimalForm
form_of t = record { mantissa_part = mantissa t; written_part = written_exponent t; net_part = net_exponent t }

pub form_is : (t : List ℕ) → is_decimal t ≡ true → decimal_form t ≡ Some (form_of t)
form_is t form = rw form refl

pub decimal_means : (t : List ℕ) → is_decimal t ≡ true → exponents_fit t ≡ true → FitsSigned w128 (mantissa t)
    → big_number scalars.BigDecimal t ≡ means (scalar_value (decimal (mantissa t) (net_exponent t)))
decimal_means t form exponents fits =
    let both = and_parts (is_exponent (written_exponent t)) (is_exponent (net_exponent t)) exponents in
    ap big_decimal (form_is t form) ∙ rw (fits_signed-wide (mantissa t) fits, both.0, both.1) refl

not_both : (a b : Bool) → b ≡ false → (a && b) ≡ false
not_both true b h = h
not_both false b h = refl

decimal_leaves : (t : List ℕ) → is_decimal t ≡ true → is_in_limits (form_of t) ≡ false → big_number scalars.BigDecimal t ≡ wide
decimal_leaves t form leaves = ap big_decimal (form_is t form) ∙ bounded_exceeds is_in_limits (λ (f : DecimalForm). scalar_value (decimal f.mantissa_part f.net_part)) (form_of t) leaves

pub exponent_exceeds : (t : List ℕ) → is_decimal t ≡ true → exponents_fit t ≡ false → big_number scalars.BigDecimal t ≡ wide
exponent_exceeds t form exponents = decimal_leaves t form (not_both (fits_signed 128 (mantissa t)) (exponents_fit t) exponents)

pub mantissa_exceeds : (t : List ℕ) → is_decimal t ≡ true → (FitsSigned w128 (mantissa t) → ⊥) → big_number scalars.BigDecimal t ≡ wide
mantissa_exceeds t form misfit = decimal_leaves t form (ap (λ b. b && exponents_fit t) (leaves_wide (mantissa t) misfit))

pub no_decimal : (t : List ℕ) → is_decimal t ≡ false → big_number scalars.BigDecimal t ≡ no_meaning
no_decimal t form = rw form refl
