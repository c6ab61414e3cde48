-- Which tokens of JSON are in its grammar: what the settings of a reader decide of numbers, of strings, and of what follows a
-- value. A token that isn't in the grammar means nothing as the kind that is wanted, and isn't skipped.
use Rattle.std.specs.Prelude.{◌≡◌, ℕ, ◌&&◌, drop, List, Bool, true, false, Some, None, if◌then◌else◌}
use Rattle.smithy_texts.specs.Numeral.{are_digits, without_sign, without_minus}
use Rattle.smithy_texts.specs.Decimal.{is_decimal}
use Rattle.smithy_declarations.specs.declared.shape_type.Scalar.{Scalar}
use Rattle.smithy_declarations.specs.declared.shape_type.Scalar.TheVariants as scalars
use Rattle.smithy_schema.specs.Reading.{Relations}
pub use Rattle.smithy_json_grammar.specs.StringText.{is_unescaped, begins_with_four_hex_digits, is_escape, are_chars, is_string_text, escapes_are_valid, is_plain_text, is_lenient_text}
use Rattle.smithy_json_grammar.specs.NumberText.{is_number, is_number_of}
use Rattle.smithy_json_values.specs.Settings.{Settings}
use Rattle.smithy_json_values.specs.Scalar.{JsonScalar, a_boolean, a_number, a_string, text_of, document_says}
use Rattle.smithy_json_values.specs.Meaning.{rules_of}
use Rattle.smithy_json_values.specs.Spans.{without_ws}
use Rattle.smithy_json_values.specs.TypeMismatch.{type_mismatches, begins_as_number}
use Rattle.smithy_json_values.specs.Tokens.{token_frames}
use Rattle.smithy_wire.specs.Rules.{Rules, no_meaning}
use Rattle.smithy_wire.specs.Node.{Node, all_pass}
use Rattle.smithy_wire.specs.Frames.{Frames, Lies, relations}

pub record LexicalGrammar : Type 0 where
  -- a number that is skipped
  pub is_number : List ℕ → Bool
  -- a number that is read as an integer, as a big integer, and as any other kind or in a document
  pub is_integer : List ℕ → Bool
  pub is_big_integer : List ℕ → Bool
  pub is_decimal : List ℕ → Bool
  -- what stands between the quotation marks of a string that is read, or of a name, and of one that is skipped
  pub is_text : List ℕ → Bool
  pub is_skipped_text : List ℕ → Bool
  -- a boundary follows each value inside of a container, and a structure is missing in an empty input alone
  pub is_strict : Bool

-- ---- strings and numbers where less is asked for

-- what a string that is read may hold, where control characters are refused, and where not
abbrev pub reads_text : Bool → List ℕ → Bool
reads_text true raw = is_string_text raw
reads_text false raw = is_lenient_text raw

-- what a skipped string may hold, where it is in UTF-8 without control characters, and where its escapes are valid
abbrev pub skips_text : Bool → Bool → List ℕ → Bool
skips_text true true raw = is_string_text raw
skips_text true false raw = is_plain_text raw
skips_text false true raw = escapes_are_valid raw
skips_text false false raw = true

-- an integer: of the grammar of numbers, where it may be a whole decimal, or else a sign and digits
abbrev pub is_lenient_integer : Settings → List ℕ → Bool
is_lenient_integer c raw =
    if c.allow_integral_float_numbers then is_number_of c.numbers raw else are_digits (without_sign raw)

abbrev pub is_lenient_big_integer : List ℕ → Bool
is_lenient_big_integer raw = are_digits (without_minus raw)

abbrev pub is_lenient_decimal : List ℕ → Bool
is_lenient_decimal raw = begins_as_number raw && is_decimal raw

-- ---- grammars

-- a number of the grammar, or where nothing is strict one that passes the other test
abbrev pub number_test : Settings → (List ℕ → Bool) → List ℕ → Bool
number_test c lenient raw = if c.enforce_strictness then is_number_of c.numbers raw else lenient raw

-- the grammar of some settings
abbrev pub grammar_of : Settings → LexicalGrammar
grammar_of c = record {
  is_number = is_number_of c.numbers;
  is_integer = number_test c (is_lenient_integer c);
  is_big_integer = number_test c is_lenient_big_integer;
  is_decimal = number_test c is_lenient_decimal;
  is_text = reads_text c.enforce_strictness;
  is_skipped_text = skips_text c.validate_skipped_string_encoding c.validate_skipped_values;
  is_strict = c.enforce_strictness;
}

-- the grammar of the standard
abbrev pub rfc_8259 : LexicalGrammar
rfc_8259 = record {
  is_number = is_number;
  is_integer = is_number;
  is_big_integer = is_number;
  is_decimal = is_number;
  is_text = is_string_text;
  is_skipped_text = is_string_text;
  is_strict = true;
}

-- ---- reading by a grammar

-- a number that is read as the kind
abbrev pub is_number_as : LexicalGrammar → Scalar → List ℕ → Bool
is_number_as g scalars.BigInteger raw = g.is_big_integer raw
is_number_as g scalars.BigDecimal raw = g.is_decimal raw
is_number_as g scalars.Timestamp raw = g.is_decimal raw
is_number_as g _ raw = g.is_integer raw

-- a token that is read as the kind is in the grammar
abbrev pub in_grammar : LexicalGrammar → Scalar → JsonScalar → Bool
in_grammar g s (a_boolean b) = true
in_grammar g s (a_number raw) = is_number_as g s raw
in_grammar g s (a_string raw) = g.is_text raw

-- a token that is skipped is in the grammar
abbrev pub is_skipped_in : LexicalGrammar → JsonScalar → Bool
is_skipped_in g (a_boolean b) = true
is_skipped_in g (a_number raw) = g.is_number raw
is_skipped_in g (a_string raw) = g.is_skipped_text raw

-- the rules of JSON, where tokens outside of the grammar mean nothing
abbrev pub token_rules : LexicalGrammar → Settings → Rules JsonScalar
token_rules g c = record (rules_of c) {
  text_of = λ x. if in_grammar g scalars.String x then text_of x else None;
  says = λ s time x. if in_grammar g s x then (rules_of c).says s time x else no_meaning;
  documents = Some (λ x. if in_grammar g scalars.BigDecimal x then document_says x else no_meaning);
  mismatches = λ kind time input a. type_mismatches c kind time (without_ws (drop a input));
  may_skip_scalar = is_skipped_in g;
}

-- the framing by a grammar
abbrev pub frames_of : LexicalGrammar → Frames JsonScalar
frames_of g = token_frames g.is_strict

abbrev pub token_relations : LexicalGrammar → Settings → Relations
token_relations g c = relations (frames_of g) (token_rules g c)

-- from a to e lies a scalar of the grammar, as it is read as the kind
abbrev pub LiesInGrammar : LexicalGrammar → Scalar → JsonScalar → List ℕ → ℕ → ℕ → Type 0
LiesInGrammar g s x input a e = (frames_of g).scalar input 0 x a e × (in_grammar g s x ≡ true)

-- from a to e lies a node inside so many containers, of which each token passes the test
abbrev pub NodeLies : LexicalGrammar → (JsonScalar → Bool) → ℕ → Node JsonScalar → List ℕ → ℕ → ℕ → Type 0
NodeLies g test depth x input a e = Lies (frames_of g) input depth x a e × (all_pass test x ≡ true)
