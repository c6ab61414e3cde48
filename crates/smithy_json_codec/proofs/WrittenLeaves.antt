-- What JSON writes for scalars that it holds and for names: it means them, can be written, and is their canonical text.
use Rattle.std.specs.Prelude.{◌≡◌, ℕ, List, [], ◌∷◌, Bool, true, false, Option, Some, None, if◌then◌else◌, refl}
use Rattle.std.proofs.Common.{subst, sym, ap, ◌∙◌, arith, lit≤, ◌<◌, ◌^◌, ℤ, pos, negsuc}
use Rattle.std.specs.Prelude.{unsigned_abs}
use Rattle.std.specs.List.{list_all}
use Rattle.std.proofs.lemmas.Bool.{and_parts}
use Rattle.std.proofs.lemmas.Bool.Decides.{nat_tests}
use Rattle.std.specs.Fmt.{signed_decimal}
use Rattle.smithy_declarations.specs.declared.shape_type.Scalar.{Scalar}
use Rattle.smithy_declarations.specs.declared.shape_type.Scalar.TheVariants as scalars
use Rattle.smithy_declarations.specs.declared.shape_type.TimestampFormat.{TimestampFormat}
use Rattle.smithy_declarations.specs.declared.shape_type.TimestampFormat.TheVariants.{EpochSeconds, DateTime, HttpDate}
use Rattle.smithy_declarations.specs.TimeForms.{format_of, form_or, form_holds}
use Rattle.smithy_declarations.specs.Value.{ScalarValue, boolean, whole, text, bytes, decimal, instant, scalar_value}
use Rattle.smithy_shapes.specs.Fits.{is_of}
use Rattle.smithy_shapes.proofs.ScalarLemmas.{fits_more, whole_fits, decimal_fits, instant_fits, text_is_utf8, blob_is_bytes}
use Rattle.smithy_texts.specs.Base64Text.{are_bytes, blob_text}
use Rattle.smithy_texts.specs.Decimal.{DecimalForm, decimal_form, decimal_text, written_exponent, net_exponent}
use Rattle.smithy_texts.specs.Ranges.{fits_signed, is_exponent}
use Rattle.smithy_texts.proofs.WrittenNumerals.{integer_form_of_written, written_parts, small_exponent}
use Rattle.smithy_texts.proofs.Base64Laws.{blob_back, blob_text_is_utf8, symbols_hold}
use Rattle.smithy_texts.proofs.OnLiterals.{smithy_texts_on_literals}
use Rattle.smithy_json.specs.Escape.{escaped}
use Rattle.smithy_json_grammar.specs.Unescape.{unescaped}
use Rattle.smithy_json_grammar.specs.Private.Chars.{is_plain}
use Rattle.smithy_json.proofs.EscapeLemmas.{plain_byte}
use Rattle.smithy_json.proofs.DecimalLemmas.{decimal_is_number, decimal_text_is_number}
use Rattle.smithy_json.proofs.QuotedLemmas.{quoted_is_string, unescaped_of_escaped}
use Rattle.smithy_json_values.specs.LexicalGrammar.{rfc_8259, in_grammar}
use Rattle.smithy_json_values.specs.Scalar.{JsonScalar, a_boolean, a_number, a_string, tree_of, big_number, format_at, says}
use Rattle.smithy_json_values.specs.Settings.{Settings}
use Rattle.smithy_json_values.specs.Codec.{strict_settings}
use Rattle.smithy_json_values.specs.Standing.{standard_rules}
use Rattle.smithy_json_values.specs.Private.TokenGrammar.{value_is_token, said_in}
use Rattle.smithy_wire.specs.Rules.{means, no_meaning}
use Rattle.smithy_wire.specs.BigNumbers.{big_decimal}
use Rattle.smithy_json_values.proofs.NumberTexts.{form_is}
use Rattle.smithy_json_codec.proofs.InstantTexts.{instant_leaf, instant_means, instant_is_value}
use Rattle.smithy_json_codec.specs.WireSettings.{wire_settings}
use Rattle.smithy_json_codec.specs.Canonical.{written_form, scalar_text, json_holds}
use Rattle.smithy_json_codec.proofs.WrittenIntegers.{whole_means}
use Rattle.smithy_json_codec.proofs.WrittenPlaces.{leaf_bytes, json_writes}
use Rattle.smithy_json_grammar.specs.Grammar.{IsValue, IsString}
use Rattle.smithy_wire.specs.Written.{Leaves, ReadsLeaves}
use Rattle.smithy_wire.specs.Writes.{WritesLeaves}

-- in this form of instants
abbrev pub leaf_of : TimestampFormat → ScalarValue → JsonScalar
leaf_of form (boolean b) = a_boolean b
leaf_of form (whole n) = a_number (signed_decimal n)
leaf_of form (text t) = a_string (escaped t)
leaf_of form (decimal m e) = a_number (decimal_text m e)
leaf_of form (bytes b) = a_string (blob_text b)
leaf_of form (instant n) = instant_leaf form n

abbrev pub json_leaves : Settings → Leaves JsonScalar
json_leaves c = record {
  leaf_of = λ s time x. leaf_of (written_form c time) x;
  key_of = λ key. a_string (escaped key);
  holds = json_holds c;
}

-- bytes that aren't escaped stay as they are
plain_stays : (t : List ℕ) → list_all is_plain t ≡ true → escaped t ≡ t
plain_stays [] h = refl
plain_stays (b ∷ t) h =
    let both = and_parts (is_plain b) (list_all is_plain t) h in
    rw (plain_byte b both.0, plain_stays t both.1) refl

-- base64 has no byte that is escaped
blob_stays : (b : List ℕ) → are_bytes b ≡ true → escaped (blob_text b) ≡ blob_text b
unfolding smithy_texts_on_literals
blob_stays b h = plain_stays (blob_text b) (symbols_hold is_plain refl refl b h)

blob_unescaped : (b : List ℕ) → are_bytes b ≡ true → unescaped (blob_text b) ≡ Some (blob_text b)
blob_unescaped b h = ap unescaped (sym (blob_stays b h)) ∙ unescaped_of_escaped (blob_text b)

blob_is_string : (b : List ℕ) → are_bytes b ≡ true → IsString (blob_text b) (leaf_bytes (a_string (blob_text b)))
blob_is_string b h = subst (λ raw. IsString raw (leaf_bytes (a_string raw))) (blob_stays b h) (quoted_is_string (blob_text b) (blob_text_is_utf8 b))

-- a number of 128 bits has few digits
small_whole : (n : ℤ) → fits_signed 128 n ≡ true → unsigned_abs n < 10 ^ 64
small_whole (pos n) fits = let below : n < 2 ^ 127 = grind (arith, nat_tests) in omega arith
small_whole (negsuc n) fits = let below : n < 2 ^ 127 = grind (arith, nat_tests) in omega arith

-- the text of a decimal within its limits means it
written_decimal_means : (m e : ℤ) → (fits_signed 128 m ≡ true) × (is_exponent e ≡ true) → big_number scalars.BigDecimal (decimal_text m e) ≡ means (scalar_value (decimal m e))
written_decimal_means m e fits =
    let w = written_parts m e (small_whole m fits.0) (small_exponent e fits.1) in
    let t = decimal_text m e in
    let Form : Type 0 = Option DecimalForm in
    let form : ◌≡◌ {A = Form} (decimal_form t) (Some (record { mantissa_part = m; written_part = e; net_part = e })) =
    form_is t w.form
    ∙ ap (λ x. Some (record { mantissa_part = x; written_part = written_exponent t; net_part = net_exponent t })) w.mantissa_is
    ∙ ap (λ x. Some (record { mantissa_part = m; written_part = x; net_part = net_exponent t })) w.written_is
    ∙ ap (λ x. Some (record { mantissa_part = m; written_part = e; net_part = x })) w.net_is in
    ap big_decimal form ∙ rw (fits.0, fits.1) refl

-- where none is given, instants are seconds
strict_format : (b : Bool) (time : Option TimestampFormat) → format_at (strict_settings b) time ≡ format_of (form_or EpochSeconds time)
strict_format b None = refl
strict_format b (Some form) = refl

scalar_means : (b integral : Bool) (s : Scalar) (time : Option TimestampFormat) (x : ScalarValue) → is_of s x ≡ true → form_holds (form_or EpochSeconds time) x ≡ true
    → says (wire_settings b integral) s time (leaf_of (form_or EpochSeconds time) x) ≡ means (scalar_value x)
scalar_means names integral scalars.Boolean time (boolean b) is held = refl
scalar_means names integral scalars.Byte time (whole n) is held = whole_means names integral 8 n (fits_more 8 64 n (lit≤ tt) is) is
scalar_means names integral scalars.Short time (whole n) is held = whole_means names integral 16 n (fits_more 16 64 n (lit≤ tt) is) is
scalar_means names integral scalars.Integer time (whole n) is held = whole_means names integral 32 n (fits_more 32 64 n (lit≤ tt) is) is
scalar_means names integral scalars.Long time (whole n) is held = whole_means names integral 64 n is is
scalar_means names integral scalars.String time (text t) is held = rw (unescaped_of_escaped t) refl
scalar_means names integral scalars.Blob time (bytes b) is held = rw (blob_unescaped b is, blob_back b is) refl
scalar_means names integral scalars.Timestamp time (instant n) is held = instant_means (wire_settings names integral) time (form_or EpochSeconds time) refl (strict_format names time) n is held
scalar_means names integral scalars.BigInteger time (whole n) is held = rw (integer_form_of_written n (small_whole n is), is) refl
scalar_means names integral scalars.BigDecimal time (decimal m e) is held = written_decimal_means m e (decimal_fits scalars.BigDecimal m e is)
scalar_means names integral _ time _ is held = cc

-- a scalar and a name can be written
scalar_is : (s : Scalar) (form : TimestampFormat) (x : ScalarValue) → is_of s x ≡ true → form_holds form x ≡ true → IsValue (tree_of (leaf_of form x)) (leaf_bytes (leaf_of form x))
scalar_is s form (boolean true) is held = refl
scalar_is s form (boolean false) is held = refl
scalar_is s form (whole n) is held = (refl, decimal_is_number n (whole_fits s n is))
scalar_is s form (text t) is held = quoted_is_string t (text_is_utf8 s t is)
scalar_is s form (decimal m e) is held = let fits = decimal_fits s m e is in (refl, decimal_text_is_number m e fits.0 fits.1)
scalar_is s form (bytes b) is held = blob_is_string b (blob_is_bytes s b is)
scalar_is s form (instant n) is held = instant_is_value form n (instant_fits s n is) held

-- what can be written is in the grammar, so it means what it was written for
written_means : (b integral : Bool) (s : Scalar) (time : Option TimestampFormat) (x : ScalarValue) → is_of s x ≡ true → form_holds (form_or EpochSeconds time) x ≡ true
    → (if in_grammar rfc_8259 s (leaf_of (form_or EpochSeconds time) x) then says (wire_settings b integral) s time (leaf_of (form_or EpochSeconds time) x) else no_meaning) ≡ means (scalar_value x)
written_means b integral s time x is held =
    let form = form_or EpochSeconds time in
    let token = value_is_token (leaf_of form x) (leaf_bytes (leaf_of form x)) (scalar_is s form x is held) in
    said_in s (leaf_of form x) (says (wire_settings b integral) s time (leaf_of form x)) no_meaning token.1 ∙ scalar_means b integral s time x is held

-- what is written under strict settings is read so
pub json_reads_leaves : (b integral : Bool) → ReadsLeaves (json_leaves (strict_settings b)) (standard_rules (wire_settings b integral))
json_reads_leaves b integral = record {
  scalar_means = written_means b integral;
  key_means = λ key utf8. said_in scalars.String (a_string (escaped key)) (unescaped (escaped key)) None (quoted_is_string key utf8).1 ∙ unescaped_of_escaped key;
}

pub json_writes_leaves : (c : Settings) → WritesLeaves json_writes (json_leaves c)
json_writes_leaves c = record {
  scalar_is = λ s time x is held. scalar_is s (written_form c time) x is held;
  key_is = λ key utf8. (escaped key, refl, (quoted_is_string key utf8).1);
}

-- the canonical text of a scalar is what is written for it
pub scalar_bytes : (form : TimestampFormat) (x : ScalarValue) → scalar_text form x ≡ leaf_bytes (leaf_of form x)
scalar_bytes form (boolean true) = refl
scalar_bytes form (boolean false) = refl
scalar_bytes form (whole n) = refl
scalar_bytes form (text t) = refl
scalar_bytes form (decimal m e) = refl
scalar_bytes form (bytes b) = refl
scalar_bytes EpochSeconds (instant n) = refl
scalar_bytes DateTime (instant n) = refl
scalar_bytes HttpDate (instant n) = refl
