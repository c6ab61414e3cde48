-- The decimal text of an integer is read as it, whether an integer may have a fraction or an exponent or not.
use Rattle.std.specs.Prelude.{◌&&◌, if◌then◌else◌, option_and_then, unsigned_abs}
use Rattle.std.proofs.Common.{◌≡◌, ◌*◌, ◌^◌, ◌<◌, ℕ, ℤ, pos, negsuc, Bool, true, false, Some, None, ap, ◌∙◌, subst, arith, lit≤}
use Rattle.std.proofs.lemmas.Bool.Decides.{nat_tests}
use Rattle.std.proofs.lemmas.List.{append-nil}
use Rattle.std.specs.Fmt.{signed_decimal}
use Rattle.std.specs.Str.{byte}
use Rattle.smithy_declarations.specs.Value.{whole, scalar_value}
use Rattle.smithy_shapes.proofs.ScalarLemmas.{fits_more}
use Rattle.smithy_texts.specs.Decimal.{coefficient, is_decimal, written_exponent, net_exponent}
use Rattle.smithy_texts.specs.Numeral.{begins_with, magnitude, signed}
use Rattle.smithy_texts.specs.Ranges.{fits_signed}
use Rattle.smithy_texts.proofs.WrittenNumerals.{IsWrittenDecimal, written_parts}
use Rattle.smithy_instants.specs.Epoch.{scaled}
use Rattle.smithy_json_grammar.specs.Number.{long_number, integral_number}
use Rattle.smithy_json.proofs.DecimalLemmas.{decimal_writes}
use Rattle.smithy_json_values.specs.Scalar.{a_number, integer_of, whole_of}
use Rattle.smithy_json_codec.specs.WireSettings.{wire_settings}
use Rattle.smithy_wire.specs.Rules.{means, answer_of}

small_long : (n : ℤ) → fits_signed 64 n ≡ true → unsigned_abs n < 10 ^ 64
small_long (pos n) fits = let below : n < 2 ^ 63 = grind (arith, nat_tests) in omega arith
small_long (negsuc n) fits = let below : n < 2 ^ 63 = grind (arith, nat_tests) in omega arith

-- it has neither a fraction nor an exponent
written_whole : (n : ℤ) → unsigned_abs n < 10 ^ 64 → IsWrittenDecimal (signed_decimal n) n (pos 0)
written_whole n small = subst (λ t. IsWrittenDecimal t n (pos 0)) (append-nil (signed_decimal n)) (written_parts n (pos 0) small (omega arith))

-- so as a decimal it is equal to the number
written_is_integral : (n : ℤ) → fits_signed 64 n ≡ true → integral_number (signed_decimal n) ≡ Some n
written_is_integral n fits =
    let t = signed_decimal n in
    let w = written_whole n (small_long n fits) in
    let is_negative = begins_with (byte "-") (coefficient t) in
    let m = magnitude (coefficient t) in
    let long = λ (k : ℕ). long_number (signed is_negative k) in
    let form : (is_decimal t && fits_signed 64 (written_exponent t)) ≡ true = ap (λ b. b && fits_signed 64 (written_exponent t)) w.form ∙ ap (fits_signed 64) w.written_is in
    ap (λ b. if b then option_and_then long (scaled m (net_exponent t)) else None) form
    ∙ ap (λ e. option_and_then long (scaled m e)) w.net_is
    ∙ ap long (let same : m * 10 ^ 0 ≡ m = omega arith in same)
    ∙ ap long_number w.mantissa_is
    ∙ ap (λ b. if b then Some n else None) fits

integer_is : (b integral : Bool) (n : ℤ) → fits_signed 64 n ≡ true → integer_of (wire_settings b integral) (signed_decimal n) ≡ Some n
integer_is b true n fits = written_is_integral n fits
integer_is b false n fits = decimal_writes n (fits_more 64 128 n (lit≤ tt) fits)

-- and means the number in each width that it fits
pub whole_means : (b integral : Bool) (bits : ℕ) (n : ℤ) → fits_signed 64 n ≡ true → fits_signed bits n ≡ true
    → answer_of (whole_of (wire_settings b integral) bits (a_number (signed_decimal n))) ≡ means (scalar_value (whole n))
whole_means b integral bits n long fits =
    ap (λ o. answer_of (option_and_then (λ (z : ℤ). if fits_signed bits z then Some (scalar_value (whole z)) else None) o)) (integer_is b integral n long)
    ∙ ap (λ b. answer_of (if b then Some (scalar_value (whole n)) else None)) fits
