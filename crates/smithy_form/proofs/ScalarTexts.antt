-- A scalar that a form holds is told by its text.
use Rattle.std.proofs.Common.{◌≡◌, ◌<◌, ◌^◌, ℕ, ℤ, pos, negsuc, unsigned_abs, List, [], true, false, Option, Some, None, option_map, unwrap_or, is_some, codes, refl, sym, ap, ◌∙◌, subst, arith, if◌then◌else◌}
use Rattle.std.specs.Prelude.{bytes_eq}
use Rattle.std.proofs.lemmas.Bool.Decides.{nat_tests}
use Rattle.smithy_texts.specs.Base64Text.{blob_of}
use Rattle.smithy_texts.specs.Decimal.{integer_form}
use Rattle.smithy_texts.specs.Decimal.{mantissa, net_exponent}
use Rattle.smithy_texts.specs.Ranges.{fits_signed}
use Rattle.smithy_texts.proofs.Base64Laws.{blob_back}
use Rattle.smithy_texts.proofs.WrittenNumerals.{integer_form_of_written, written_parts, small_exponent}
use Rattle.smithy_instants.specs.WrittenDate.{date_text}
use Rattle.smithy_instants.specs.DateText.{date_of}
use Rattle.smithy_instants.proofs.ReadBack.{written_reads}
use Rattle.smithy_declarations.specs.declared.shape_type.Scalar.{Scalar}
use Rattle.smithy_declarations.specs.declared.shape_type.Scalar.TheVariants as scalars
use Rattle.smithy_declarations.specs.declared.shape_type.TimestampFormat.{TimestampFormat}
use Rattle.smithy_declarations.specs.Table.{Kind}
use Rattle.smithy_declarations.specs.TimeForms.{format_of, form_holds}
use Rattle.smithy_declarations.specs.Value.{ScalarValue, boolean, whole, text, bytes, decimal as decimal_value, instant}
use Rattle.smithy_shapes.specs.Fits.{is_of, is_scalar_of}
use Rattle.smithy_shapes.specs.Lemmas.Options.{same_some}
use Rattle.smithy_shapes.proofs.ScalarLemmas.{scalar_kind, whole_fits, decimal_fits}
use Rattle.smithy_shapes.proofs.TimeFormLemmas.{held_writes}
use Rattle.smithy_query_codec.specs.Leaves.{scalar_text}

-- the scalar of a kind that a text can be
abbrev pub read_scalar : Scalar → TimestampFormat → List ℕ → Option ScalarValue
read_scalar scalars.Boolean form t =
    if bytes_eq t (codes "true") then Some (boolean true)
    else if bytes_eq t (codes "false") then Some (boolean false)
    else None
read_scalar scalars.String form t = Some (text t)
read_scalar scalars.Blob form t = option_map bytes (blob_of t)
read_scalar scalars.Timestamp form t = option_map instant (date_of (format_of form) t)
read_scalar scalars.BigDecimal form t = Some (decimal_value (mantissa t) (net_exponent t))
read_scalar _ form t = option_map whole (integer_form t)

pub few_digits : (z : ℤ) → fits_signed 128 z ≡ true → unsigned_abs z < 10 ^ 64
few_digits (pos n) fits = let small : n < 2 ^ 127 = grind (arith, nat_tests) in omega arith
few_digits (negsuc n) fits = let small : n < 2 ^ 127 = grind (arith, nat_tests) in omega arith

whole_back : (s : Scalar) (form : TimestampFormat) (n : ℤ) → is_of s (whole n) ≡ true → option_map whole (integer_form (scalar_text form (whole n))) ≡ Some (whole n)
whole_back s form n h = ap (option_map whole) (integer_form_of_written n (few_digits n (whole_fits s n h)))

date_is : (o : Option (List ℕ)) → is_some o ≡ true → o ≡ Some (unwrap_or o [])
date_is (Some t) h = refl
date_is None h = cc

-- what is written is read
pub read_back : (s : Scalar) (form : TimestampFormat) (x : ScalarValue) → is_of s x ≡ true → form_holds form x ≡ true
    → read_scalar s form (scalar_text form x) ≡ Some x
read_back scalars.Boolean form (boolean true) h held = refl
read_back scalars.Boolean form (boolean false) h held = refl
read_back scalars.Byte form (whole n) h held = whole_back scalars.Byte form n h
read_back scalars.Short form (whole n) h held = whole_back scalars.Short form n h
read_back scalars.Integer form (whole n) h held = whole_back scalars.Integer form n h
read_back scalars.Long form (whole n) h held = whole_back scalars.Long form n h
read_back scalars.BigInteger form (whole n) h held = whole_back scalars.BigInteger form n h
read_back scalars.String form (text t) h held = refl
read_back scalars.Blob form (bytes b) h held = ap (option_map bytes) (blob_back b h)
read_back scalars.Timestamp form (instant n) h held =
    let is = date_is (date_text (format_of form) n) (held_writes form (instant n) held) in
    ap (option_map instant) (written_reads (format_of form) n (unwrap_or (date_text (format_of form) n) []) h held is)
read_back scalars.BigDecimal form (decimal_value m e) h held =
    let fits = decimal_fits scalars.BigDecimal m e h in
    let parts = written_parts m e (few_digits m fits.0) (small_exponent e fits.1) in
    rw (parts.mantissa_is, parts.net_is) refl
read_back _ form x h held = cc

-- two scalars of one kind with one text are one
pub one_text : (k : Kind) (form : TimestampFormat) (x y : ScalarValue) → is_scalar_of k x ≡ true → is_scalar_of k y ≡ true → form_holds form x ≡ true → form_holds form y ≡ true
    → scalar_text form x ≡ scalar_text form y → x ≡ y
one_text k form x y hx hy held_x held_y same =
    let s = scalar_kind k x hx in
    let of_y : is_of s.0 y ≡ true = subst (λ k. is_scalar_of k y ≡ true) s.1 hy in
    same_some x y (sym (read_back s.0 form x s.2 held_x) ∙ ap (read_scalar s.0 form) same ∙ read_back s.0 form y of_y held_y)
