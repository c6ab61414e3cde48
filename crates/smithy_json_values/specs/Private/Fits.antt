-- What a scalar of JSON means at a place is a value of the place.
use Rattle.std.specs.Prelude.{◌≡◌, ℕ, ℤ, List, Option, Some, None, Bool, true, false, IsUtf8, refl, option_map, option_and_then, if◌then◌else◌}
use Rattle.std.proofs.Common.{sym, ◌∙◌, subst}
use Rattle.std.proofs.lemmas.Str.{is_utf8-from_IsUtf8}
use Rattle.smithy_declarations.specs.declared.place.Place.{Place}
use Rattle.smithy_declarations.specs.declared.shape_type.Scalar.{Scalar}
use Rattle.smithy_declarations.specs.declared.shape_type.Scalar.TheVariants as scalars
use Rattle.smithy_declarations.specs.declared.shape_type.TimestampFormat.{TimestampFormat}
use Rattle.smithy_declarations.specs.Table.{Table, scalar, kind_of}
use Rattle.smithy_declarations.specs.Value.{boolean as boolean_value, whole, text, bytes, instant, Value, scalar_value}
use Rattle.smithy_shapes.specs.Fits.{is_of, Fits}
use Rattle.smithy_shapes.specs.Lemmas.Options.{same_some, step_apart, chosen, made}
use Rattle.smithy_texts.specs.Base64Text.{blob_of}
use Rattle.smithy_texts.specs.Decimal.{integer_form, decimal_form}
use Rattle.smithy_texts.specs.Ranges.{fits_signed}
use Rattle.smithy_texts.proofs.Base64Laws.{blob_is_bytes}
use Rattle.smithy_instants.specs.declared.format.Format.{Format}
use Rattle.smithy_instants.specs.Instant.{is_instant}
use Rattle.smithy_instants.specs.Epoch.{epoch_nanos}
use Rattle.smithy_instants.specs.DateText.{date_of}
use Rattle.smithy_json.proofs.TextLemmas.{unescaped_is_utf8}
use Rattle.smithy_json_values.specs.Settings.{Settings}
use Rattle.smithy_json_values.specs.Scalar.{JsonScalar, a_boolean, a_number, a_string, boolean_of, integer_of, whole_of, text_of, bytes_of, number_text, number_says, takes_seconds, string_form, seconds_read_as, date_says, timestamp_says, says}
use Rattle.smithy_json_values.specs.Private.DateInstants.{date_is_instant}
use Rattle.smithy_wire.specs.Rules.{Answer, means, no_meaning}
use Rattle.smithy_wire.proofs.Bounds.{chosen_answer, answer_means, big_integer_fits, big_decimal_fits}

-- the number that a text writes fits its bits
pub whole_is : (c : Settings) (bits : ℕ) (raw : List ℕ) (v : Value) → whole_of c bits (a_number raw) ≡ Some v → (z : ℤ) × (v ≡ scalar_value (whole z)) × (integer_of c raw ≡ Some z) × (fits_signed bits z ≡ true)
whole_is c bits raw v h =
    let z = step_apart (integer_of c raw) (λ (z : ℤ). if fits_signed bits z then Some (scalar_value (whole z)) else None) v h in
    let size = chosen (fits_signed bits z.0) (Some (scalar_value (whole z.0))) v z.2 in
    (z.0, sym (same_some (scalar_value (whole z.0)) v size.1), z.1, size.0)

whole_fits : (c : Settings) (bits : ℕ) (s : Scalar) → ((z : ℤ) → is_of s (whole z) ≡ fits_signed bits z) → (t : Table) (p : Place) (x : JsonScalar) (v : Value) → kind_of t p ≡ scalar s → whole_of c bits x ≡ Some v → Fits t p v
whole_fits c bits s is t p (a_boolean b) v kind h = cc
whole_fits c bits s is t p (a_number raw) v kind h = let n = whole_is c bits raw v h in subst (Fits t p) (sym n.1) (rw kind (is n.0 ∙ n.3))
whole_fits c bits s is t p (a_string raw) v kind h = cc

boolean_fits : (t : Table) (p : Place) (x : JsonScalar) (v : Value) → kind_of t p ≡ scalar scalars.Boolean → boolean_of x ≡ Some v → Fits t p v
boolean_fits t p (a_boolean b) v kind h = subst (Fits t p) (same_some (scalar_value (boolean_value b)) v h) (rw kind refl)
boolean_fits t p (a_number raw) v kind h = cc
boolean_fits t p (a_string raw) v kind h = cc

-- what stands between the quotation marks of a string is UTF-8
abbrev pub HoldsUtf8 : JsonScalar → Type 0
HoldsUtf8 (a_string raw) = IsUtf8 raw
HoldsUtf8 _ = Unit {0}

pub text_is_utf8 : (x : JsonScalar) → HoldsUtf8 x → (s : List ℕ) → text_of x ≡ Some s → IsUtf8 s
text_is_utf8 (a_boolean b) holds s h = cc
text_is_utf8 (a_number raw) holds s h = cc
text_is_utf8 (a_string raw) holds s h = unescaped_is_utf8 raw s holds h

-- a big number is within the limits of its kind
number_fits : (t : Table) (p : Place) (s : Scalar) (o : Option (List ℕ)) (v : Value) → kind_of t p ≡ scalar s → number_says s o ≡ means v → Fits t p v
number_fits t p s None v kind h = cc
number_fits t p scalars.BigInteger (Some raw) v kind h = big_integer_fits t p (integer_form raw) v kind h
number_fits t p scalars.BigDecimal (Some raw) v kind h = big_decimal_fits t p (decimal_form raw) v kind h
number_fits t p _ (Some raw) v kind h = cc

-- an instant has seconds of 64 bits
instant_fits : (t : Table) (p : Place) (n : ℤ) (v : Value) → kind_of t p ≡ scalar scalars.Timestamp → is_instant n ≡ true → scalar_value (instant n) ≡ v → Fits t p v
instant_fits t p n v kind is same = subst (Fits t p) same (rw kind is)

seconds_fit : (t : Table) (p : Place) (o : Option ℤ) (v : Value) → kind_of t p ≡ scalar scalars.Timestamp → seconds_read_as o ≡ means v → Fits t p v
seconds_fit t p None v kind h = cc
seconds_fit t p (Some n) v kind h =
    let size = chosen_answer (is_instant n) (scalar_value (instant n)) v h in
    instant_fits t p n v kind size.0 size.1

date_fits : (t : Table) (p : Place) (form : Option Format) (o : Option (List ℕ)) (v : Value) → kind_of t p ≡ scalar scalars.Timestamp → date_says form o ≡ means v → Fits t p v
date_fits t p None o v kind h = cc
date_fits t p (Some form) o v kind h =
    let n = made (λ n. scalar_value (instant n)) (option_and_then (date_of form) o) v (answer_means (option_map (λ n. scalar_value (instant n)) (option_and_then (date_of form) o)) v h) in
    let text = step_apart o (date_of form) n.0 n.1 in
    instant_fits t p n.0 v kind (date_is_instant form text.0 n.0 text.2) n.2

-- a number means something only where it may stand for an instant
taken_seconds : (takes : Bool) (a : Answer Value) (v : Value) → (if takes then a else no_meaning) ≡ means v → a ≡ means v
taken_seconds true a v h = h
taken_seconds false a v h = cc

timestamp_fits : (c : Settings) (t : Table) (p : Place) (time : Option TimestampFormat) (x : JsonScalar) (v : Value) → kind_of t p ≡ scalar scalars.Timestamp → timestamp_says c time x ≡ means v → Fits t p v
timestamp_fits c t p time (a_number raw) v kind h =
    seconds_fit t p (epoch_nanos raw) v kind (taken_seconds (takes_seconds c time) (seconds_read_as (epoch_nanos raw)) v h)
timestamp_fits c t p time (a_boolean b) v kind h = date_fits t p (string_form c time) None v kind h
timestamp_fits c t p time (a_string raw) v kind h = date_fits t p (string_form c time) (text_of (a_string raw)) v kind h

-- what a scalar means is a value of its kind
pub says_fits : (x : JsonScalar) → HoldsUtf8 x
    → (t : Table) (p : Place) (s : Scalar) (v : Value) → kind_of t p ≡ scalar s → (c : Settings) (time : Option TimestampFormat) → says c s time x ≡ means v → Fits t p v
says_fits x holds t p scalars.Boolean v kind c time h = boolean_fits t p x v kind (answer_means (boolean_of x) v h)
says_fits x holds t p scalars.Byte v kind c time h = whole_fits c 8 scalars.Byte (λ z. refl) t p x v kind (answer_means (whole_of c 8 x) v h)
says_fits x holds t p scalars.Short v kind c time h = whole_fits c 16 scalars.Short (λ z. refl) t p x v kind (answer_means (whole_of c 16 x) v h)
says_fits x holds t p scalars.Integer v kind c time h = whole_fits c 32 scalars.Integer (λ z. refl) t p x v kind (answer_means (whole_of c 32 x) v h)
says_fits x holds t p scalars.Long v kind c time h = whole_fits c 64 scalars.Long (λ z. refl) t p x v kind (answer_means (whole_of c 64 x) v h)
says_fits x holds t p scalars.String v kind c time h =
    let s = made (λ s. scalar_value (text s)) (text_of x) v (answer_means (option_map (λ s. scalar_value (text s)) (text_of x)) v h) in
    subst (Fits t p) s.2 (rw kind (is_utf8-from_IsUtf8 s.0 (text_is_utf8 x holds s.0 s.1)))
says_fits x holds t p scalars.Blob v kind c time h =
    let b = made (λ b. scalar_value (bytes b)) (bytes_of x) v (answer_means (option_map (λ b. scalar_value (bytes b)) (bytes_of x)) v h) in
    let s = step_apart (text_of x) blob_of b.0 b.1 in
    subst (Fits t p) b.2 (rw kind (blob_is_bytes s.0 b.0 s.2))
says_fits x holds t p scalars.Timestamp v kind c time h = timestamp_fits c t p time x v kind h
says_fits x holds t p scalars.BigInteger v kind c time h = number_fits t p scalars.BigInteger (number_text x) v kind h
says_fits x holds t p scalars.BigDecimal v kind c time h = number_fits t p scalars.BigDecimal (number_text x) v kind h
