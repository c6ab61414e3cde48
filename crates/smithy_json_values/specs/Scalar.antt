-- The scalars of JSON, and what they say as each kind under some settings.
use Rattle.std.specs.Prelude.{ℕ, List, ℤ, Bool, not, ◌||◌, Option, Some, None, is_none, option_map, option_and_then, if◌then◌else◌}
use Rattle.std.specs.Option.{option_map_or}
use Rattle.smithy_declarations.specs.declared.shape_type.Scalar.{Scalar}
use Rattle.smithy_declarations.specs.declared.shape_type.Scalar.TheVariants as scalars
use Rattle.smithy_declarations.specs.declared.shape_type.TimestampFormat.{TimestampFormat}
use Rattle.smithy_declarations.specs.declared.shape_type.TimestampFormat.TheVariants.{DateTime}
use Rattle.smithy_declarations.specs.TimeForms.{format_of}
use Rattle.smithy_declarations.specs.Value.{boolean as boolean_value, whole, text, bytes, instant, Value, scalar_value}
use Rattle.smithy_types.specs.Document as documents
use Rattle.smithy_types.specs.Document.{Document}
use Rattle.smithy_types.specs.declared.number.Number.{Number}
use Rattle.smithy_json_grammar.specs.Tree.{Json, boolean, number, string}
use Rattle.smithy_json_grammar.specs.HeldNumber.{number_of}
use Rattle.smithy_json_grammar.specs.Number.{whole_number, signed_number, integral_number}
use Rattle.smithy_texts.specs.Base64Text.{blob_of}
use Rattle.smithy_texts.specs.Decimal.{integer_form, decimal_form}
use Rattle.smithy_texts.specs.Ranges.{fits_signed}
use Rattle.smithy_instants.specs.declared.format.Format.{Format}
use Rattle.smithy_instants.specs.declared.format.Format.TheVariants as formats
use Rattle.smithy_instants.specs.Instant.{is_instant}
use Rattle.smithy_instants.specs.Epoch.{epoch_nanos}
use Rattle.smithy_instants.specs.DateText.{date_of}
use Rattle.smithy_json_grammar.specs.Unescape.{unescaped}
use Rattle.smithy_json_values.specs.Settings.{Settings}
use Rattle.smithy_wire.specs.Rules.{Answer, means, no_meaning, uncarried, answer_of}
use Rattle.smithy_wire.specs.BigNumbers.{big_integer, big_decimal}

-- a boolean, the text of a number, what stands between the quotation marks of a string or a name
pub data JsonScalar : Type 0 where
  a_boolean : Bool → JsonScalar
  a_number : List ℕ → JsonScalar
  a_string : List ℕ → JsonScalar

abbrev pub tree_of : JsonScalar → Json
tree_of (a_boolean b) = boolean b
tree_of (a_number raw) = number raw
tree_of (a_string raw) = string raw

-- false or true
abbrev pub boolean_of : JsonScalar → Option Value
boolean_of (a_boolean b) = Some (scalar_value (boolean_value b))
boolean_of _ = None

-- the integer that a number's text writes: a whole decimal where that is allowed, else digits behind a minus, and where nothing
-- is strict behind a plus too
abbrev pub integer_of : Settings → List ℕ → Option ℤ
integer_of c raw =
    if c.allow_integral_float_numbers then integral_number raw
    else if c.enforce_strictness then whole_number raw else signed_number raw

-- an integer that fits so many bits
abbrev pub whole_of : Settings → ℕ → JsonScalar → Option Value
whole_of c bits (a_number raw) =
    option_and_then (λ (z : ℤ). if fits_signed bits z then Some (scalar_value (whole z)) else None) (integer_of c raw)
whole_of c bits _ = None

-- the text of a string
abbrev pub text_of : JsonScalar → Option (List ℕ)
text_of (a_string raw) = unescaped raw
text_of _ = None

-- the bytes whose padded base64 is the text of a string
abbrev pub bytes_of : JsonScalar → Option (List ℕ)
bytes_of x = option_and_then blob_of (text_of x)

-- the text of a number, or that of a string
abbrev pub number_text : JsonScalar → Option (List ℕ)
number_text (a_number raw) = Some raw
number_text (a_string raw) = unescaped raw
number_text _ = None

-- what the text of a number is as a kind of big numbers
abbrev pub big_number : Scalar → List ℕ → Answer Value
big_number scalars.BigInteger raw = big_integer (integer_form raw)
big_number scalars.BigDecimal raw = big_decimal (decimal_form raw)
big_number _ raw = no_meaning

-- what the text of a number is as a kind of big numbers, where there is such a text
abbrev pub number_says : Scalar → Option (List ℕ) → Answer Value
number_says s written = option_map_or (big_number s) written no_meaning

-- the instant of so many seconds, in nanoseconds where these are whole: another number of seconds isn't carried
abbrev pub seconds_read_as : Option ℤ → Answer Value
seconds_read_as None = uncarried
seconds_read_as (Some n) = if is_instant n then means (scalar_value (instant n)) else no_meaning

-- the form of instants at a place with this time form or none
abbrev pub format_at : Settings → Option TimestampFormat → Format
format_at c time = option_map_or format_of time c.default_timestamp_format

-- the form of strings where forms are strict: seconds are no string
abbrev pub strict_form : Format → Option Format
strict_form formats.EpochSeconds = None
strict_form form = Some form

-- a number may stand for an instant: everywhere, or where forms are strict as seconds alone
abbrev pub takes_seconds : Settings → Option TimestampFormat → Bool
takes_seconds c time = not c.strict_timestamp_formats || is_none (strict_form (format_at c time))

-- the form of strings where forms aren't strict, at a place with this time form or none: a date and time may have an offset, and
-- of the forms that count where there is none, only that of HTTP is another
abbrev pub lenient_form : Format → Option TimestampFormat → Format
lenient_form default (Some DateTime) = formats.DateTimeWithOffset
lenient_form default (Some form) = format_of form
lenient_form formats.HttpDate None = formats.HttpDate
lenient_form default None = formats.DateTimeWithOffset

-- the form of a string that stands for an instant, where one may
abbrev pub string_form : Settings → Option TimestampFormat → Option Format
string_form c time =
    if c.strict_timestamp_formats then strict_form (format_at c time)
    else Some (lenient_form c.default_timestamp_format time)

-- the instant of a text that is a date of the form
abbrev pub date_says : Option Format → Option (List ℕ) → Answer Value
date_says form date =
    answer_of (option_map (λ n. scalar_value (instant n)) (option_and_then (λ f. option_and_then (date_of f) date) form))

-- what a scalar is as an instant: a number of seconds, or a string that is a date
abbrev pub timestamp_says : Settings → Option TimestampFormat → JsonScalar → Answer Value
timestamp_says c time (a_number raw) = if takes_seconds c time then seconds_read_as (epoch_nanos raw) else no_meaning
timestamp_says c time x = date_says (string_form c time) (text_of x)

-- what a scalar of the grammar is as one kind, at a place with this time form or none
abbrev pub says : Settings → Scalar → Option TimestampFormat → JsonScalar → Answer Value
says c scalars.Boolean time x = answer_of (boolean_of x)
says c scalars.Byte time x = answer_of (whole_of c 8 x)
says c scalars.Short time x = answer_of (whole_of c 16 x)
says c scalars.Integer time x = answer_of (whole_of c 32 x)
says c scalars.Long time x = answer_of (whole_of c 64 x)
says c scalars.String time x = answer_of (option_map (λ s. scalar_value (text s)) (text_of x))
says c scalars.Blob time x = answer_of (option_map (λ b. scalar_value (bytes b)) (bytes_of x))
says c scalars.Timestamp time x = timestamp_says c time x
says c scalars.BigInteger time x = number_says scalars.BigInteger (number_text x)
says c scalars.BigDecimal time x = number_says scalars.BigDecimal (number_text x)

-- what a number is as a document: another one than a document holds isn't carried
abbrev pub held_says : Option Number → Answer (Document Number)
held_says held = option_map_or (λ n. means (documents.number n)) held uncarried

-- what a scalar is as a document
abbrev pub document_says : JsonScalar → Answer (Document Number)
document_says (a_boolean b) = means (documents.boolean b)
document_says (a_number raw) = held_says (number_of raw)
document_says (a_string raw) = answer_of (option_map documents.text (unescaped raw))
