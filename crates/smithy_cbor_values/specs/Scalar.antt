-- What one item says as each kind.
use Rattle.std.specs.Prelude.{◌==◌, ◌*ℤ◌, ℕ, List, true, false, ℤ, pos, Option, Some, None, option_map, option_and_then, if◌then◌else◌}
use Rattle.std.specs.Option.{option_map_or}
use Rattle.smithy_texts.specs.Base64Text.{are_bytes}
use Rattle.smithy_texts.specs.Decimal.{DecimalForm}
use Rattle.smithy_texts.specs.Ranges.{fits_signed}
use Rattle.smithy_declarations.specs.declared.shape_type.Scalar.{Scalar}
use Rattle.smithy_declarations.specs.declared.shape_type.Scalar.TheVariants as scalars
use Rattle.smithy_declarations.specs.declared.shape_type.TimestampFormat.{TimestampFormat}
use Rattle.smithy_declarations.specs.Value.{boolean, whole, text, bytes, instant, Value, scalar_value}
use Rattle.cbor_item.specs.Item.{Item, tag, simple, float}
use Rattle.smithy_cbor.specs.Scalar.{false_value, true_value, integer_of, text_of, bytes_of, big_integer_of, decimal_fraction_of}
use Rattle.smithy_instants.specs.Instant.{nanos_per_second}
use Rattle.smithy_wire.specs.Rules.{Answer, means, no_meaning, uncarried, answer_of}
use Rattle.smithy_wire.specs.BigNumbers.{big_integer, big_decimal}

-- false or true
abbrev pub boolean_of : Item → Option Value
boolean_of (simple n) =
    if n == false_value then Some (scalar_value (boolean false))
    else if n == true_value then Some (scalar_value (boolean true)) else None
boolean_of _ = None

-- an integer that fits so many bits
abbrev pub whole_of : ℕ → Item → Option Value
whole_of bits x =
    option_and_then (λ (z : ℤ). if fits_signed bits z then Some (scalar_value (whole z)) else None) (integer_of x)

-- the bytes of a byte string, each below 256 as in any input
abbrev pub blob_of : Item → Option (List ℕ)
blob_of x = option_and_then (λ b. if are_bytes b then Some b else None) (bytes_of x)

-- the parts of a decimal fraction, whose exponent is written as it counts
abbrev pub decimal_form_of : Item → Option DecimalForm
decimal_form_of x =
    option_map (λ (p : ℤ × ℤ). record { mantissa_part = p.1; written_part = p.0; net_part = p.0 }) (decimal_fraction_of x)

-- what a date of so many seconds is as an instant; one of a float, which has none, isn't carried
abbrev pub date_says : Option ℤ → Answer Value
date_says None = uncarried
date_says (Some s) =
    if fits_signed 64 s then means (scalar_value (instant (s *ℤ pos nanos_per_second))) else no_meaning

-- what stands under the tag of a date (RFC 8949, section 3.4.2)
abbrev pub seconds_read_as : Item → Answer Value
seconds_read_as (float digits) = date_says None
seconds_read_as x = option_map_or (λ s. date_says (Some s)) (integer_of x) no_meaning

-- what an item is as an instant
abbrev pub timestamp_says : Item → Answer Value
timestamp_says (tag number x) = if number == 1 then seconds_read_as x else no_meaning
timestamp_says _ = no_meaning

-- what an item is as one kind
abbrev pub says : Scalar → Option TimestampFormat → Item → Answer Value
says scalars.Boolean time x = answer_of (boolean_of x)
says scalars.Byte time x = answer_of (whole_of 8 x)
says scalars.Short time x = answer_of (whole_of 16 x)
says scalars.Integer time x = answer_of (whole_of 32 x)
says scalars.Long time x = answer_of (whole_of 64 x)
says scalars.String time x = answer_of (option_map (λ s. scalar_value (text s)) (text_of x))
says scalars.Blob time x = answer_of (option_map (λ b. scalar_value (bytes b)) (blob_of x))
says scalars.Timestamp time x = timestamp_says x
says scalars.BigInteger time x = big_integer (big_integer_of x)
says scalars.BigDecimal time x = big_decimal (decimal_form_of x)
