-- Where what comes is of another type than the wanted one: it doesn't begin as a value of the kind does. What begins so, and is no
-- such value all the same, is invalid.
use Rattle.std.specs.Prelude.{ℕ, ◌==◌, ◌&&◌, ◌||◌, not, drop, List, [], ◌∷◌, Bool, false, Option, is_some}
use Rattle.std.specs.Char.{is_ascii_digit}
use Rattle.std.specs.List.{prefix_len}
use Rattle.smithy_declarations.specs.declared.shape_type.Scalar.{Scalar}
use Rattle.smithy_declarations.specs.declared.shape_type.Scalar.TheVariants as scalars
use Rattle.smithy_declarations.specs.declared.shape_type.TimestampFormat.{TimestampFormat}
use Rattle.smithy_declarations.specs.Table.{Kind, scalar, structure_of, union_of, list_of, map_of}
use Rattle.smithy_json_grammar.specs.Ascii.{quotation_mark, minus_sign, plus_sign, decimal_point, begin_array, begin_object, is_e}
use Rattle.smithy_json_values.specs.Settings.{Settings}
use Rattle.smithy_json_values.specs.Scalar.{takes_seconds, string_form}

-- a byte comes first that passes the test
abbrev pub begins_by : (ℕ → Bool) → List ℕ → Bool
begins_by test [] = false
begins_by test (b ∷ rest) = test b

-- `true` comes first, or `false`
abbrev pub begins_with_true : List ℕ → Bool
begins_with_true (t ∷ r ∷ u ∷ e ∷ rest) = t == 0x74 && r == 0x72 && u == 0x75 && e == 0x65
begins_with_true _ = false

abbrev pub begins_with_false : List ℕ → Bool
begins_with_false (f ∷ a ∷ l ∷ s ∷ e ∷ rest) = f == 0x66 && a == 0x61 && l == 0x6c && s == 0x73 && e == 0x65
begins_with_false _ = false

-- a string comes first, a number
abbrev pub begins_as_string : List ℕ → Bool
begins_as_string = begins_by (λ b. b == quotation_mark)

abbrev pub begins_as_number : List ℕ → Bool
begins_as_number = begins_by (λ b. (b == minus_sign) || is_ascii_digit b)

-- an instant is a number of seconds, or a date in a string, where the place takes it
abbrev pub begins_as_instant : Settings → Option TimestampFormat → List ℕ → Bool
begins_as_instant c time rest =
    (takes_seconds c time && begins_as_number rest) || (is_some (string_form c time) && begins_as_string rest)

-- a digit or a sign
abbrev pub is_signed_digit : ℕ → Bool
is_signed_digit b = is_ascii_digit b || ((b == minus_sign) || (b == plus_sign))

-- the run of digits and signs that comes first is empty, or a fraction or an exponent comes behind it
abbrev pub begins_as_no_integer : List ℕ → Bool
begins_as_no_integer rest =
    let run = prefix_len is_signed_digit rest in
    (run == 0) || begins_by (λ b. (b == decimal_point) || is_e b) (drop run rest)

-- an integer is refused by its type only where nothing is strict and no whole decimal is allowed
abbrev pub integer_mismatches : Settings → List ℕ → Bool
integer_mismatches c rest = not (c.enforce_strictness || c.allow_integral_float_numbers) && begins_as_no_integer rest

-- by what comes first behind the ws
abbrev pub scalar_mismatches : Settings → Scalar → Option TimestampFormat → List ℕ → Bool
scalar_mismatches c scalars.Boolean time rest = not (begins_with_true rest) && not (begins_with_false rest)
scalar_mismatches c scalars.String time rest = not (begins_as_string rest)
scalar_mismatches c scalars.Blob time rest = not (begins_as_string rest)
scalar_mismatches c scalars.Timestamp time rest = not (begins_as_instant c time rest)
scalar_mismatches c scalars.BigInteger time rest = not (begins_as_number rest) && not (begins_as_string rest)
scalar_mismatches c scalars.BigDecimal time rest = not (begins_as_number rest) && not (begins_as_string rest)
scalar_mismatches c _ time rest = integer_mismatches c rest

-- the same of each kind: a structure isn't refused by its type where nothing comes, and a document never is
abbrev pub type_mismatches : Settings → Kind → Option TimestampFormat → List ℕ → Bool
type_mismatches c (scalar s) time rest = scalar_mismatches c s time rest
type_mismatches c (structure_of members) time rest = begins_by (λ b. not (b == begin_object)) rest
type_mismatches c (union_of members) time rest = not (begins_by (λ b. b == begin_object) rest)
type_mismatches c (map_of m) time rest = not (begins_by (λ b. b == begin_object) rest)
type_mismatches c (list_of l) time rest = not (begins_by (λ b. b == begin_array) rest)
type_mismatches c _ time rest = false
