-- What contracts see of a `Token`.
use Rattle.std.specs.Prelude.{ℕ, ◌≤◌, List, length, drop, Option, Some, None, MatchOption}
use Rattle.smithy_json_grammar.specs.EscapedText.{escaped_text}
use Rattle.smithy_json_tokens.specs.Tokens.{JsonToken, start_array, end_array, start_object, end_object, value_null, value_bool, value_number, value_uncarried, value_string, object_key}
use Rattle.smithy_json_tokens.specs.declared.token.Token.{Token}
use Rattle.smithy_json_tokens.specs.declared.token.Token.TheVariants.{StartArray, EndArray, StartObject, EndObject, ValueNull, ObjectKey, ValueBool, ValueNumber, ValueString, ValueUncarried}

-- the token without its offset
abbrev pub token_view : Token → JsonToken
token_view (StartArray at) = start_array
token_view (EndArray at) = end_array
token_view (StartObject at) = start_object
token_view (EndObject at) = end_object
token_view (ValueNull at) = value_null
token_view (ObjectKey at key) = object_key (escaped_text key)
token_view (ValueBool at value) = value_bool value
token_view (ValueNumber at value) = value_number value
token_view (ValueString at value) = value_string (escaped_text value)
token_view (ValueUncarried at text) = value_uncarried text.now

-- the offset of a token's first byte
abbrev pub token_offset : Token → ℕ
token_offset (StartArray at) = at.0
token_offset (EndArray at) = at.0
token_offset (StartObject at) = at.0
token_offset (EndObject at) = at.0
token_offset (ValueNull at) = at.0
token_offset (ObjectKey at key) = at.0
token_offset (ValueBool at value) = at.0
token_offset (ValueNumber at value) = at.0
token_offset (ValueString at value) = at.0
token_offset (ValueUncarried at text) = at.0

-- ---- the place of an error

-- what is left from an offset on
abbrev pub left_from : List ℕ → Option ℕ → List ℕ
left_from input (Some n) = drop n input
left_from input None = input

-- the offset is there, and within the input
abbrev pub IsPlace : List ℕ → Option ℕ → Type 0
IsPlace input place = MatchOption place ⊥ (λ n. n ≤ length input)
