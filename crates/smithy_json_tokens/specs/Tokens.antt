-- The tokens of a JSON value, without their offsets.
use Rattle.std.specs.Prelude.{ℕ, List, [], ◌∷◌, ◌++◌, Bool}
use Rattle.std.specs.Option.{option_map_or}
use Rattle.smithy_json_grammar.specs.Tree.{Json, null, boolean, number, string, array, object, Elements, no_elements, element, Members, no_members, member}
use Rattle.smithy_json_grammar.specs.HeldNumber.{number_of}
use Rattle.smithy_types.specs.declared.number.Number.{Number}

pub data JsonToken : Type 0 where
  start_array : JsonToken
  end_array : JsonToken
  start_object : JsonToken
  end_object : JsonToken
  value_null : JsonToken
  value_bool : Bool → JsonToken
  value_number : Number → JsonToken
  -- the text of a number that `Number` can't hold
  value_uncarried : List ℕ → JsonToken
  -- what stands between the quotation marks
  value_string : List ℕ → JsonToken
  object_key : List ℕ → JsonToken

-- a number of 64 bits, or the text of another
abbrev pub number_token : List ℕ → JsonToken
number_token raw = option_map_or value_number (number_of raw) (value_uncarried raw)

abbrev mutual
  pub tokens : Json → List JsonToken
  tokens null = value_null ∷ []
  tokens (boolean b) = value_bool b ∷ []
  tokens (number raw) = number_token raw ∷ []
  tokens (string raw) = value_string raw ∷ []
  tokens (array es) = start_array ∷ (element_tokens es ++ end_array ∷ [])
  tokens (object ms) = start_object ∷ (member_tokens ms ++ end_object ∷ [])

  -- the tokens of the elements of an array, one after another
  pub element_tokens : Elements → List JsonToken
  element_tokens no_elements = []
  element_tokens (element j es) = tokens j ++ element_tokens es

  -- the tokens of the members of an object: of each its key, and then the tokens of its value
  pub member_tokens : Members → List JsonToken
  member_tokens no_members = []
  member_tokens (member key j ms) = object_key key ∷ (tokens j ++ member_tokens ms)
