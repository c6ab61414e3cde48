-- What the calls that take one token answer.
use Rattle.std.specs.Prelude.{◌≡◌, ◌||◌, ◌==◌, ℕ, List, Bool, take, drop, Option, Some, None, Result, Ok, Err, MatchOption, MatchResult}
use Rattle.std.specs.List.{prefix_len}
use Rattle.std.specs.Char.{is_ascii_digit}
use Rattle.smithy_json_grammar.specs.Ascii.{minus_sign, plus_sign, decimal_point, is_e}
use Rattle.smithy_json_grammar.specs.EscapedText.{escaped_text}
use Rattle.smithy_types.specs.declared.number.Number.{Number}
use Rattle.smithy_json_tokens.specs.TokenView.{token_offset}
use Rattle.smithy_json_tokens.specs.Faults.{IsCustomAt}
use Rattle.smithy_json_tokens.specs.declared.token.Token.{Token}
use Rattle.smithy_json_tokens.specs.declared.token.Token.TheVariants.{StartArray, StartObject, ValueNull, ValueBool, ValueNumber, ValueString, ValueUncarried}
use Rattle.smithy_json_tokens.specs.declared.error.DeserializeError.{DeserializeError}

-- An error is passed on, and a token that is absent is a stated fault. Another is answered as is said.
abbrev pub Answers : {A : Type 0} → (Token → Result A DeserializeError → Type 0) → Option (Result Token DeserializeError) → Result A DeserializeError → Type 0
Answers TokenAnswers None result = IsCustomAt None result
Answers TokenAnswers (Some (Err e)) result = result ≡ Err e
Answers TokenAnswers (Some (Ok token)) result = TokenAnswers token result

-- A token that is wanted gives its value, seen by `seen`, and another is a stated fault at its offset.
abbrev pub IsWanted : {A V : Type 0} → (Token → Option V) → (A → V) → Token → Result A DeserializeError → Type 0
IsWanted wanted seen token result =
    MatchOption (wanted token) (IsCustomAt (Some (token_offset token)) result)
    (λ v. MatchResult result (λ x. seen x ≡ v) (λ e. ⊥))

abbrev pub Expects : {A V : Type 0} → (Token → Option V) → (A → V) → Option (Result Token DeserializeError) → Result A DeserializeError → Type 0
Expects wanted seen token result = Answers (IsWanted wanted seen) token result

-- the start of an object
abbrev pub wanted_object : Token → Option (Unit {0})
wanted_object (StartObject at) = Some tt
wanted_object _ = None

-- the start of an array
abbrev pub wanted_array : Token → Option (Unit {0})
wanted_array (StartArray at) = Some tt
wanted_array _ = None

-- a truth value, or nothing for a null
abbrev pub wanted_bool : Token → Option (Option Bool)
wanted_bool (ValueNull at) = Some None
wanted_bool (ValueBool at value) = Some (Some value)
wanted_bool _ = None

-- a whole number of 64 bits, or nothing for a null
abbrev pub wanted_number : Token → Option (Option Number)
wanted_number (ValueNull at) = Some None
wanted_number (ValueNumber at value) = Some (Some value)
wanted_number _ = None

-- a string's raw text, or nothing for a null
abbrev pub wanted_string : Token → Option (Option (List ℕ))
wanted_string (ValueNull at) = Some None
wanted_string (ValueString at value) = Some (Some (escaped_text value))
wanted_string _ = None

-- a digit, a sign, a point or an `e`
abbrev pub is_number_byte : ℕ → Bool
is_number_byte b =
    is_ascii_digit b || b == minus_sign || b == plus_sign || b == decimal_point || is_e b

-- the bytes of a number that come first
abbrev pub number_run : List ℕ → List ℕ
number_run s = take (prefix_len is_number_byte s) s

-- a number's bytes in the input, or nothing for a null
abbrev pub wanted_number_text : List ℕ → Token → Option (Option (List ℕ))
wanted_number_text input (ValueNull at) = Some None
wanted_number_text input (ValueNumber at value) = Some (Some (number_run (drop at.0 input)))
wanted_number_text input (ValueUncarried at text) = Some (Some (number_run (drop at.0 input)))
wanted_number_text input _ = None
