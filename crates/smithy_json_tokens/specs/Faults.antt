-- The errors that calls over tokens make.
use Rattle.std.specs.Prelude.{◌≡◌, ℕ, List, codes, Option, Some, Result, Ok, Err}
use Rattle.smithy_json_grammar.specs.declared.escape_error.EscapeError.{EscapeError}
use Rattle.smithy_json_grammar.specs.declared.escape_error.EscapeError.TheVariants as escape
use Rattle.smithy_json_tokens.specs.declared.error.DeserializeError.{DeserializeError}
use Rattle.smithy_json_tokens.specs.declared.error.DeserializeErrorKind.{DeserializeErrorKind}
use Rattle.smithy_json_tokens.specs.declared.error.DeserializeErrorKind.TheVariants.{Custom, ExpectedLiteral, InvalidEscape, InvalidNumber, InvalidUtf8, UnescapeFailed, UnexpectedControlCharacter, UnexpectedEos, UnexpectedToken, NoMemory}

-- an error of this kind at this offset
abbrev pub error_at : DeserializeErrorKind → ℕ → DeserializeError
error_at kind at = record { kind = kind; offset = Some at }

-- a fault that is stated in words
abbrev pub IsCustomKind : DeserializeErrorKind → Type 0
IsCustomKind (Custom message) = Unit {0}
IsCustomKind _ = ⊥

-- the answer is a fault that is stated in words, with this offset
abbrev pub IsCustomAt : {A : Type 0} → Option ℕ → Result A DeserializeError → Type 0
IsCustomAt place (Ok x) = ⊥
IsCustomAt place (Err e) = (e.offset ≡ place) × IsCustomKind e.kind

-- the kind of a fault of escapes
abbrev pub escape_kind : EscapeError → DeserializeErrorKind
escape_kind escape.NoMemory = NoMemory
escape_kind fault = UnescapeFailed fault

-- what is printed of a kind: the name of its variant
abbrev pub kind_name : DeserializeErrorKind → List ℕ
kind_name (Custom message) = codes "Custom"
kind_name ExpectedLiteral = codes "ExpectedLiteral"
kind_name (InvalidEscape c) = codes "InvalidEscape"
kind_name InvalidNumber = codes "InvalidNumber"
kind_name InvalidUtf8 = codes "InvalidUtf8"
kind_name (UnescapeFailed fault) = codes "UnescapeFailed"
kind_name (UnexpectedControlCharacter b) = codes "UnexpectedControlCharacter"
kind_name UnexpectedEos = codes "UnexpectedEos"
kind_name (UnexpectedToken c) = codes "UnexpectedToken"
kind_name NoMemory = codes "NoMemory"
