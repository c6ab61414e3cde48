-- What the calls answer that take a string or a number for what its text means.
use Rattle.std.specs.Prelude.{◌≡◌, ◌⊎◌, ◌*ℤ◌, ℕ, ℤ, pos, true, List, Option, Some, None, option_map, option_and_then, Result, Ok, Err, MatchResult, if◌then◌else◌}
use Rattle.smithy_json_grammar.specs.Grammar.{IsNumber}
use Rattle.smithy_json_grammar.specs.EscapedText.{escaped_text}
use Rattle.smithy_json_grammar.specs.Unescape.{unescape, has_escape}
use Rattle.smithy_json_grammar.specs.declared.escape_error.EscapeError.{EscapeError}
use Rattle.smithy_types.specs.Base64Text.{blob_of}
use Rattle.smithy_types.specs.Ranges.{fits_signed}
use Rattle.smithy_types.specs.Number.{whole_number}
use Rattle.smithy_types.specs.Instant.{nanos_per_second}
use Rattle.smithy_types.specs.Epoch.{epoch_nanos}
use Rattle.smithy_types.specs.DateText.{date_of, where_instant}
use Rattle.smithy_instants.specs.declared.format.Format.{Format}
use Rattle.smithy_instants.specs.declared.format.Format.TheVariants.{DateTime, DateTimeWithOffset, HttpDate, EpochSeconds}
use Rattle.smithy_json_tokens.specs.TokenView.{token_offset}
use Rattle.smithy_json_tokens.specs.Faults.{error_at, IsCustomAt}
use Rattle.smithy_json_tokens.specs.declared.token.Token.{Token}
use Rattle.smithy_json_tokens.specs.declared.token.Token.TheVariants.{ValueNull, ValueNumber, ValueString, ValueUncarried}
use Rattle.smithy_json_tokens.specs.declared.error.DeserializeError.{DeserializeError}
use Rattle.smithy_json_tokens.specs.declared.error.DeserializeErrorKind.TheVariants.{UnescapeFailed, NoMemory}

-- the value that is meant, seen by `seen`, or a stated fault at the offset where nothing is
abbrev pub IsMeaning : {A V : Type 0} → (A → V) → ℕ → Option V → Result (Option A) DeserializeError → Type 0
IsMeaning seen at None result = IsCustomAt (Some at) result
IsMeaning seen at (Some v) result = MatchResult result (λ x. option_map seen x ≡ Some v) (λ e. ⊥)

-- what a text means, or the first fault of its escapes
abbrev pub IsTextMeaning : {A V : Type 0} → (List ℕ → Option V) → (A → V) → ℕ → Result (List ℕ) EscapeError → Result (Option A) DeserializeError → Type 0
IsTextMeaning meaning seen at (Ok text) result = IsMeaning seen at (meaning text) result
IsTextMeaning meaning seen at (Err fault) result = result ≡ Err (error_at (UnescapeFailed fault) at)

-- the answer is what a string means by its raw text, or the first fault of its escapes, or the want of memory
abbrev pub IsStringMeaning : {A V : Type 0} → (List ℕ → Option V) → (A → V) → ℕ → List ℕ → Result (Option A) DeserializeError → Type 0
IsStringMeaning meaning seen at raw result =
    IsTextMeaning meaning seen at (unescape raw) result ⊎ (result ≡ Err (error_at NoMemory at))

-- the answer is the instant that a date means by its raw text, or the first fault of its escapes, or, where it has escapes, the
-- want of memory
abbrev pub IsDateMeaning : Format → ℕ → List ℕ → Result (Option ℤ) DeserializeError → Type 0
IsDateMeaning format at raw result =
    IsTextMeaning (date_of format) (λ instant. instant) at (unescape raw) result
    ⊎ ((result ≡ Err (error_at NoMemory at)) × (has_escape raw ≡ true))

-- the bytes of a string in base64, or nothing for a null
abbrev pub BlobAnswers : Token → Result (Option (List ℕ)) DeserializeError → Type 0
BlobAnswers (ValueNull at) result = result ≡ Ok None
BlobAnswers (ValueString at value) result =
    IsStringMeaning blob_of (λ blob. blob) at.0 (escaped_text value) result
BlobAnswers token result = IsCustomAt (Some (token_offset token)) result

-- the instant of so many seconds, where they are a number of 64 bits
abbrev pub instant_of_seconds : ℤ → Option ℤ
instant_of_seconds s = if fits_signed 64 s then Some (s *ℤ pos nanos_per_second) else None

-- the instant of the seconds that a decimal text writes
abbrev pub instant_of_decimal : List ℕ → Option ℤ
instant_of_decimal text = option_and_then where_instant (epoch_nanos text)

-- an instant by a number of seconds, whose text has to be one of JSON, or nothing for a null
abbrev pub EpochAnswers : Token → Result (Option ℤ) DeserializeError → Type 0
EpochAnswers (ValueNull at) result = result ≡ Ok None
EpochAnswers (ValueNumber at value) result =
    IsMeaning (λ instant. instant) at.0 (instant_of_seconds (whole_number value)) result
EpochAnswers (ValueUncarried at text) result =
    (IsNumber text.now → IsMeaning (λ instant. instant) at.0 (instant_of_decimal text.now) result)
    × ((IsNumber text.now → ⊥) → IsCustomAt (Some at.0) result)
EpochAnswers token result = IsCustomAt (Some (token_offset token)) result

-- an instant by a string of the form, or nothing for a null
abbrev pub DateAnswers : Format → Token → Result (Option ℤ) DeserializeError → Type 0
DateAnswers format (ValueNull at) result = result ≡ Ok None
DateAnswers format (ValueString at value) result =
    IsDateMeaning format at.0 (escaped_text value) result
DateAnswers format token result = IsCustomAt (Some (token_offset token)) result

abbrev pub InstantAnswers : Format → Token → Result (Option ℤ) DeserializeError → Type 0
InstantAnswers EpochSeconds token result = EpochAnswers token result
InstantAnswers DateTime token result = DateAnswers DateTime token result
InstantAnswers DateTimeWithOffset token result = DateAnswers DateTimeWithOffset token result
InstantAnswers HttpDate token result = DateAnswers HttpDate token result
