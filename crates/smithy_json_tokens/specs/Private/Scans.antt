-- What the code scans, as a `Scan`.
use Rattle.std.specs.Prelude.{◌≡◌, ◌<◌, ◌≤◌, ◌+◌, ℕ, List, length, drop, slice_index, Result, Ok, Err, MatchResult, ◌⊎◌}
use Rattle.std.specs.Char.{IsAsciiDigit}
use Rattle.smithy_json_grammar.specs.Ascii.{minus_sign}
use Rattle.smithy_json_tokens.specs.Tokens.{JsonToken}
use Rattle.smithy_json_tokens.specs.TokenRules.{Scan, scanned, failed, scan_literal, scan_number}
use Rattle.smithy_json_tokens.specs.TokenView.{token_view, token_offset, left_from, IsPlace}
use Rattle.smithy_json_tokens.specs.declared.error.DeserializeError.{DeserializeError}
use Rattle.smithy_json_tokens.specs.declared.token.Token.{Token}
use Rattle.smithy_json_tokens.specs.declared.token_scan.Scanned.{Scanned}
use denote.Ref.{Bor}

-- a token up to its end, or an error
abbrev pub scan_of : List ℕ → Result Scanned DeserializeError → Scan
scan_of input (Ok s) = scanned (token_view s.token) (drop s.end input)
scan_of input (Err e) = failed e.kind (left_from input e.offset)

-- the token begins at the offset and ends behind it, and an error stands within the input
abbrev pub AreScanPlaces : List ℕ → ℕ → Result Scanned DeserializeError → Type 0
AreScanPlaces input at result =
    MatchResult result
    (λ s. (token_offset s.token ≡ at) × (at < s.end) × (s.end ≤ length input))
    (λ e. IsPlace input e.offset)

-- the result at the offset is the scan
abbrev pub ScansAt : List ℕ → ℕ → Result Scanned DeserializeError → Scan → Type 0
ScansAt input at result scan = (scan_of input result ≡ scan) × AreScanPlaces input at result

-- the result at the token's offset is the literal of the token
abbrev pub ScansLiteral : List ℕ → Token → List ℕ → Result Scanned DeserializeError → Type 0
ScansLiteral literal token input result =
    let at = token_offset token in ScansAt input at result (scan_literal literal (token_view token) (drop at input))

-- the result at the offset is the number there
abbrev pub ScansNumber : List ℕ → ℕ → Result Scanned DeserializeError → Type 0
ScansNumber input at result =
    ScansAt input at result (scan_number (slice_index input at) (drop (at + 1) input))

-- a string's text up to the closing mark's end, as the token that it makes, or an error
abbrev pub text_scan_of : (List ℕ → JsonToken) → List ℕ → Result (Bor (List ℕ) × ℕ) DeserializeError → Scan
text_scan_of t input (Ok s) = scanned (t s.0.now) (drop s.1 input)
text_scan_of t input (Err e) = failed e.kind (left_from input e.offset)

abbrev pub AreTextPlaces : List ℕ → ℕ → Result (Bor (List ℕ) × ℕ) DeserializeError → Type 0
AreTextPlaces input at result =
    MatchResult result (λ s. (at < s.1) × (s.1 ≤ length input)) (λ e. IsPlace input e.offset)

-- a byte that a number begins with
abbrev pub BeginsNumber : ℕ → Type 0
BeginsNumber b = (b ≡ minus_sign) ⊎ IsAsciiDigit b
