-- One escape, and the run of bytes before it.
use Rattle.std.specs.Prelude.{◌≡◌, ◌<◌, ◌≤◌, ℕ, ◌-◌, List, length, drop, get_or, Bool, not, ◌==◌, Result, Err, MatchResult, encode_utf8}
use Rattle.smithy_json_grammar.specs.Ascii.{escape}
use Rattle.smithy_json_grammar.specs.Unescape.{with_front, unescape}
use Rattle.smithy_json_grammar.specs.declared.escape_error.EscapeError.{EscapeError}

-- a byte that begins no escape
abbrev pub is_no_escape : ℕ → Bool
is_no_escape b = not (b == escape)

-- what comes first stands for the character and has so many bytes, the last of them ASCII; or it has
-- the fault
abbrev pub Unescapes : (List ℕ → Result (List ℕ) EscapeError) → List ℕ
    → Result (ℕ × ℕ) EscapeError → Type 0
Unescapes reading rest result =
    MatchResult result
    (λ r. (reading rest ≡ with_front (encode_utf8 r.0) (unescape (drop r.1 rest)))
    × (0 < r.1) × (r.1 ≤ length rest) × (get_or rest (r.1 - 1) 0 < 128))
    (λ fault. reading rest ≡ Err fault)
