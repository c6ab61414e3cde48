-- What the code scans in a call, as a `Turn`.
use Rattle.std.specs.Prelude.{◌≡◌, ◌<◌, ◌≤◌, ℕ, List, length, drop, Result, Ok, Err, MatchResult}
use Rattle.smithy_json_tokens.specs.TokenRules as rules
use Rattle.smithy_json_tokens.specs.TokenRules.{Scan, scanned, failed, ends, scans}
use Rattle.smithy_json_tokens.specs.TokenView.{token_view, token_offset}
use Rattle.smithy_json_tokens.specs.TokenView.{left_from, IsPlace}
use Rattle.smithy_json_tokens.specs.declared.error.DeserializeError.{DeserializeError}
use Rattle.smithy_json_tokens.specs.declared.token_turn.Turn.{Turn}

-- the token up to its end, or the error
abbrev pub scan_in : List ℕ → Result Turn DeserializeError → Scan
scan_in input (Ok t) = scanned (token_view t.scanned.token) (drop t.scanned.end input)
scan_in input (Err e) = failed e.kind (left_from input e.offset)

-- the token begins where the turn says, not before the offset, and has its state behind it; an error
-- stands within the input
abbrev pub IsInTurn : List ℕ → ℕ → Turn → rules.Turn → Type 0
IsInTurn input at t ends = ⊥
IsInTurn input at t (scans after here scan) =
    (t.after ≡ after) × (drop (token_offset t.scanned.token) input ≡ here)
    × (at ≤ token_offset t.scanned.token) × (token_offset t.scanned.token < t.scanned.end)
    × (t.scanned.end ≤ length input)

abbrev pub HasScan : List ℕ → Result Turn DeserializeError → rules.Turn → Type 0
HasScan input result ends = ⊥
HasScan input result (scans after here scan) = scan_in input result ≡ scan

-- the result at the offset is the turn
abbrev pub TurnsTo : List ℕ → ℕ → Result Turn DeserializeError → rules.Turn → Type 0
TurnsTo input at result turn =
    HasScan input result turn
    × MatchResult result (λ t. IsInTurn input at t turn) (λ e. IsPlace input e.offset)
