-- That no number of seconds, or no string of a date, lies at a place, as private functions answer it.
use Rattle.std.specs.Prelude.{◌≡◌, ℕ, List, Option}
use Rattle.smithy_declarations.specs.declared.shape_type.Scalar.TheVariants as scalars
use Rattle.smithy_declarations.specs.declared.shape_type.TimestampFormat.{TimestampFormat}
use Rattle.smithy_wire.specs.Rules.{no_meaning}
use Rattle.smithy_json_values.specs.Settings.{Settings}
use Rattle.smithy_json_values.specs.Scalar.{a_number, a_string, timestamp_says}
use Rattle.smithy_json_values.specs.LexicalGrammar.{LexicalGrammar, LiesInGrammar}

-- whatever number lies there, it is no instant
abbrev pub NoSecondsLie : LexicalGrammar → Settings → Option TimestampFormat → List ℕ → ℕ → Type 0
NoSecondsLie g c time i a =
    (raw : List ℕ) (e : ℕ) → LiesInGrammar g scalars.Timestamp (a_number raw) i a e → timestamp_says c time (a_number raw) ≡ no_meaning

-- whatever string lies there, it is no instant
abbrev pub NoDateLies : LexicalGrammar → Settings → Option TimestampFormat → List ℕ → ℕ → Type 0
NoDateLies g c time i a =
    (raw : List ℕ) (e : ℕ) → LiesInGrammar g scalars.Timestamp (a_string raw) i a e → timestamp_says c time (a_string raw) ≡ no_meaning
