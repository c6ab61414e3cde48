-- What the transcoding of one line says.
use Rattle.std.specs.Prelude.{◌≡◌, ◌≢◌, ℕ, List, None, Ok, Err}
use Rattle.smithy_declarations.specs.Table.{Table}
use Rattle.smithy_declarations.specs.Value.{Value}
use Rattle.smithy_transcode.specs.declared.wire.TranscodeError.TheVariants.{NoMemory}
use Rattle.smithy_transcode.specs.Transcoding.{Answer, TellsAgain}
use Rattle.smithy_transcode.specs.Wires.{Wire, unfit}
use Rattle.smithy_transcode.specs.Spelling.{body}
use Rattle.smithy_replay.specs.LineBodies.{line_of, LineSpells, RefusesLine, SpellsNoneFor}
use Rattle.smithy_lines.specs.Lines.{HasNoFeed}

-- the body of what the line spells, whose line has no line feed, or why there is none
abbrev pub LineGives : Table → ℕ → Wire → Wire → List ℕ → Answer → Type 0
LineGives table root from to line (Ok out) =
    (v : Value) × LineSpells from table root line v × (unfit to table root v ≡ None) × (out.items ≡ body to table root v)
    × TellsAgain to table root (body to table root v) v × HasNoFeed (line_of to (body to table root v))
LineGives table root from to line (Err e) = e ≢ NoMemory → SpellsNoneFor table root from to line × RefusesLine table root from to line e
