-- The answers to lines that are bodies, each with its number or without one.
use Rattle.std.specs.Prelude.{◌≡◌, ◌++◌, ℕ, List, [], Bool, true, false, None, codes, decimal}
use Rattle.smithy_declarations.specs.Table.{Table}
use Rattle.smithy_declarations.specs.Value.{Value}
use Rattle.smithy_transcode.specs.declared.wire.TranscodeError.{TranscodeError}
use Rattle.smithy_transcode.specs.declared.wire.TranscodeError.TheVariants.{InvalidInput, TooDeep, TooWide, NotCarried, Inexpressible, NoMemory}
use Rattle.smithy_transcode.specs.declared.wire.Unfit.TheVariants.{Document, Null, Instant}
use Rattle.smithy_transcode.specs.Wires.{Wire, json, query, unfit}
use Rattle.smithy_transcode.specs.Spelling.{body}
use Rattle.smithy_transcode.specs.Transcoding.{TellsAgain}
use Rattle.smithy_lines.specs.Lines.{lines_of}
use Rattle.smithy_lines.specs.Answered.{Answers, Answered}
use Rattle.smithy_replay.specs.LineBodies.{line_of, LineSpells, RefusesLine, SpellsNoneFor}

-- the text that says why a line is refused
abbrev pub refusal_text : TranscodeError → List ℕ
refusal_text InvalidInput = codes "invalid input"
refusal_text TooDeep = codes "too deep"
refusal_text TooWide = codes "number too wide"
refusal_text NotCarried = codes "not carried"
refusal_text (Inexpressible Document) = codes "document not expressible"
refusal_text (Inexpressible Null) = codes "null not expressible"
refusal_text (Inexpressible Instant) = codes "instant not expressible"
refusal_text NoMemory = codes "out of memory"

-- What comes before a body, or before the text of a refusal. Where lines are numbered it is the line's number, and before a body the
-- head of a request, too.
abbrev pub front : Bool → ℕ → Bool → List ℕ
front true n false = decimal n ++ codes " POST / "
front true n true = decimal n ++ codes " "
front false n refused = []

-- The answer to a line with this number: the body of what the line spells, where the wanted wire can express it, which tells the value
-- again; and else the text of a refusal whose cause holds for the line.
abbrev pub AnswersLine : Table → ℕ → Wire → Wire → Bool → Answers
AnswersLine table root from to numbered n line answer false =
    (v : Value) × LineSpells from table root line v × (unfit to table root v ≡ None)
    × (answer ≡ front numbered n false ++ line_of to (body to table root v)) × TellsAgain to table root (body to table root v) v
AnswersLine table root from to numbered n line answer true =
    SpellsNoneFor table root from to line
    × ((e : TranscodeError) × RefusesLine table root from to line e × (answer ≡ front numbered n true ++ refusal_text e))

-- the answer to a line that is longer than its reader's limit
abbrev pub RefusesLong : Bool → ℕ → List ℕ → Type 0
RefusesLong numbered n answer = answer ≡ front numbered n true ++ codes "too long"

-- The text has the answer to each line of the input: the request whose form is what the line spells in JSON, or why there is none. The
-- last argument says whether a line has none.
abbrev pub Replayed : Table → ℕ → (action version : List ℕ) → (input text : List ℕ) → (refused : Bool) → Type 0
Replayed table root action version input text refused =
    Answered (AnswersLine table root (json false false) (query action version) true) 1 (lines_of input) text refused
