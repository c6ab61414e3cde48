-- Lines that are bodies.
use Rattle.std.specs.Prelude.{◌≡◌, ◌⊎◌, ℕ, List, Option, Some, None}
use Rattle.smithy_texts.specs.Base64Text.{blob_text, blob_of}
use Rattle.smithy_declarations.specs.Table.{Table}
use Rattle.smithy_declarations.specs.Value.{Value}
use Rattle.smithy_transcode.specs.declared.wire.TranscodeError.{TranscodeError}
use Rattle.smithy_transcode.specs.declared.wire.TranscodeError.TheVariants.{InvalidInput, Inexpressible}
use Rattle.smithy_transcode.specs.Wires.{Wire, cbor, unfit}
use Rattle.smithy_transcode.specs.Spelling.{Spells}
use Rattle.smithy_transcode.specs.ReadBody.{IsRefusedFor}

-- the line of a body: padded base64 (RFC 4648, section 4) of a body in CBOR, and any other body itself
abbrev pub line_of : Wire → List ℕ → List ℕ
line_of (cbor definite_lengths) body = blob_text body
line_of _ body = body

-- the body that a line is, if it is one
abbrev pub body_of : Wire → List ℕ → Option (List ℕ)
body_of (cbor definite_lengths) line = blob_of line
body_of _ line = Some line

-- the line is a body that spells the value of the root
abbrev pub LineSpells : Wire → Table → ℕ → List ℕ → Value → Type 0
LineSpells from table root line v = (bytes : List ℕ) × (body_of from line ≡ Some bytes) × Spells from table root bytes v

-- a transcoding of the bytes is refused by this error; want of memory refuses none
abbrev pub RefusesBody : Table → ℕ → Wire → Wire → List ℕ → TranscodeError → Type 0
RefusesBody table root from to bytes (Inexpressible u) = (v : Value) × Spells from table root bytes v × (unfit to table root v ≡ Some u)
RefusesBody table root from to bytes e = IsRefusedFor from table root bytes e

-- The line is refused by this error: it is no body, which is invalid input, or its body is refused.
abbrev pub RefusesLine : Table → ℕ → Wire → Wire → List ℕ → TranscodeError → Type 0
RefusesLine table root from to line e =
    ((body_of from line ≡ None) × (e ≡ InvalidInput))
    ⊎ ((bytes : List ℕ) × (body_of from line ≡ Some bytes) × RefusesBody table root from to bytes e)

-- the line spells no value that the wanted wire can express
abbrev pub SpellsNoneFor : Table → ℕ → Wire → Wire → List ℕ → Type 0
SpellsNoneFor table root from to line = (v : Value) → LineSpells from table root line v → unfit to table root v ≡ None → ⊥
