-- What a refusal of a transcoding tells of that of a reader or serializer.
use Rattle.std.specs.Prelude.{◌≡◌}
use Rattle.smithy_schema.specs.declared.error.SerdeError.{SerdeError}
use Rattle.smithy_schema.specs.declared.error.SerdeError.TheVariants as serde
use Rattle.smithy_transcode.specs.declared.wire.TranscodeError.{TranscodeError}
use Rattle.smithy_transcode.specs.declared.wire.TranscodeError.TheVariants.{InvalidInput, TooDeep, TooWide, NotCarried, NoMemory}

-- a transcoding tells a refusal of a reader or serializer under the same name, but for `TypeMismatch`, which is `InvalidInput` to it,
-- and never ends with `Unsupported`, `Unwritable`, `Missing` or `Failed`
abbrev pub IsToldAs : SerdeError → TranscodeError → Type 0
IsToldAs serde.InvalidInput refusal = refusal ≡ InvalidInput
IsToldAs serde.TypeMismatch refusal = refusal ≡ InvalidInput
IsToldAs serde.TooDeep refusal = refusal ≡ TooDeep
IsToldAs serde.TooWide refusal = refusal ≡ TooWide
IsToldAs serde.NotCarried refusal = refusal ≡ NotCarried
IsToldAs serde.NoMemory refusal = refusal ≡ NoMemory
IsToldAs serde.Unsupported refusal = ⊥
IsToldAs serde.Unwritable refusal = ⊥
IsToldAs serde.Missing refusal = ⊥
IsToldAs serde.Failed refusal = ⊥
