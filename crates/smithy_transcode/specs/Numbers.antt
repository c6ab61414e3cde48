-- The numbers of refusals: the program ends with them, and the library for C answers them.
use Rattle.std.specs.Prelude.{ℕ}
use Rattle.smithy_transcode.specs.declared.wire.TranscodeError.{TranscodeError}
use Rattle.smithy_transcode.specs.declared.wire.TranscodeError.TheVariants.{InvalidInput, TooDeep, TooWide, NotCarried, Inexpressible, NoMemory}
use Rattle.smithy_transcode.specs.declared.wire.Unfit.TheVariants.{Document, Null, Instant}

-- the number of a refusal
abbrev pub error_number : TranscodeError → ℕ
error_number NoMemory = 8
error_number InvalidInput = 10
error_number TooDeep = 11
error_number TooWide = 12
error_number NotCarried = 13
error_number (Inexpressible Document) = 14
error_number (Inexpressible Null) = 15
error_number (Inexpressible Instant) = 16
