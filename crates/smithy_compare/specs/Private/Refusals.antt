-- The refusal of one of two bodies.
use Rattle.smithy_transcode.specs.declared.wire.TranscodeError.{TranscodeError}
use Rattle.smithy_transcode.specs.declared.wire.TranscodeError.TheVariants as read
use Rattle.smithy_compare.specs.declared.comparing.CompareError.{CompareError}
use Rattle.smithy_compare.specs.declared.comparing.CompareError.TheVariants.{NoMemory}

-- want of memory is no matter of the body, and any other refusal is told of it
abbrev pub told_of : (TranscodeError → CompareError) → TranscodeError → CompareError
told_of body read.NoMemory = NoMemory
told_of body e = body e
