-- Where the type is null, the read of a null is not refused.
use Rattle.std.proofs.Common.{drop}
use Rattle.smithy_cbor.specs.DecoderView.{input_of, position_of}
use Rattle.smithy_cbor.proofs.NullTypes.{null_begins, null_fault}
use Rattle.smithy_cbor.proofs.optional.set_optional.Goals as goal

pub returns-in_err-null-clause-null : goal.returns-in_err-null-clause-null
returns-in_err-null-clause-null g c type =
    let bytes = drop (position_of c.args.decoder.now) (input_of c.args.decoder.now) in
    let cause = c.in_err-null.ensures.refused.cause in
    absurd (null_fault (input_of c.args.decoder.now) (position_of c.args.decoder.now) (drop 1 bytes) cause.0 (null_begins bytes type) cause.2)
