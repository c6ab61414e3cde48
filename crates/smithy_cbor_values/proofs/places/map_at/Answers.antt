use Rattle.smithy_cbor_values.proofs.HeadFaults.{not_opening}
use Rattle.smithy_cbor_values.proofs.places.map_at.Goals as goal

pub returns-in_err-due-clause-none : goal.returns-in_err-due-clause-none
returns-in_err-due-clause-none c =
    let start = c.decoder_at-decoder.ensures in
    rw c.from_residual.ensures (not_opening 5 c.args.input.now c.args.at c.decoder_at-decoder.result start.input start.position c.map.result c.in_err-due.ensures.value c.map.ensures.refused)
