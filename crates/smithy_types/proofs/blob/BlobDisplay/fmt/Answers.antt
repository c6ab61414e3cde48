use Rattle.std.proofs.Common.{rules}
use Rattle.std.proofs.Output.{has_written_append, has_written_of_eq}
use Rattle.smithy_types.proofs.HexLemmas.{hex_text_more}
use Rattle.smithy_types.proofs.blob.BlobDisplay.fmt.Goals as goal

-- two more digits are written
pub loop-byte-preserved : goal.loop-byte-preserved
loop-byte-preserved g c = λ plain.
    let high = c.hex_digit-high.ensures in
    let low = c.hex_digit-low.ensures in
    has_written_of_eq _ _ _ _ _
    (hex_text_more c.as_ref-byte-items.result.now c.loop-byte.byte-index c.hex_digit-high.result c.hex_digit-low.result (search rules) high.value low.value high.ascii low.ascii)
    (has_written_append _ _ _ _ _ _ (c.loop-byte.invariant plain) (search rules))
