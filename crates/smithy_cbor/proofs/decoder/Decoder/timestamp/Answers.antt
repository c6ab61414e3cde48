use Rattle.std.proofs.Common.{arith}
use Rattle.std.proofs.lemmas.Grind.{common_steps}
use Rattle.smithy_cbor.proofs.decoder.Decoder.timestamp.Goals as goal

pub date_at-requires : goal.date_at-requires
date_at-requires c = grind (arith, common_steps)
