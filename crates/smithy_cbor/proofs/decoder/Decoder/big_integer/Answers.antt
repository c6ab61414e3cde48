use Rattle.std.proofs.Common.{arith}
use Rattle.std.proofs.lemmas.Grind.{common_steps}
use Rattle.smithy_cbor.proofs.decoder.Decoder.big_integer.Goals as goal

pub big_integer_at-requires : goal.big_integer_at-requires
big_integer_at-requires c = grind (arith, common_steps)
