use Rattle.std.proofs.Common.{arith}
use Rattle.std.proofs.lemmas.Grind.{common_steps}
use Rattle.smithy_cbor.proofs.decimal.parts_at.Goals as goal

pub integer_at-requires : goal.integer_at-requires
integer_at-requires c = grind (arith, common_steps)

pub big_integer_at-requires : goal.big_integer_at-requires
big_integer_at-requires c = grind (arith, common_steps)
