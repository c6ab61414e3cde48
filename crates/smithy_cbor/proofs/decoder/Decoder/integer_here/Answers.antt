use Rattle.std.proofs.Common.{arith}
use Rattle.std.proofs.lemmas.Grind.{common_steps}
use Rattle.smithy_cbor.proofs.decoder.Decoder.integer_here.Goals as goal

pub read_head-requires : goal.read_head-requires
read_head-requires c = grind (arith, common_steps)

pub integer_of-requires-clause-integer_type : goal.integer_of-requires-clause-integer_type
integer_of-requires-clause-integer_type c = grind (arith, common_steps)

pub integer_of-requires-clause-head : goal.integer_of-requires-clause-head
integer_of-requires-clause-head c = grind (arith, common_steps)

pub integer_of-requires-in-1-Some-clause-integer_type : goal.integer_of-requires-in-1-Some-clause-integer_type
integer_of-requires-in-1-Some-clause-integer_type c = grind (arith, common_steps)

pub integer_of-requires-in-1-Some-clause-head : goal.integer_of-requires-in-1-Some-clause-head
integer_of-requires-in-1-Some-clause-head c = grind (arith, common_steps)
