use Rattle.std.proofs.Common.{arith}
use Rattle.std.proofs.lemmas.Grind.{elements}
use Rattle.smithy_shapes.proofs.schema.Schema.member_among.Goals as goal

pub returns-in_err-member : goal.returns-in_err-member
returns-in_err-member c = grind (arith, elements)

pub invariant_of-result : goal.invariant_of-result
invariant_of-result c = grind (arith, elements)

pub returns : goal.returns
returns c = grind (arith, elements)
