use Rattle.std.proofs.Common.{arith}
use Rattle.std.proofs.lemmas.Grind.{common_steps, elements}
use Rattle.smithy_cbor.proofs.heads.break_at.Goals as goal

pub returns-clause-found : goal.returns-clause-found
returns-clause-found c = grind (arith, elements)

pub returns-clause-within : goal.returns-clause-within
returns-clause-within c = grind (arith, common_steps)
