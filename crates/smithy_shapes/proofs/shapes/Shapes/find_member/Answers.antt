use Rattle.std.proofs.Common.{arith}
use Rattle.std.proofs.lemmas.Grind.{elements}
use Rattle.smithy_shapes.proofs.shapes.Shapes.find_member.Goals as goal

pub returns-in-Some-Structure-clause-found : goal.returns-in-Some-Structure-clause-found
returns-in-Some-Structure-clause-found c = grind (arith, elements)

pub returns-in-Some-Union-clause-found : goal.returns-in-Some-Union-clause-found
returns-in-Some-Union-clause-found c = grind (arith, elements)
