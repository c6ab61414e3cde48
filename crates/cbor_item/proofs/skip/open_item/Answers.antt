use Rattle.std.proofs.Common.{arith}
use Rattle.std.proofs.lemmas.Grind.{common_steps}
use Rattle.cbor_item.proofs.skip.open_item.Goals as goal

pub returns-in-4-Some-clause-step : goal.returns-in-4-Some-clause-step
returns-in-4-Some-clause-step c = grind (arith, common_steps)

pub returns-in-4-Some-clause-smaller : goal.returns-in-4-Some-clause-smaller
returns-in-4-Some-clause-smaller c = grind (arith, common_steps)

pub returns-in-4-None-clause-step : goal.returns-in-4-None-clause-step
returns-in-4-None-clause-step c = grind (arith, common_steps)

pub returns-in-4-None-clause-smaller : goal.returns-in-4-None-clause-smaller
returns-in-4-None-clause-smaller c = grind (arith, common_steps)

pub returns-in-5-Some-clause-step : goal.returns-in-5-Some-clause-step
returns-in-5-Some-clause-step c = grind (arith, common_steps)

pub returns-in-5-Some-clause-smaller : goal.returns-in-5-Some-clause-smaller
returns-in-5-Some-clause-smaller c = grind (arith, common_steps)

pub returns-in-5-None-clause-step : goal.returns-in-5-None-clause-step
returns-in-5-None-clause-step c = grind (arith, common_steps)

pub returns-in-5-None-clause-smaller : goal.returns-in-5-None-clause-smaller
returns-in-5-None-clause-smaller c = grind (arith, common_steps)

pub returns-in-6-default-clause-step : goal.returns-in-6-default-clause-step
returns-in-6-default-clause-step c = grind (arith, common_steps)

pub returns-in-6-default-clause-smaller : goal.returns-in-6-default-clause-smaller
returns-in-6-default-clause-smaller c = grind (arith, common_steps)

pub returns-in-2-Some-clause-step : goal.returns-in-2-Some-clause-step
returns-in-2-Some-clause-step c = grind (arith, common_steps)

pub returns-in-2-None-clause-step : goal.returns-in-2-None-clause-step
returns-in-2-None-clause-step c = grind (arith, common_steps)

pub returns-in-2-None-clause-smaller : goal.returns-in-2-None-clause-smaller
returns-in-2-None-clause-smaller c = grind (arith, common_steps)
