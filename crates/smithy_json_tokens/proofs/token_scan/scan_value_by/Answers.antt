use Rattle.std.proofs.Common.{arith}
use Rattle.std.proofs.lemmas.Grind.{common_steps}
use Rattle.smithy_json_tokens.proofs.token_scan.scan_value_by.Goals as goal

pub returns-then-first-eq34 : goal.returns-then-first-eq34
returns-then-first-eq34 c = grind (arith, common_steps)

pub returns-then-first-eq110 : goal.returns-then-first-eq110
returns-then-first-eq110 c = grind (arith, common_steps)

pub returns-then-first-eq116 : goal.returns-then-first-eq116
returns-then-first-eq116 c = grind (arith, common_steps)

pub returns-then-first-eq102 : goal.returns-then-first-eq102
returns-then-first-eq102 c = grind (arith, common_steps)

pub returns : goal.returns
returns c = grind (arith, common_steps)
