use Rattle.std.proofs.Common.{arith}
use Rattle.std.proofs.lemmas.Grind.{common_steps}
use Rattle.smithy_json_tokens.proofs.token_turn.first_value_turn.Goals as goal

pub returns-then-input-at-eq93 : goal.returns-then-input-at-eq93
returns-then-input-at-eq93 c = grind (arith, common_steps)

pub returns : goal.returns
returns c = grind (arith, common_steps)
