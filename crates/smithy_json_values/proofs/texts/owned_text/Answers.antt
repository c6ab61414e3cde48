use Rattle.std.proofs.Common.{arith}
use Rattle.std.proofs.lemmas.Grind.{common_steps}
use Rattle.smithy_json_values.proofs.texts.owned_text.Goals as goal

pub text_of-requires : goal.text_of-requires
text_of-requires c = grind (arith, common_steps)
