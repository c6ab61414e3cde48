use Rattle.smithy_json_tokens.proofs.TurnLemmas.{past_blanks}
use Rattle.smithy_json_tokens.proofs.token_turn.past_blanks.Goals as goal

pub returns-clause-value : goal.returns-clause-value
returns-clause-value c = past_blanks c.args.input.now c.args.at c.skip_blanks.result c.skip_blanks.ensures
