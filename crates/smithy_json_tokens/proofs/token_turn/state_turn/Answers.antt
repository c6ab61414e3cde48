use Rattle.std.proofs.Common.{◌∙◌, ap, sym, subst, drop, arith}
use Rattle.smithy_json_tokens.specs.TokenRules.{state_turn}
use Rattle.smithy_json_tokens.specs.Private.Turns.{TurnsTo}
use Rattle.smithy_json_tokens.proofs.TurnLemmas.{initial_turn}
use Rattle.smithy_json_tokens.proofs.token_turn.state_turn.Goals as goal

pub returns-in-Initial : goal.returns-in-Initial
returns-in-Initial c =
    let input = c.args.input.now in
    let same = ap (λ s. state_turn s (drop c.args.at input)) c.in-Initial.is ∙ initial_turn input c.args.at (omega (arith, c.requires.within, c.if-at-input.false)) in
    subst (TurnsTo input c.args.at c.value_turn.result) (sym same) c.value_turn.ensures
