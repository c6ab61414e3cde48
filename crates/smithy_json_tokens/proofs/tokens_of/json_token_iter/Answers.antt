use Rattle.std.proofs.Common.{sym, subst}
use Rattle.smithy_json_tokens.specs.Tokens.{tokens}
use Rattle.smithy_json_tokens.specs.TokenRuns.{Leads, GivesOnly}
use Rattle.smithy_json_tokens.proofs.SurelyGiven.{surely_gives}
use Rattle.smithy_json_tokens.proofs.TreeTokens.{text_gives}
use Rattle.smithy_json_tokens.proofs.tokens_of.json_token_iter.Goals as goal

-- the fresh iterator stands at the input's start
pub returns-clause-tokens : goal.returns-clause-tokens
returns-clause-tokens c = λ tree is. subst (λ k. GivesOnly k (tokens tree)) (sym c.new.ensures.cursor) (text_gives tree c.args.input.now is)

pub returns-clause-gives : goal.returns-clause-gives
returns-clause-gives c = λ tree is.
    let all = text_gives tree c.args.input.now is in
    surely_gives (tokens tree) c.new.result all.0 (subst (λ k. Leads k (tokens tree) all.0) (sym c.new.ensures.cursor) all.1)
