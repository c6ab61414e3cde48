use Rattle.smithy_json_tokens.proofs.DocumentLaws.{makes_meaning}
use Rattle.smithy_json_tokens.proofs.document.expect_document.Goals as goal

pub returns-clause-meaning : goal.returns-clause-meaning
returns-clause-meaning g c = λ tree greatest d most means gives.
    makes_meaning g.T.IsToken.view g.T.IsToken.place g.I.Iterator.next_gives tree greatest d _ c.make_document.ensures.0 _ _ most means gives c.make_document.ensures.1
