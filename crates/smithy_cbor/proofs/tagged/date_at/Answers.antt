use Rattle.std.proofs.lemmas.Result.{IfOk-weaker}
use Rattle.smithy_cbor.proofs.TaggedLemmas.{date_there}
use Rattle.smithy_cbor.proofs.tagged.date_at.Goals as goal

pub returns-clause-found : goal.returns-clause-found
returns-clause-found c =
    IfOk-weaker c.seconds_at.result _ _
    (λ date found. date_there c.args.input.now c.args.at c.in_ok-body.body date.1 date.0 c.in_ok-body.ensures.found found) c.seconds_at.ensures.found
