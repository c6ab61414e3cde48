use Rattle.std.proofs.Common.{◌∙◌, sym}
use Rattle.smithy_model.proofs.Ids.{found_at}
use Rattle.smithy_model.proofs.numbers.place_of.Goals as goal

pub returns-then-eq-clause-found : goal.returns-then-eq-clause-found
returns-then-eq-clause-found c =
    found_at c.args.ids.now c.loop-number.number _ c.args.id.now c.loop-number-test.true (sym c.eq.ensures ∙ c.if-eq.true)
