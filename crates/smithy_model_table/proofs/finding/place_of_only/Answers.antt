use Rattle.std.proofs.Common.{◌≡◌, ◌∙◌, true, false, sym, rules}
use Rattle.std.specs.Prelude.{is_some}
use Rattle.smithy_model_table.proofs.Found.{several, found_first}
use Rattle.smithy_model_table.proofs.finding.place_of_only.Goals as goal

pub returns-then-is_some-clause-others : goal.returns-then-is_some-clause-others
returns-then-is_some-clause-others c =
    let named : c.is_named.result ≡ true = search rules in
    let some : is_some c.loop-number.found ≡ true = search rules in
    λ none. several c.args.name.now c.args.ids.now c.loop-number.number _ c.loop-number.found c.loop-number-test.true (sym c.is_named.ensures ∙ named) some
    c.loop-number.invariant

pub loop-number-preserved : goal.loop-number-preserved
loop-number-preserved c =
    let named : c.is_named.result ≡ true = search rules in
    let none : is_some c.loop-number.found ≡ false = search rules in
    found_first c.args.name.now c.args.ids.now c.loop-number.number _ c.loop-number.found c.loop-number-test.true (sym c.is_named.ensures ∙ named) none
    c.loop-number.invariant
