use Rattle.std.proofs.Common.{◌≡◌, length, arith}
use Rattle.std.proofs.lemmas.Bool.Decides.{nat_tests}
use Rattle.smithy_form.proofs.PercentForms.{all_decoded}
use Rattle.smithy_form.proofs.percent.decoded_bytes.Goals as goal

pub returns : goal.returns
returns c =
    let end : length c.loop-rest.rest.now ≡ 0 = grind (arith, nat_tests, c.loop-rest-test.ensures) in
    all_decoded c.args.side.now c.loop-rest.bytes.items c.loop-rest.rest.now c.loop-rest.invariant.decoded c.loop-rest.invariant.whole end
