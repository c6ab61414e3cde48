use Rattle.std.proofs.Common.{◌≡◌, ◌+◌, codes, arith}
use Rattle.smithy_generator.specs.Generated.{number_at}
use Rattle.smithy_generator.proofs.Steps.{number_after, items_after}
use Rattle.smithy_generator.proofs.generating.generate.Goals as goal

pub loop-made-preserved : goal.loop-made-preserved
loop-made-preserved c =
    let at : c.next_number-x.result ≡ number_at c.args.seed (c.loop-made.made + 1) =
    number_after c.args.seed c.loop-made.made c.loop-made.x c.next_number-x.result c.loop-made.invariant.number c.next_number-x.ensures in
    record {
      items = items_after (codes "{\"items\":[") c.args.seed c.loop-made.made c.loop-made.text.items c.push_further.new.text.items c.next_number-x.result
          c.loop-made.invariant.items at c.in_ok-push_further.ensures;
      number = at;
      within = omega (arith, c.loop-made-test.true);
    }
