use Rattle.std.proofs.Common.{◌+◌, ap, arith, length-drop}
use Rattle.std.proofs.lemmas.Grind.{common_steps}
use Rattle.smithy_cbor.proofs.TaggedLemmas.{bytes_there, bytes_cut}
use Rattle.smithy_cbor.proofs.tagged.bytes_behind.Goals as goal

pub returns-then-announced-input : goal.returns-then-announced-input
returns-then-announced-input c =
    record {
      found = tt;
      within = tt;
      refused = bytes_cut c.args.input.now c.args.at c.args.head c.args.announced (c.args.at + c.from.result) c.requires.inside c.requires.head
          (ap (λ n. c.args.at + n) c.from.ensures) (omega arith);
    }

pub returns : goal.returns
returns c =
    record {
      found = bytes_there c.args.input.now c.args.at c.args.head c.args.announced (c.args.at + c.from.result) c.requires.inside c.requires.head
          (ap (λ n. c.args.at + n) c.from.ensures) (omega (arith, length-drop c.args.at c.args.input.now));
      within = grind (arith, common_steps);
      refused = tt;
    }
