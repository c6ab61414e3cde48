use Rattle.std.proofs.Common.{arith, rules}
use Rattle.std.proofs.lemmas.Grind.{common_steps}
use Rattle.smithy_cbor_body.proofs.body.CborBodyShapeSerializer.write_big_integer.Goals as goal

pub returns-in-Ok : goal.returns-in-Ok
returns-in-Ok c =
    record {
      failed = search rules;
      broken = search rules;
      ok = grind (arith, common_steps);
      refused = search rules;
    }
