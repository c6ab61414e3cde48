use Rattle.std.proofs.Common.{arith}
use Rattle.std.proofs.lemmas.Grind.{common_steps, elements}
use Rattle.cbor_item.proofs.head.read_head.Goals as goal

pub returns-in-empty : goal.returns-in-empty
returns-in-empty c =
    record {
      found = tt;
      truncated = grind (arith, common_steps);
      not_well_formed = grind (arith, common_steps);
      no_other_error = tt;
    }

pub returns-in-len1-up : goal.returns-in-len1-up
returns-in-len1-up c =
    record {
      found = grind (arith, common_steps);
      truncated = grind (arith, common_steps);
      not_well_formed = grind (arith, elements);
      no_other_error = c.head_after.ensures.no_other_error;
    }
