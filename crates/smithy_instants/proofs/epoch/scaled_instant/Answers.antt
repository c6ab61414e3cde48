use Rattle.std.proofs.Common.{unsigned_abs}
use Rattle.smithy_texts.specs.Numeral.{magnitude}
use Rattle.smithy_instants.proofs.EpochLemmas.{magnitude_wide}
use Rattle.smithy_instants.proofs.epoch.scaled_instant.Goals as goal

pub returns-in_err-magnitude : goal.returns-in_err-magnitude
returns-in_err-magnitude c =
    rw c.from_residual.ensures (magnitude_wide c.args.is_negative (magnitude c.args.digits.now) (unsigned_abs c.args.power) c.in_err-magnitude.ensures)
