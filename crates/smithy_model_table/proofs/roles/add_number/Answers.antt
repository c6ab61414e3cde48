use Rattle.smithy_model_table.specs.Roles.{has_number}
use Rattle.smithy_model_table.proofs.Gained.{gained_number}
use Rattle.smithy_model_table.proofs.roles.add_number.Goals as goal

pub returns : goal.returns
returns c = λ other.
    gained_number c.args.number other (has_number c.args.numbers.now other) (has_number c.insert.new.self other)
    (c.in_ok-insert.ensures.updates.0 other)
