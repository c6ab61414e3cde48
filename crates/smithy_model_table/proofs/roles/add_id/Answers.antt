use Rattle.smithy_model_table.specs.Roles.{has_id}
use Rattle.smithy_model_table.proofs.Gained.{gained_id}
use Rattle.smithy_model_table.proofs.roles.add_id.Goals as goal

pub returns : goal.returns
returns c = λ other.
    gained_id c.args.id.now other (has_id c.args.ids.now other) (has_id c.insert.new.self other)
    (c.in_ok-insert.ensures.updates.0 (record { ref_ptr = c.args.id.ref_ptr; now = other }))
