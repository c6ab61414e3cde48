use Rattle.std.proofs.Common.{sym, subst, append-nil}
use Rattle.smithy_model_table.specs.Taken.{AreTaken}
use Rattle.smithy_model_table.proofs.outcomes.add_outcome.Goals as goal

pub returns-in_ok-push-in-Left-clause-taken : goal.returns-in_ok-push-in-Left-clause-taken
returns-in_ok-push-in-Left-clause-taken c = λ earlier taken.
    rw (c.in-Left.is) (subst (λ ds. AreTaken ds c.args.taken.now) (sym (append-nil earlier)) taken)
