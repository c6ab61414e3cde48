use Rattle.smithy_typed.proofs.Containers.{entry_put}
use Rattle.smithy_typed.proofs.maps.put_value.Goals as goal

pub returns-clause-ok : goal.returns-clause-ok
returns-clause-ok g c = rw c.in_ok-insert.ensures.entries (entry_put g.T.Typed.value c.args.entries.now.entries c.args.key c.args.value)
