use Rattle.dynamodb_client.proofs.MapEntries.{entry_put}
use Rattle.dynamodb_client.proofs.attribute_value.put_attribute.Goals as goal

pub returns-clause-ok : goal.returns-clause-ok
returns-clause-ok c = rw c.in_ok-insert.ensures.entries (entry_put c.args.entries.now.entries c.args.name c.args.value)
