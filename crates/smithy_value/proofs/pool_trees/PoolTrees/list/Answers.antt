use Rattle.smithy_value.proofs.PoolTrees.{list_made}
use Rattle.smithy_value.proofs.pool_trees.PoolTrees.list.Goals as goal

pub returns-clause-ok : goal.returns-clause-ok
returns-clause-ok c = λ p b. list_made p c.args.self.now c.close_elements.new.self c.args.elements c.in_ok-close_elements.field-0 c.of.result c.of.ensures.node c.of.ensures.second c.in_ok-close_elements.ensures.ok b
