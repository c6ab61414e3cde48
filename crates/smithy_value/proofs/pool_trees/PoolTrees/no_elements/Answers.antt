use Rattle.smithy_value.proofs.PoolTrees.{begun_no_elements}
use Rattle.smithy_value.proofs.pool_trees.PoolTrees.no_elements.Goals as goal

pub returns-clause-begun : goal.returns-clause-begun
returns-clause-begun c = begun_no_elements c.args.self.now c.no_elements.result c.requires.sound.1.sound c.no_elements.ensures.half c.no_elements.ensures.begins
