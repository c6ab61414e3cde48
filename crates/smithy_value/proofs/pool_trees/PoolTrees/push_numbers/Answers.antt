use Rattle.smithy_tree.specs.Items.{whole_values}
use Rattle.smithy_value.proofs.PoolTrees.{begun_many_elements}
use Rattle.smithy_value.proofs.pool_trees.PoolTrees.push_numbers.Goals as goal

pub returns-clause-begun : goal.returns-clause-begun
returns-clause-begun c =
    λ p b.
    begun_many_elements p c.args.self.now c.push_numbers.new.self c.args.elements.now c.push_numbers.new.elements (whole_values c.args.numbers.now) b c.in_ok-push_numbers.ensures.ok

pub returns-clause-ok : goal.returns-clause-ok
returns-clause-ok c = c.in_ok-push_numbers.ensures.ok.elements
