use Rattle.smithy_tree.specs.Seen.{view}
use Rattle.smithy_value.proofs.PoolTrees.{begun_more_elements}
use Rattle.smithy_value.proofs.pool_trees.PoolTrees.push_element.Goals as goal

pub returns-clause-begun : goal.returns-clause-begun
returns-clause-begun c =
    λ p b.
    let q = c.args.self.now in
    begun_more_elements p q c.push_element.new.self c.args.elements.now c.push_element.new.elements (view q c.args.value.node) b c.in_ok-push_element.ensures.ok

pub returns-clause-ok : goal.returns-clause-ok
returns-clause-ok c = c.in_ok-push_element.ensures.ok.elements
