use Rattle.smithy_tree.specs.declared.node.Slot.{Slot}
use Rattle.smithy_value.proofs.PoolTrees.{union_made}
use Rattle.smithy_value.proofs.pool_trees.PoolTrees.union.Goals as goal

pub returns-clause-ok : goal.returns-clause-ok
returns-clause-ok c =
    let p = c.args.self.now in
    let child : Slot = record { first = c.args.index; second = 0; node = c.args.value.node } in
    union_made p c.wait.new.self c.close.new.self c.count_waiting-begin.result c.in_ok-at.at c.in_ok-at.field-0-1 child c.of.result c.requires.sound.1.sound c.count_waiting-begin.ensures.count c.in_ok-wait.ensures.ok c.in_ok-at.ensures.ok c.of.ensures.node c.of.ensures.second
