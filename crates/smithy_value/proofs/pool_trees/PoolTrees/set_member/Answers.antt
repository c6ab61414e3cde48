use Rattle.smithy_tree.specs.Seen.{item_in}
use Rattle.smithy_value.proofs.PoolTrees.{members_more}
use Rattle.smithy_value.proofs.pool_trees.PoolTrees.set_member.Goals as goal

pub returns-clause-ok : goal.returns-clause-ok
returns-clause-ok c =
    let p = c.args.self.now in
    let begun = c.requires.begun in
    members_more begun.0 p c.wait.new.self c.args._members.now (item_in p (record { first = c.args.index; second = 0; node = c.args.value.node })) begun.1 c.in_ok-wait.ensures.ok.waiting
