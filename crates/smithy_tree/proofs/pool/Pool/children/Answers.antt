use Rattle.std.proofs.Common.{◌≡◌, ◌+◌, ◌-◌, arith}
use Rattle.smithy_tree.specs.Seen.{store}
use Rattle.smithy_tree.proofs.Growing.{children_stand, children_show}
use Rattle.smithy_tree.proofs.pool.Pool.children.Goals as goal

pub returns-clause-stand : goal.returns-clause-stand
returns-clause-stand c =
    let p = c.args.self.now in
    rw c.deref.ensures.value (children_stand (store p) c.args.at (c.args.at + c.args.count - c.args.at) p.nodes.items c.requires.sound.nodes)

pub returns-clause-show : goal.returns-clause-show
returns-clause-show c =
    let p = c.args.self.now in
    let same : c.args.at + c.args.count - c.args.at ≡ c.args.count = omega arith in
    rw (c.deref.ensures.value, same) (children_show (store p) c.args.at c.args.count p.nodes.items c.requires.sound.nodes)
