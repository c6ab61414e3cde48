use Rattle.std.proofs.Common.{[], length, arith}
use Rattle.smithy_tree.specs.Items.{nothing}
use Rattle.smithy_tree.specs.Seen.{store}
use Rattle.smithy_tree.proofs.Growing.{child_stands, child_value, slot_stays}
use Rattle.smithy_tree.proofs.pool.Pool.child.Goals as goal

pub returns-clause-stands : goal.returns-clause-stands
returns-clause-stands c =
    let p = c.args.self.now in
    let own = child_stands (store p) 0 c.args.at c.args.at p.nodes.items c.index.result.now (omega arith) c.requires.within c.requires.sound.nodes in
    rw c.index.ensures (slot_stays (store p) c.args.at (length p.nodes.items) _ (omega arith) own)

pub returns-clause-shows : goal.returns-clause-shows
returns-clause-shows c =
    let p = c.args.self.now in
    rw c.index.ensures (child_value (store p) [] c.args.at c.args.at p.nodes.items c.index.result.now nothing (omega arith) c.requires.within c.requires.sound.nodes)
