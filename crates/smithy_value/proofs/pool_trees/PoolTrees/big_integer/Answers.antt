use Rattle.std.proofs.Common.{rules, ◌≡◌, ◌∙◌, ap, to_z, of_z, w64}
use Rattle.smithy_declarations.specs.Value.{scalar_value, whole}
use Rattle.smithy_tree.specs.Seen.{view}
use Rattle.smithy_tree.specs.declared.node.Node.TheVariants as nodes
use Rattle.smithy_value.proofs.PoolTrees.{holds_bare, made_here}
use Rattle.smithy_value.proofs.pool_trees.PoolTrees.big_integer.Goals as goal

pub returns-in-Ok-clause-ok : goal.returns-in-Ok-clause-ok
returns-in-Ok-clause-ok c =
    let p = c.args.self.now in
    let x = c.of.result in
    let small = to_z w64 (of_z w64 c.in-Ok.small) in
    let same : scalar_value (whole small) ≡ scalar_value (whole c.args.number) = search rules in
    made_here p x (scalar_value (whole c.args.number)) c.requires.sound.1.sound (holds_bare p x (nodes.Whole small) c.of.ensures.node c.of.ensures.second tt) (ap (view p) c.of.ensures.node ∙ same)
