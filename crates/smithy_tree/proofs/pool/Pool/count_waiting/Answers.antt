use Rattle.std.proofs.Common.{arith}
use Rattle.smithy_tree.specs.Seen.{store, values}
use Rattle.smithy_tree.proofs.Growing.{length_values_over}
use Rattle.smithy_tree.proofs.pool.Pool.count_waiting.Goals as goal

pub returns : goal.returns
returns c = omega (arith, length_values_over (store c.args.self.now) (values c.args.self.now) c.args.self.now.waiting.items)
