use Rattle.std.proofs.Common.{take}
use Rattle.smithy_tree.specs.Items.{whole_values}
use Rattle.smithy_tree.specs.Seen.{PutsElements}
use Rattle.smithy_tree.proofs.pool.Pool.wait_all.Given as goal

-- those that were passed have come behind the elements
abbrev pub invariant-loop-number : goal.invariant-loop-number
invariant-loop-number l = record {
  puts : PutsElements l.fn.self l.self l.fn.elements l.elements (whole_values (take l.number-index l.numbers));
}
