use Rattle.std.proofs.Common.{◌≡◌, ◌++◌, take}
use Rattle.std.specs.Prelude.{map as mapped}
use Rattle.smithy_tree.specs.Nodes.{number_slot}
use Rattle.smithy_tree.proofs.elements.push_numbers.Given as goal

-- the numbers that were passed are nodes
abbrev pub invariant-loop-number : goal.invariant-loop-number
invariant-loop-number l = l.nodes.items ≡ l.fn.nodes.items ++ mapped number_slot (take l.number-index l.numbers)
