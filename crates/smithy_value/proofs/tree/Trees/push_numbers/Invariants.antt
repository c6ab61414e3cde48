use Rattle.std.proofs.Common.{◌≡◌, ◌++◌, take}
use Rattle.smithy_tree.specs.Items.{whole_values}
use Rattle.smithy_value.proofs.tree.Trees.push_numbers.Given as goal

-- those that were passed have come behind the elements
abbrev pub invariant-loop-number : goal.invariant-loop-number
invariant-loop-number g l =
    let t = g.Self.Trees in
    record {
      begun : (p : _) → t.begun_elements p l.fn.self l.fn.elements → t.begun_elements p l.self l.elements;
      puts : t.view_elements l.self l.elements ≡ t.view_elements l.fn.self l.fn.elements ++ whole_values (take l.number-index l.numbers);
    }
