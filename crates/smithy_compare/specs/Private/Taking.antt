-- What a call answers that takes the next part of a container.
use Rattle.std.specs.Prelude.{◌≡◌, Option, MatchOption}
use Rattle.smithy_compare.specs.declared.node.Node.{Node}
use Rattle.smithy_compare.specs.declared.parts.Label.{Label}
use Rattle.smithy_compare.specs.Tree.{Parts, no_parts, part}
use Rattle.smithy_compare.specs.Private.Nodes.{node_tree, step_at}
use Rattle.smithy_compare.specs.Private.Standing.{NodeStands}

-- None where no part was left. Else the step to the part and the part, after which the others are left and are sound.
abbrev pub TakesPart : Option (Label × Node) → (before after : Parts) → Type 0 → Type 0
TakesPart result before after sound = MatchOption result (before ≡ no_parts) (λ e. (before ≡ part (step_at e.0) (node_tree e.1) after) × NodeStands e.1 × sound)
