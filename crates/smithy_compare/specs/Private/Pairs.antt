-- What comes next in two containers, by what is left of both before and behind it.
use Rattle.std.specs.Prelude.{◌≡◌, [], ◌∷◌, Some, None}
use Rattle.std.specs.declared.cmp.Ordering.TheVariants.{Equal}
use Rattle.smithy_compare.specs.declared.walk.Pair.{Pair}
use Rattle.smithy_compare.specs.declared.walk.Pair.TheVariants.{End, Alone, Both}
use Rattle.smithy_compare.specs.Tree.{Step, Parts, part}
use Rattle.smithy_compare.specs.FirstPath.{step_cmp, first_among}
use Rattle.smithy_compare.specs.Private.Nodes.{node_tree, step_at}

abbrev pub IsNextPair : Parts → Parts → Pair → Parts → Parts → Type 0
IsNextPair ps qs End more others = first_among ps qs ≡ None
IsNextPair ps qs (Alone label) more others = first_among ps qs ≡ Some (step_at label ∷ [])
IsNextPair ps qs (Both label x y) more others =
    (ps ≡ part (step_at label) (node_tree x) more)
    × ((t : Step) × (step_cmp (step_at label) t ≡ Equal) × (qs ≡ part t (node_tree y) others))
