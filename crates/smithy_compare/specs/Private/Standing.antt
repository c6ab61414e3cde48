-- What the walk looks at stands in pools that are sound.
use Rattle.std.specs.Prelude.{List, length, drop}
use Rattle.smithy_tree.specs.Nodes.{AreNodes}
use Rattle.smithy_tree.specs.Seen.{store, IsSound, HoldsSlot}
use Rattle.smithy_tree.specs.declared.node.Slot.{Slot}
use Rattle.smithy_tree.specs.declared.pool.Pool.{Pool}
use Rattle.smithy_compare.specs.declared.node.Node.{Node}
use Rattle.smithy_compare.specs.declared.node.Node.TheVariants as nodes
use Rattle.smithy_compare.specs.declared.parts.Parts.{Parts}
use Rattle.smithy_compare.specs.declared.parts.Parts.TheVariants as all_parts
use Rattle.smithy_compare.specs.declared.walk.Pair.{Pair}
use Rattle.smithy_compare.specs.declared.walk.Pair.TheVariants.{End, Alone, Both}

abbrev pub NodeStands : Node → Type 0
NodeStands (nodes.Value p x) = IsSound p.now × HoldsSlot p.now x.now
NodeStands _ = Unit {0}

-- these children stand in the pool
abbrev pub ChildrenStand : Pool → List Slot → Type 0
ChildrenStand p xs = IsSound p × AreNodes (store p) (length p.nodes.items) xs

abbrev pub PartsStand : Parts → Type 0
PartsStand (all_parts.Elements p i xs) = ChildrenStand p.now (drop i xs.now)
PartsStand (all_parts.Entries p xs) = ChildrenStand p.now xs.now
PartsStand (all_parts.Members p xs) = ChildrenStand p.now xs.now
PartsStand (all_parts.Only p x) = IsSound p.now × HoldsSlot p.now x.now
PartsStand _ = Unit {0}

-- the parts that both have stand there, and what is left behind them
abbrev pub PairStands : Pair → Parts → Parts → Type 0
PairStands End more others = Unit {0}
PairStands (Alone label) more others = Unit {0}
PairStands (Both label x y) more others = (NodeStands x × PartsStand more) × (NodeStands y × PartsStand others)
