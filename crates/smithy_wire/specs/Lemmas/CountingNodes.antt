-- Where a node lies, each node in it takes a byte, but for one that is missing at the input's end.
use Rattle.std.specs.Prelude.{◌≤◌, ◌<◌, ◌+◌, ℕ, suc, length, List, Option}
use Rattle.std.proofs.Common.{arith, inl, inr}
use Rattle.smithy_schema.specs.Reading.{Mark, HaveBytes}
use Rattle.smithy_wire.specs.Node.{Form, Node, null_node, leaf, container, missing, Nodes, no_nodes, node}
use Rattle.smithy_wire.specs.Frames.{Frames, Lies, NodesLie}
use Rattle.smithy_wire.specs.Wire.{IsWire}
use Rattle.smithy_wire.specs.Lemmas.Nodes.{lies_behind}

abbrev mutual
  -- a node and each one inside it
  pub size : {L : Type 0} → Node L → ℕ
  size null_node = 1
  size (leaf x) = 1
  size (container f xs) = suc (sizes xs)
  size missing = 1

  -- of all children
  pub sizes : {L : Type 0} → Nodes L → ℕ
  sizes no_nodes = 0
  sizes (node key x xs) = size x + sizes xs

-- a node counts itself
pub size_is_some : {L : Type 0} (x : Node L) → 1 ≤ size x
size_is_some null_node = omega arith
size_is_some (leaf x) = omega arith
size_is_some (container f xs) = omega arith
size_is_some missing = omega arith

module _ {L : Type 0} (w : Frames L) (wire : IsWire w) (i : List ℕ) where
  opened_takes : (a b e count : ℕ) → a < b → HaveBytes i b e count → HaveBytes i a e (suc count)
  opened_takes a b e count less (inl all) = inl (omega (arith, less, all))
  opened_takes a b e count less (inr (most, end)) = inr (omega (arith, less, most), end)

  -- a child without a byte of its own is the last, since after it any other entry takes a byte
  child_takes : (d : ℕ) (f : Form) (xs : Nodes L) (b : ℕ) (m : Mark) (key : Option L) (c : ℕ) (n : Mark) (g e one : ℕ) → b ≤ c → w.entry f i b m key c n
      → HaveBytes i c g one → g ≤ length i → NodesLie w f i (suc d) xs g n e → HaveBytes i g e (sizes xs) → HaveBytes i b e (one + sizes xs)
  child_takes d f xs b m key c n g e one up entry (inl all) within lie (inl rest) = inl (omega (arith, up, all, rest))
  child_takes d f xs b m key c n g e one up entry (inl all) within lie (inr (most, end)) = inr (omega (arith, up, all, most), end)
  child_takes d f no_nodes b m key c n g e one up entry (inr (most, end)) within lie rest =
      let last = wire.ends_ahead f i g n e within lie in
      inr (omega (arith, up, most, last.0), omega (arith, end, last.0, last.1))
  child_takes d f (node l y ys) b m key c n g e one up entry (inr (most, end)) within (at, o, h, next, lies, lie) rest =
      absurd (omega (arith, end, wire.next_entry f i b m key c n g l at o entry next))

  mutual
    -- where a node lies are bytes for it and all nodes inside of it
    pub takes_bytes : (d : ℕ) (x : Node L) (a e : ℕ) → Lies w i d x a e → HaveBytes i a e (size x)
    takes_bytes d null_node a e h = inl (omega (arith, (wire.null_ahead i d a e h).0))
    takes_bytes d (leaf x) a e h = inl (omega (arith, (wire.scalar_ahead i d x a e h).0))
    takes_bytes d (container f xs) a e (b, m, opens, lie, follows) =
        let o = wire.opens_ahead f i a b m opens in opened_takes a b e (sizes xs) o.0 (take_bytes d f xs b m e o.1 lie)
    takes_bytes d missing a e h = let over = wire.over_is_end i a e h in inr (omega (arith, over.0), over.1)

    take_bytes : (d : ℕ) (f : Form) (xs : Nodes L) (b : ℕ) (m : Mark) (e : ℕ) → b ≤ length i → NodesLie w f i (suc d) xs b m e → HaveBytes i b e (sizes xs)
    take_bytes d f no_nodes b m e low h = inl (omega (arith, (wire.ends_ahead f i b m e low h).0))
    take_bytes d f (node key x xs) b m e low (c, n, g, entry, lies, lie) =
        let within = (lies_behind w wire i (suc d) x c g lies).1 in
        child_takes d f xs b m key c n g e (size x) (wire.entry_ahead f i b m key c n entry) entry (takes_bytes (suc d) x c g lies) within lie (take_bytes d f xs g n e within lie)
