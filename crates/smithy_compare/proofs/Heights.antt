-- How high a tree is, and how many parts a container has.
use Rattle.std.proofs.Common.{ℕ, suc, max}
use Rattle.smithy_compare.specs.Tree.{Tree, tree, Parts, no_parts, part}

abbrev mutual
  -- 1 for a tree without parts, else one more than the highest part
  pub height : Tree → ℕ
  height (tree a ps) = suc (heights ps)

  -- the greatest of the parts
  pub heights : Parts → ℕ
  heights no_parts = 0
  heights (part s x ps) = max (height x) (heights ps)

abbrev pub count : Parts → ℕ
count no_parts = 0
count (part s x ps) = suc (count ps)
