-- A walk over two trees, in part.
use Rattle.std.proofs.Common.{arith, ◌≡◌, ◌<◌, suc, max, List, [], ◌∷◌, Bool, true, Some, None, Option, refl, ap}
use Rattle.std.specs.declared.cmp.Ordering.TheVariants.{Equal}
use Rattle.std.proofs.Math.Nat.{le-max_left, le-max_right}
use Rattle.smithy_compare.specs.Tree.{Step, Top, Tree, tree, Parts, part}
use Rattle.smithy_compare.specs.FirstPath.{step_cmp, same_top, first_in, first_among}
use Rattle.std.specs.declared.vec.Vec.{Vec}
use Rattle.std.specs.declared.alloc.Global.{Global}
use Rattle.smithy_compare.specs.declared.path.PathPart.{PathPart}
use Rattle.smithy_compare.specs.View.{path_of}
use Rattle.smithy_compare.proofs.Heights.{height, heights, count}

-- trees of one top differ where their parts do
pub begun : (a b : Top) (ps qs : Parts) (x y : Tree) (same : Bool) → tree a ps ≡ x → tree b qs ≡ y → same ≡ same_top a b → same ≡ true
    → first_in x y ≡ first_among ps qs
begun a b ps qs x y same left right told is = rw (← left, ← right, ← told, is) refl

-- what is gone through nests less deep than the whole
pub begun_below : (a : Top) (ps : Parts) (x : Tree) → tree a ps ≡ x → heights ps < height x
begun_below a ps x is = rw (← is) (omega arith)

-- a part that both have, and what is left behind it
pub both : (ps qs more others : Parts) (s t : Step) (x y : Tree) (found : Option (List Step)) → ps ≡ part s x more → step_cmp s t ≡ Equal → qs ≡ part t y others → found ≡ first_in x y
    → (found ≡ None → first_among ps qs ≡ first_among more others) × ((path : List Step) → found ≡ Some path → first_among ps qs ≡ Some (s ∷ path))
both ps qs more others s t x y found left same right is = (
  λ none. rw (left, right, same, ← is, none) refl,
  λ path some. rw (left, right, same, ← is, some) refl,
)

-- a part nests less deep than the whole, and so does what is left behind it
pub part_below : (ps more : Parts) (s : Step) (x whole : Tree) → ps ≡ part s x more → heights ps < height whole
    → (height x < height whole) × (heights more < height whole) × (count more < count ps)
part_below ps more s x whole is below =
    let most : max (height x) (heights more) < height whole = rw is at below in
    let left = le-max_left (height x) (heights more) in
    let right = le-max_right (height x) (heights more) in
    let counted : count ps ≡ suc (count more) = ap count is in
    (omega (arith, left, most), omega (arith, right, most), omega (arith, counted))

-- a path of one step
pub alone : {s : Step} (path : Vec PathPart Global) → path.items ≡ [] → Some (s ∷ path_of path) ≡ Some (s ∷ [])
alone path is = rw is refl
