-- A pool that grows.
use Rattle.std.proofs.Common.{◌≡◌, ◌∙◌, refl, ap, sym, ℕ, ℤ, List, ◌++◌, append_assoc, [], length, arith}
use Rattle.std.proofs.lemmas.List.{append-nil}
use Rattle.std.specs.Prelude.{map as mapped}
use Rattle.smithy_declarations.specs.Value.{Value}
use Rattle.smithy_tree.specs.Items.{Item}
use Rattle.smithy_tree.specs.Seen.{store, values, view, Holds, Grows, IsSound}
use Rattle.smithy_tree.specs.Nodes.{IsNode, rare_value}
use Rattle.smithy_tree.specs.declared.node.Node.{Node}
use Rattle.smithy_tree.specs.declared.pool.Pool.{Pool}
use Rattle.smithy_tree.proofs.Growing.{length_values_after, value_stays}
use Rattle.smithy_tree.proofs.Storing.{value_kept}

pub grows_twice : (p q r : Pool) → Grows p q → Grows q r → Grows p r
grows_twice p q r a b = record {
  sound = b.sound;
  input = b.input ∙ a.input;
  copied = a.copied ++ b.copied;
  side = b.side ∙ (ap (λ (ts : List ℕ). ts ++ b.copied) a.side ∙ append_assoc p.side.items a.copied b.copied);
  kept = a.kept ++ b.kept;
  rare = b.rare ∙ (ap (λ (rs : List Value). rs ++ b.kept) a.rare ∙ append_assoc (mapped rare_value p.rare.items) a.kept b.kept);
  counted = a.counted ++ b.counted;
  numbers = b.numbers ∙ (ap (λ (ns : List ℤ). ns ++ b.counted) a.numbers ∙ append_assoc p.numbers.items a.counted b.counted);
  more = a.more ++ b.more;
  values = b.values ∙ (ap (λ (vs : List Item). vs ++ b.more) a.values ∙ append_assoc (values p) a.more b.more);
}

pub grows_self : (p : Pool) → IsSound p → Grows p p
grows_self p s = record {
  sound = s;
  input = refl;
  copied = [];
  side = sym (append-nil p.side.items);
  kept = [];
  rare = sym (append-nil (mapped rare_value p.rare.items));
  counted = [];
  numbers = sym (append-nil p.numbers.items);
  more = [];
  values = sym (append-nil (values p));
}

-- a node that was there is seen as before
pub seen_as_before : (p q : Pool) (n : Node) → Grows p q → Holds p n → view q n ≡ view p n
seen_as_before p q n g h =
    let l : length p.nodes.items ≡ length (values p) = omega (arith, length_values_after (store p) [] p.nodes.items) in
    let k : IsNode (store p) (length (values p)) n = rw (← l) h in
    rw (g.values, g.input, g.side, g.rare, g.numbers) (value_kept (store p) g.copied g.kept g.counted (values p ++ g.more) (length p.nodes.items) n h ∙ value_stays (store p) (values p) g.more n k)
