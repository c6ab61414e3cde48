use Rattle.std.proofs.Common.{◌≡◌, ◌≤◌, ◌-◌, ℕ, ◌++◌, length, take}
use Rattle.std.specs.Prelude.{Bool, true, flat_map}
use Rattle.std.specs.List.{list_all}
use Rattle.smithy_model.specs.Views.{model_view}
use Rattle.smithy_model_table.specs.Reaching.{targets_at, HoldsAlong}
use Rattle.smithy_model_table.specs.Visiting.{AreVisited}
use Rattle.smithy_model_table.proofs.reached.reached.Given as goal

-- what came so far: the roots, and what the first shapes lead to
abbrev pub invariant-loop-turn : goal.invariant-loop-turn
invariant-loop-turn l = record {
  visited : AreVisited (length (model_view l.model).shapes) (l.roots ++ flat_map (targets_at (model_view l.model) l.marks) (take l.turn l.order.items)) l.seen.items l.order.items;
  inside : l.turn ≤ length l.order.items;
  fewest : (test : ℕ → Bool) → HoldsAlong (model_view l.model) l.marks l.roots test
      → list_all test (l.roots ++ flat_map (targets_at (model_view l.model) l.marks) (take l.turn l.order.items)) ≡ true;
}

-- each turn goes on by one shape
abbrev pub decreases-loop-turn : goal.decreases-loop-turn
decreases-loop-turn l = length (model_view l.model).shapes - l.turn
