use Rattle.std.proofs.Common.{◌≡◌, List, length}
use Rattle.std.specs.Prelude.{Bool}
use Rattle.smithy_model.specs.Views.{model_view}
use Rattle.smithy_model_table.specs.Leaving.{AreSettled, AreAmong}
use Rattle.smithy_model_table.specs.Marking.{AreSupported, count_of_unmarked}
use Rattle.smithy_model_table.proofs.carried.uncarried.Given as goal

-- the marks so far
abbrev pub invariant-loop : goal.invariant-loop
invariant-loop l = record {
  among : (others : List Bool) → AreSettled (model_view l.model) others → AreAmong l.marks.items others;
  supported : AreSupported (model_view l.model) l.marks.items;
  long : length l.marks.items ≡ length l.model.shapes.items;
}

-- each turn but the last marks a shape
abbrev pub decreases-loop : goal.decreases-loop
decreases-loop l = count_of_unmarked l.marks.items
