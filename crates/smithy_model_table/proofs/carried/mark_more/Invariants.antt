use Rattle.std.proofs.Common.{◌≡◌, ◌<◌, ◌≤◌, ℕ, length, true, false, Some, slice_get}
use Rattle.smithy_model.specs.Model.{Shape}
use Rattle.smithy_model.specs.Views.{model_view}
use Rattle.smithy_model_table.specs.Leaving.{is_marked, is_uncarried, IsNoFurther}
use Rattle.smithy_model_table.specs.Marking.{AreSupported, count_of_unmarked}
use Rattle.smithy_model_table.proofs.carried.mark_more.Given as goal

-- the marks so far, which are those at first where none was found
abbrev pub invariant-loop-number : goal.invariant-loop-number
invariant-loop-number l = record {
  further : IsNoFurther (model_view l.model) l.initial.marks.items l.marks.items;
  supported : AreSupported (model_view l.model) l.initial.marks.items → AreSupported (model_view l.model) l.marks.items;
  long : length l.marks.items ≡ length l.initial.marks.items;
  no_more : count_of_unmarked l.marks.items ≤ count_of_unmarked l.initial.marks.items;
  fewer : l.found ≡ true → count_of_unmarked l.marks.items < count_of_unmarked l.initial.marks.items;
  closed : l.found ≡ false → (k : ℕ) (s : Shape) → k < l.number → slice_get (model_view l.model).shapes k ≡ Some s
      → is_uncarried l.marks.items s.kind ≡ true → is_marked l.marks.items k ≡ true;
}
