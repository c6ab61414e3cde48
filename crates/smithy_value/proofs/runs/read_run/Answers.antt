use Rattle.std.proofs.Common.{[], refl, sym, inl}
use Rattle.std.proofs.lemmas.List.{append-nil}
use Rattle.smithy_value.proofs.runs.read_run.Goals as goal

-- the elements are of another kind
pub returns : goal.returns
returns g c = record {
  same = refl;
  numbers = [];
  longs = inl refl;
  turn = refl;
  shown = sym (append-nil (g.P.Trees.view_elements c.args.trees.now c.args.elements.now));
  begun = λ s begun. begun;
  memory = tt;
}
