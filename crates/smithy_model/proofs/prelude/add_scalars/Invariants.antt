use Rattle.std.proofs.Common.{◌≡◌, ◌++◌, map, take}
use Rattle.smithy_model.specs.Prelude.{scalar_names, scalar_shape}
use Rattle.smithy_model.specs.Views.{shape_view}
use Rattle.smithy_model.proofs.prelude.add_scalars.Given as goal

abbrev pub invariant-loop-named : goal.invariant-loop-named
invariant-loop-named l = record {
  named : map (λ t. (t.0.now, t.1.now)) l.named-items ≡ scalar_names;
  so_far : map shape_view l.shapes.items ≡ map shape_view l.initial.shapes.items ++ map scalar_shape (map (λ t. (t.0.now, t.1.now)) (take l.named-index l.named-items));
}
