use Rattle.std.proofs.Common.{[], ◌∷◌, map}
use Rattle.std.proofs.lemmas.List.{map-append}
use Rattle.smithy_model.specs.Prelude.{scalar_shape}
use Rattle.smithy_model.specs.Views.{shape_view}
use Rattle.smithy_model.proofs.Behind.{one_behind}
use Rattle.smithy_model.proofs.prelude.add_scalars.Goals as goal

pub loop-named-preserved : goal.loop-named-preserved
loop-named-preserved c = record {
  named = c.loop-named.invariant.named;
  so_far = rw (c.in_ok-push.ensures.items, map-append shape_view c.loop-named.shapes.items (c.scalar.result ∷ []))
      (one_behind scalar_shape (λ t. (t.0.now, t.1.now)) _ c.loop-named.named-index _ (map shape_view c.args.shapes.now.items) (map shape_view c.loop-named.shapes.items)
      (shape_view c.scalar.result) c.loop-named-test.true c.loop-named.invariant.so_far c.scalar.ensures);
}
