use Rattle.std.proofs.Common.{◌≡◌, ◌<◌, List, length, map, take, get_or, subst}
use Rattle.smithy_model.specs.Views.{shape_view}
use Rattle.smithy_model.specs.Model.{Shape}
use Rattle.smithy_model_table.specs.Roles.{AreShared}
use Rattle.smithy_model_table.proofs.Shared.{next_of}
use Rattle.smithy_model_table.proofs.names.shared_names.Goals as goal

pub loop-shape-preserved : goal.loop-shape-preserved
loop-shape-preserved c =
    let same = c.deref-shape-items.ensures.value in
    let ws = c.args.model.now.shapes.items in
    let i = c.loop-shape.shape-index in
    let within = subst (λ xs. i < length xs) same c.loop-shape-test.true in
    let is = subst (λ xs. c.shape-item.result ≡ get_or xs i c.shape-item.result) same c.shape-item.is in
    subst (λ (ss : List Shape). AreShared ss c.add_shape.new.there c.add_shape.new.shared) (next_of shape_view ws i c.shape-item.result within is)
    (c.in_ok-add_shape.ensures (map shape_view (take i ws)) c.loop-shape.invariant)
