use Rattle.std.proofs.Common.{◌≡◌, ◌<◌, ◌∙◌, List, ℕ, Bor, [], ◌∷◌, ◌++◌, length, map, take, get_or, sym, ap, ap₂, subst}
use Rattle.std.proofs.lemmas.List.{map-append}
use Rattle.smithy_model.specs.Views.{model_view, shape_view}
use Rattle.smithy_model_table.specs.Naming.{name_of_shape}
use Rattle.smithy_model_table.proofs.Shared.{next_of, name_is}
use Rattle.smithy_model_table.proofs.names.Names.of.Goals as goal

pub loop-shape-preserved : goal.loop-shape-preserved
loop-shape-preserved c =
    let same = c.deref-shape-items.ensures.value in
    let m = model_view c.args.model.now in
    let ws = c.args.model.now.shapes.items in
    let i = c.loop-shape.shape-index in
    let within = subst (λ xs. i < length xs) same c.loop-shape-test.true in
    let is = subst (λ xs. c.shape-item.result ≡ get_or xs i c.shape-item.result) same c.shape-item.is in
    let one = name_is m (shape_view c.shape-item.result) c.in_ok-shared.shared c.name_for.result.now c.in_ok-shared.ensures c.name_for.ensures in
    rw (c.in_ok-push.ensures.items, map-append (λ (t : Bor (List ℕ)). t.now) c.loop-shape.names.items (c.name_for.result ∷ []))
    (ap₂ (λ (xs : List (List ℕ)) (x : List ℕ). xs ++ x ∷ []) c.loop-shape.invariant one
    ∙ sym (map-append (name_of_shape m) (map shape_view (take i ws)) (shape_view c.shape-item.result ∷ []))
    ∙ ap (map (name_of_shape m)) (next_of shape_view ws i c.shape-item.result within is))
