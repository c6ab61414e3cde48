use Rattle.std.proofs.Common.{◌≡◌, ◌++◌, map, take, flat_map}
use Rattle.std.specs.Prelude.{option_to_list}
use Rattle.smithy_model.specs.Model.{Reference}
use Rattle.smithy_model.specs.Views.{model_view, reference_view}
use Rattle.smithy_model_table.specs.Wanted.{body_at}
use Rattle.smithy_model_table.proofs.bodies.add_errors.Given as goal

-- the bodies so far
abbrev pub invariant-loop-error : goal.invariant-loop-error
invariant-loop-error l =
    l.roots.items ≡ l.initial.roots.items ++ flat_map (λ (r : Reference). option_to_list (body_at (model_view l.model) r.number)) (map reference_view (take l.error-index l.errors))
