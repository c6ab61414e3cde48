use Rattle.std.proofs.Common.{map, take, false}
use Rattle.std.specs.List.{list_any}
use Rattle.smithy_model.specs.Model.{Shape}
use Rattle.smithy_model.specs.Views.{shape_view}
use Rattle.smithy_model_table.specs.Bindings.{leads_to}
use Rattle.smithy_model_table.specs.Roles.{has_number, Gains}
use Rattle.smithy_model_table.proofs.roles.nested.Given as goal

-- the targets so far
abbrev pub invariant-loop-shape : goal.invariant-loop-shape
invariant-loop-shape l =
    Gains (λ number. list_any (λ (s : Shape). leads_to number s.kind) (map shape_view (take l.shape-index l.model.shapes.items))) (λ _. false)
    (has_number l.numbers)
