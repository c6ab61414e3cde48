use Rattle.std.proofs.Common.{map, take, ◌==◌}
use Rattle.std.specs.List.{list_any}
use Rattle.smithy_model.specs.Model.{Reference}
use Rattle.smithy_model.specs.Views.{reference_view}
use Rattle.smithy_model_table.specs.Roles.{has_number, Gains}
use Rattle.smithy_model_table.proofs.roles.add_all.Given as goal

-- the numbers so far
abbrev pub invariant-loop-reference : goal.invariant-loop-reference
invariant-loop-reference l =
    Gains (λ other. list_any (λ (r : Reference). r.number == other) (map reference_view (take l.reference-index l.given))) (has_number l.initial.numbers)
    (has_number l.numbers)
