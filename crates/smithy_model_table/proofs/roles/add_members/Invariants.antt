use Rattle.std.proofs.Common.{map, take, ◌==◌}
use Rattle.std.specs.List.{list_any}
use Rattle.smithy_model.specs.Model.{Member}
use Rattle.smithy_model.specs.Views.{member_view}
use Rattle.smithy_model_table.specs.Roles.{has_number, Gains}
use Rattle.smithy_model_table.proofs.roles.add_members.Given as goal

-- the targets so far
abbrev pub invariant-loop-member : goal.invariant-loop-member
invariant-loop-member l =
    Gains (λ other. list_any (λ (part : Member). part.number == other) (map member_view (take l.member-index l.members))) (has_number l.initial.numbers)
    (has_number l.numbers)
