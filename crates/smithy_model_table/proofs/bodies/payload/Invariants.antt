use Rattle.std.proofs.Common.{◌≡◌, map, drop}
use Rattle.std.specs.List.{find}
use Rattle.smithy_model.specs.Model.{Member}
use Rattle.smithy_model.specs.Views.{member_view}
use Rattle.smithy_model_table.proofs.bodies.payload.Given as goal

abbrev pub invariant-loop-member : goal.invariant-loop-member
invariant-loop-member l =
    find (λ (p : Member). p.is_payload) (map member_view (drop l.member-index l.members))
    ≡ find (λ (p : Member). p.is_payload) (map member_view l.members)
