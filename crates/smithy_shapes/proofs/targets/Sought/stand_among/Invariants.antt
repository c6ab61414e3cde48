use Rattle.std.proofs.Common.{◌≡◌, map, drop}
use Rattle.std.specs.List.{list_any}
use Rattle.smithy_declarations.specs.Table.{Member}
use Rattle.smithy_shapes.specs.Views.{member_of}
use Rattle.smithy_shapes.specs.Private.Sought.{is_sought}
use Rattle.smithy_shapes.proofs.targets.Sought.stand_among.Given as goal

abbrev pub invariant-loop-member : goal.invariant-loop-member
invariant-loop-member l =
    list_any (λ (m : Member). is_sought l.self m.place.target) (map member_of (drop l.member-index l.members))
    ≡ list_any (λ (m : Member). is_sought l.self m.place.target) (map member_of l.members)
