use Rattle.smithy_shapes.specs.Views.{member_of}
use Rattle.smithy_shapes.proofs.Closed.{member_if_known}
use Rattle.smithy_shapes.proofs.shapes.Shapes.member_at.Goals as goal

pub returns-clause-known : goal.returns-clause-known
returns-clause-known c =
    member_if_known (λ m. member_of m.now) c.args.self.now c.args.at.0 c.args.position c.find_member.result c.find_member.ensures.closed c.find_member.ensures.found
