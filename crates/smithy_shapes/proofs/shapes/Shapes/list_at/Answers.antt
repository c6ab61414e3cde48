use Rattle.std.proofs.Common.{rules}
use Rattle.smithy_shapes.specs.Views.{list_shape_of}
use Rattle.smithy_shapes.proofs.Closed.{elements_known}
use Rattle.smithy_shapes.proofs.shapes.Shapes.list_at.Goals as goal

pub returns-in-Some-List-clause-known : goal.returns-in-Some-List-clause-known
returns-in-Some-List-clause-known c = elements_known c.args.self.now c.args.at.0 (list_shape_of c.in-Some-List.list) c.shape_at.ensures.accepted.is_closed (search rules)
