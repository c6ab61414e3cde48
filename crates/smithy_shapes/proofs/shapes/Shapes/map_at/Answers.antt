use Rattle.std.proofs.Common.{rules}
use Rattle.smithy_shapes.specs.Views.{map_shape_of}
use Rattle.smithy_shapes.proofs.Closed.{values_known}
use Rattle.smithy_shapes.proofs.shapes.Shapes.map_at.Goals as goal

pub returns-in-Some-Map-clause-known : goal.returns-in-Some-Map-clause-known
returns-in-Some-Map-clause-known c = values_known c.args.self.now c.args.at.0 (map_shape_of c.in-Some-Map.map) c.shape_at.ensures.accepted.is_closed (search rules)
