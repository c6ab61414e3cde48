use Rattle.smithy_declarations.specs.Value.{instant}
use Rattle.smithy_shapes.specs.Site.{site_of}
use Rattle.smithy_schema.specs.Writing.{scalar_of}
use Rattle.smithy_typed.proofs.ScalarReads.{event_written}
use Rattle.smithy_typed.proofs.scalars.DateTimeTyped.write_to.Goals as goal

pub returns : goal.returns
returns g c =
    record { writes = event_written g.S.ShapeSerializer.after (scalar_of (site_of c.args.schema.now) (instant c.args.self.now)) _ _ _ _ c.write_timestamp.result c.requires.sound c.write_timestamp.ensures }
