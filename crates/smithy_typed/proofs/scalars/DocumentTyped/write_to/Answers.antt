use Rattle.smithy_types.specs.Document.{whole_document}
use Rattle.smithy_types.specs.DocumentView.{document_view}
use Rattle.smithy_shapes.specs.Site.{site_of}
use Rattle.smithy_schema.specs.Writing.{document_of}
use Rattle.smithy_typed.proofs.ScalarReads.{event_written}
use Rattle.smithy_typed.proofs.scalars.DocumentTyped.write_to.Goals as goal

pub returns : goal.returns
returns g c =
    record { writes = event_written g.S.ShapeSerializer.after (document_of (site_of c.args.schema.now) (whole_document (document_view c.args.self.now))) _ _ _ _ c.write_document.result c.requires.sound c.write_document.ensures }
