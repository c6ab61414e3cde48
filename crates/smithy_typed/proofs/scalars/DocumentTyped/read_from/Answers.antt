use Rattle.smithy_shapes.specs.Site.{site_of}
use Rattle.smithy_typed.proofs.ScalarReads.{document_read}
use Rattle.smithy_typed.proofs.scalars.DocumentTyped.read_from.Goals as goal

pub returns-clause-reads : goal.returns-clause-reads
returns-clause-reads g c = document_read _ _ _ (site_of c.args.schema.now) c.read_document.result c.requires.there c.requires.due c.read_document.ensures.read
