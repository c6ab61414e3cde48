use Rattle.smithy_declarations.specs.declared.shape_type.Scalar.TheVariants as scalars
use Rattle.smithy_declarations.specs.Value.{bytes}
use Rattle.smithy_shapes.specs.Site.{site_of}
use Rattle.smithy_typed.proofs.ScalarReads.{scalar_read}
use Rattle.smithy_typed.proofs.scalars.BlobTyped.read_from.Goals as goal

pub returns-clause-reads : goal.returns-clause-reads
returns-clause-reads g c = scalar_read scalars.Blob bytes _ _ _ (site_of c.args.schema.now) c.read_blob.result c.requires.there c.requires.due c.read_blob.ensures.read
