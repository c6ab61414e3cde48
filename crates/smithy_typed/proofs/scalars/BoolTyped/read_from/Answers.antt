use Rattle.smithy_declarations.specs.declared.shape_type.Scalar.TheVariants as scalars
use Rattle.smithy_declarations.specs.Value.{boolean}
use Rattle.smithy_shapes.specs.Site.{site_of}
use Rattle.smithy_typed.proofs.ScalarReads.{scalar_read}
use Rattle.smithy_typed.proofs.scalars.BoolTyped.read_from.Goals as goal

pub returns-clause-reads : goal.returns-clause-reads
returns-clause-reads g c = scalar_read scalars.Boolean boolean _ _ _ (site_of c.args.schema.now) c.read_boolean.result c.requires.there c.requires.due c.read_boolean.ensures.read
