use Rattle.std.proofs.Common.{string_bytes}
use Rattle.smithy_declarations.specs.declared.shape_type.Scalar.TheVariants as scalars
use Rattle.smithy_declarations.specs.Value.{text}
use Rattle.smithy_shapes.specs.Site.{site_of}
use Rattle.smithy_typed.proofs.ScalarReads.{scalar_read}
use Rattle.smithy_typed.proofs.scalars.StringTyped.read_from.Goals as goal

pub returns-clause-reads : goal.returns-clause-reads
returns-clause-reads g c = scalar_read scalars.String (λ s. text (string_bytes s)) _ _ _ (site_of c.args.schema.now) c.read_string.result c.requires.there c.requires.due c.read_string.ensures.read
