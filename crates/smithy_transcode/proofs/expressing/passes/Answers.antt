use Rattle.smithy_shapes.specs.Site.{site_of}
use Rattle.smithy_transcode.proofs.ValuesPass.{passes_unseen}
use Rattle.smithy_transcode.proofs.expressing.passes.Goals as goal

pub returns : goal.returns
returns g c = passes_unseen c.args.test.now (site_of c.args.schema.now) (g.P.Trees.view c.args.trees.now c.args.value.now) c.can_fail.result c.can_fail.ensures c.if-can_fail.false c.requires.fits
