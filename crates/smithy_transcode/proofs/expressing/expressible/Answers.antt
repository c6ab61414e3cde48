use Rattle.std.proofs.Common.{[]}
use Rattle.smithy_value.specs.View.{view}
use Rattle.smithy_transcode.proofs.Transcodings.{fits_at_root}
use Rattle.smithy_transcode.proofs.expressing.expressible.Goals as goal

-- nothing is stored beside a value
pub unfit-requires : goal.unfit-requires
unfit-requires c = record {
  sound = ([], tt);
  stands = tt;
  fits = fits_at_root c.schema.result c.args.shapes.now c.args.root.0 (view c.args.value.now) c.schema.ensures.site c.requires.fits;
}
