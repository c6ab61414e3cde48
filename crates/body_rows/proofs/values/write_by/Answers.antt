use Rattle.smithy_value.specs.View.{view}
use Rattle.smithy_transcode.proofs.Transcodings.{fits_at_root}
use Rattle.body_rows.proofs.values.write_by.Goals as goal

-- a value of the root may stand where a null may too
pub write_value-requires : goal.write_value-requires
write_value-requires g c = record {
  fits = fits_at_root c.schema-schema.result c.args.shapes.now c.args.root.0 (view c.args.value.now) c.schema-schema.ensures.site c.requires.fits;
}
