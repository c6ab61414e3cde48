use Rattle.std.proofs.Common.{[]}
use Rattle.smithy_value.specs.View.{view}
use Rattle.smithy_transcode.specs.Wires.{wire_of}
use Rattle.smithy_transcode.proofs.BodiesWritten.{body_lacking, body_written, body_unwritten}
use Rattle.smithy_transcode.proofs.Transcodings.{fits_at_root, unfit_at_root}
use Rattle.smithy_transcode.proofs.whole_output.write_body.Goals as goal

pub unfit-requires : goal.unfit-requires
unfit-requires c = record {
  sound = ([], tt);
  stands = tt;
  fits = fits_at_root c.schema.result c.args.shapes.now c.args.root.0 (view c.args.value.now) c.schema.ensures.site c.requires.fits;
}

pub write_whole-requires-clause-stored : goal.write_whole-requires-clause-stored
write_whole-requires-clause-stored c = ([], tt)

pub returns-in-Some : goal.returns-in-Some
returns-in-Some c =
    body_lacking c.args.shapes.now c.args.root.0 (wire_of c.args.to.now) (view c.args.value.now) c.in-Some.lacking
    (unfit_at_root (wire_of c.args.to.now) c.schema.result c.args.shapes.now c.args.root.0 (view c.args.value.now) c.unfit.result _ c.schema.ensures.site c.unfit.ensures.unfit c.in-Some.is)

pub write_whole-requires-clause-fit : goal.write_whole-requires-clause-fit
write_whole-requires-clause-fit c =
    unfit_at_root (wire_of c.args.to.now) c.schema.result c.args.shapes.now c.args.root.0 (view c.args.value.now) c.unfit.result _ c.schema.ensures.site c.unfit.ensures.unfit c.in_default.is

pub write_whole-requires-clause-positions : goal.write_whole-requires-clause-positions
write_whole-requires-clause-positions c = c.unfit.ensures.positions c.in_default.is

pub returns-in-Ok : goal.returns-in-Ok
returns-in-Ok c =
    body_written c.args.shapes.now c.args.root.0 (wire_of c.args.to.now) (view c.args.value.now) c.in-Ok.body
    (unfit_at_root (wire_of c.args.to.now) c.schema.result c.args.shapes.now c.args.root.0 (view c.args.value.now) c.unfit.result _ c.schema.ensures.site c.unfit.ensures.unfit c.in_default.is) c.in-Ok.ensures.ok

pub returns-in-Err : goal.returns-in-Err
returns-in-Err c =
    body_unwritten c.args.shapes.now c.args.root.0 (wire_of c.args.to.now) (view c.args.value.now) c.in-Err.error c.refusal.result
    (unfit_at_root (wire_of c.args.to.now) c.schema.result c.args.shapes.now c.args.root.0 (view c.args.value.now) c.unfit.result _ c.schema.ensures.site c.unfit.ensures.unfit c.in_default.is)
    c.in-Err.ensures.err c.refusal.ensures
