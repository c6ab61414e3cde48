use Rattle.smithy_value.specs.Pooled.{slot_view as seen_in}
use Rattle.smithy_transcode.specs.Wires.{wire_of}
use Rattle.smithy_transcode.proofs.PoolBodies.{pool_of_itself}
use Rattle.smithy_transcode.proofs.Transcodings.{spelled_is_small, fits_at_root, unfit_at_root, has_byte_texts, unwritten, written, lacking, refused}
use Rattle.smithy_transcode.proofs.transcoding.transcode.Goals as goal

pub returns-in-Err : goal.returns-in-Err
returns-in-Err c =
    refused c.args.shapes.now c.args.root.0 (wire_of c.args.from.now) c.args.input.now (wire_of c.args.to.now) c.read_whole.result c.in-Err.error c.refusal.result c.in-Err.is c.refusal.ensures
    c.read_whole.ensures.read.refused c.read_whole.ensures.read.none_without_limits c.read_whole.ensures.read.deep c.read_whole.ensures.read.wide c.read_whole.ensures.read.uncarried

pub returns-in-Some : goal.returns-in-Some
returns-in-Some c =
    lacking c.args.shapes.now c.args.root.0 (wire_of c.args.from.now) c.args.input.now (wire_of c.args.to.now) (seen_in c.read_whole.new.pool c.in-Ok.value) c.in-Some.lacking c.in-Ok.ensures.read.ok
    (unfit_at_root (wire_of c.args.to.now) c.schema.result c.args.shapes.now c.args.root.0 (seen_in c.read_whole.new.pool c.in-Ok.value) c.unfit.result _ c.schema.ensures.site c.unfit.ensures.unfit c.in-Some.is)

pub unfit-requires : goal.unfit-requires
unfit-requires c =
    let small = spelled_is_small (wire_of c.args.from.now) c.args.shapes.now c.args.root.0 c.args.input.now (seen_in c.read_whole.new.pool c.in-Ok.value) c.in-Ok.ensures.read.ok in
    record {
      sound = pool_of_itself c.read_whole.new.pool c.in-Ok.ensures.sound.0;
      stands = c.in-Ok.ensures.sound.1;
      fits = fits_at_root c.schema.result c.args.shapes.now c.args.root.0 (seen_in c.read_whole.new.pool c.in-Ok.value) c.schema.ensures.site small.0;
    }

pub write_whole-requires-clause-stored : goal.write_whole-requires-clause-stored
write_whole-requires-clause-stored c = pool_of_itself c.read_whole.new.pool c.in-Ok.ensures.sound.0

pub write_whole-requires-clause-stands : goal.write_whole-requires-clause-stands
write_whole-requires-clause-stands c = c.in-Ok.ensures.sound.1

pub write_whole-requires-clause-fits : goal.write_whole-requires-clause-fits
write_whole-requires-clause-fits c =
    (spelled_is_small (wire_of c.args.from.now) c.args.shapes.now c.args.root.0 c.args.input.now (seen_in c.read_whole.new.pool c.in-Ok.value) c.in-Ok.ensures.read.ok).0

pub write_whole-requires-clause-fit : goal.write_whole-requires-clause-fit
write_whole-requires-clause-fit c =
    unfit_at_root (wire_of c.args.to.now) c.schema.result c.args.shapes.now c.args.root.0 (seen_in c.read_whole.new.pool c.in-Ok.value) c.unfit.result _ c.schema.ensures.site c.unfit.ensures.unfit c.in_default.is

pub write_whole-requires-clause-positions : goal.write_whole-requires-clause-positions
write_whole-requires-clause-positions c = c.unfit.ensures.positions c.in_default.is

pub returns-in-Ok-write_whole : goal.returns-in-Ok-write_whole
returns-in-Ok-write_whole c =
    written c.args.shapes.now c.args.root.0 (wire_of c.args.from.now) c.args.input.now (wire_of c.args.to.now) (seen_in c.read_whole.new.pool c.in-Ok.value) c.in-Ok-write_whole.body
    c.schema.ensures.accepted c.requires.root c.in-Ok.ensures.read.ok
    (unfit_at_root (wire_of c.args.to.now) c.schema.result c.args.shapes.now c.args.root.0 (seen_in c.read_whole.new.pool c.in-Ok.value) c.unfit.result _ c.schema.ensures.site c.unfit.ensures.unfit c.in_default.is) (c.unfit.ensures.positions c.in_default.is)
    (has_byte_texts c.args.to.now) c.in-Ok-write_whole.ensures.ok c.in-Ok-write_whole.ensures.short

pub returns : goal.returns
returns c =
    unwritten c.args.shapes.now c.args.root.0 (wire_of c.args.from.now) c.args.input.now (wire_of c.args.to.now) c.in-Err-write_whole.error c.refusal-in-Err-write_whole.result
    c.in-Err-write_whole.ensures.err c.refusal-in-Err-write_whole.ensures
