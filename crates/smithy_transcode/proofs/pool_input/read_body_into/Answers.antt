use Rattle.smithy_value.specs.Pooled.{slot_view}
use Rattle.smithy_transcode.specs.Wires.{wire_of}
use Rattle.smithy_transcode.proofs.BodiesRead.{body_read, body_refused}
use Rattle.smithy_transcode.proofs.pool_input.read_body_into.Goals as goal

pub returns-in-Ok-clause-read : goal.returns-in-Ok-clause-read
returns-in-Ok-clause-read c =
    body_read (slot_view c.read_whole.new.pool) c.args.shapes.now c.args.root.0 (wire_of c.args.from.now) c.args.input.now c.in-Ok.slot c.in-Ok.ensures.read.ok

pub returns-in-Err-clause-read : goal.returns-in-Err-clause-read
returns-in-Err-clause-read c =
    let read = c.read_whole.ensures.read in
    body_refused (slot_view c.read_whole.new.pool) c.args.shapes.now c.args.root.0 (wire_of c.args.from.now) c.args.input.now c.read_whole.result c.in-Err.error c.refusal.result c.in-Err.is c.refusal.ensures
    read.refused read.none_without_limits read.deep read.wide read.uncarried
