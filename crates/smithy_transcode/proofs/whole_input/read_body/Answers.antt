use Rattle.smithy_value.specs.View.{view}
use Rattle.smithy_transcode.specs.Wires.{wire_of}
use Rattle.smithy_transcode.proofs.BodiesRead.{body_read, body_refused}
use Rattle.smithy_transcode.proofs.whole_input.read_body.Goals as goal

pub returns-in-Ok : goal.returns-in-Ok
returns-in-Ok c =
    body_read view c.args.shapes.now c.args.root.0 (wire_of c.args.from.now) c.args.input.now c.in-Ok.value c.in-Ok.ensures.ok

pub returns-in-Err : goal.returns-in-Err
returns-in-Err c =
    body_refused view c.args.shapes.now c.args.root.0 (wire_of c.args.from.now) c.args.input.now c.read_whole_value.result c.in-Err.error c.refusal.result c.in-Err.is c.refusal.ensures
    c.read_whole_value.ensures.refused c.read_whole_value.ensures.none_without_limits c.read_whole_value.ensures.deep c.read_whole_value.ensures.wide c.read_whole_value.ensures.uncarried
