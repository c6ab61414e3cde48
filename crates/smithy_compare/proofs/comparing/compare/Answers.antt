use Rattle.smithy_transcode.specs.Wires.{wire_of}
use Rattle.smithy_compare.proofs.Answers.{compared, first_refused, second_refused}
use Rattle.smithy_compare.proofs.comparing.compare.Goals as goal

pub returns-in-Err : goal.returns-in-Err
returns-in-Err c =
    first_refused c.args.shapes.now c.args.root.0 (wire_of c.args.wire1.now) c.args.body1.now (wire_of c.args.wire2.now) c.args.body2.now c.in-Err.error c.of_first.result c.of_first.ensures c.in-Err.ensures.read.refused

pub returns-in-Err-read_body_into : goal.returns-in-Err-read_body_into
returns-in-Err-read_body_into c =
    second_refused c.args.shapes.now c.args.root.0 (wire_of c.args.wire1.now) c.args.body1.now (wire_of c.args.wire2.now) c.args.body2.now _ c.in-Err-read_body_into.error c.of_second.result c.of_second.ensures
    c.in-Ok.ensures.read.ok c.in-Err-read_body_into.ensures.read.refused

pub returns : goal.returns
returns c =
    compared c.args.shapes.now c.args.root.0 (wire_of c.args.wire1.now) c.args.body1.now (wire_of c.args.wire2.now) c.args.body2.now _ _ c.values_compared.result
    c.in-Ok.ensures.read.ok c.in-Ok-read_body_into.ensures.read.ok c.values_compared.ensures
