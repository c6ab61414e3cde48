use Rattle.std.proofs.Common.{Some, sym, ◌∙◌, ap}
use Rattle.std.proofs.lemmas.Result.{err_from_is_err_and}
use Rattle.smithy_transcode.specs.Wires.{wire_of}
use Rattle.smithy_replay.specs.LineBodies.{body_of}
use Rattle.smithy_replay.proofs.LineLemmas.{plain_body, line_gives, line_refused}
use Rattle.smithy_replay.proofs.line_bodies.transcode_line.Goals as goal

pub returns-in_err-body : goal.returns-in_err-body
returns-in_err-body c =
    let from = wire_of c.args.from.now in
    let line = c.args.line.now in
    let at = ap (λ w. body_of (wire_of w) line) c.in-Cbor.is in
    let told = c.in_err-body.ensures in
    let p = err_from_is_err_and c.from_residual.result c.from_residual.ensures.1 in
    rw (p.1, p.2) (line_refused c.args.shapes.now c.args.root.0 from (wire_of c.args.to.now) line c.in_err-body.field-0.0 (λ is. at ∙ told.invalid is) told.other)

pub returns-in-Cbor : goal.returns-in-Cbor
returns-in-Cbor c =
    let line = c.args.line.now in
    let at = ap (λ w. body_of (wire_of w) line) c.in-Cbor.is in
    line_gives c.args.shapes.now c.args.root.0 (wire_of c.args.from.now) (wire_of c.args.to.now) line c.deref.result.now c.transcode.result c.len.ensures.accepted (at ∙ c.in_ok-body.ensures.ok ∙ ap Some (sym c.deref.ensures.value)) c.transcode.ensures

pub returns : goal.returns
returns c =
    line_gives c.args.shapes.now c.args.root.0 (wire_of c.args.from.now) (wire_of c.args.to.now) c.args.line.now c.args.line.now c.transcode-2.result c.len.ensures.accepted (plain_body c.args.from.now c.args.line.now c.in_default.not-Cbor) c.transcode-2.ensures
