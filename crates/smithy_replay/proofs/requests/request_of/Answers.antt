use Rattle.std.proofs.Common.{false, sym, ◌∙◌, ap, subst}
use Rattle.std.proofs.lemmas.Result.{err_from_is_err_and}
use Rattle.smithy_transcode.specs.Wires.{json, query, unfit}
use Rattle.smithy_transcode.specs.Private.Positions.{CanCount}
use Rattle.smithy_transcode.proofs.Transcodings.{lacking}
use Rattle.smithy_value.specs.View.{view}
use Rattle.smithy_replay.proofs.RequestLemmas.{body_refused, out_of_memory, byte_texts, request_transcodes}
use Rattle.smithy_replay.proofs.requests.request_of.Goals as goal

pub returns-in_err-value-clause-transcodes : goal.returns-in_err-value-clause-transcodes
returns-in_err-value-clause-transcodes c =
    let p = err_from_is_err_and c.from_residual.result c.from_residual.ensures.1 in
    rw (p.1, p.2) (body_refused c.args.shapes.now c.args.root.0 (json false false) c.args.line.now (query c.args.action.now c.args.version.now) c.in_err-value.field-0.0 c.in_err-value.ensures.refused)

pub returns-in-Err-clause-transcodes : goal.returns-in-Err-clause-transcodes
returns-in-Err-clause-transcodes c = out_of_memory c.args.shapes.now c.args.root.0 (json false false) c.args.line.now (query c.args.action.now c.args.version.now)

pub returns-in-Some-clause-transcodes : goal.returns-in-Some-clause-transcodes
returns-in-Some-clause-transcodes c =
    let v = view c.in_ok-value.value in
    lacking c.args.shapes.now c.args.root.0 (json false false) c.args.line.now (query c.args.action.now c.args.version.now) v c.in-Some.lacking c.in_ok-value.ensures.ok
    (ap (λ w. unfit w c.args.shapes.now c.args.root.0 v) (sym c.in-Ok.ensures) ∙ sym c.expressible.ensures.unfit ∙ c.in-Some.is)

pub request_of_value-requires-clause-positions : goal.request_of_value-requires-clause-positions
request_of_value-requires-clause-positions c =
    subst (λ w. CanCount w (view c.in_ok-value.value)) c.in-Ok.ensures (c.expressible.ensures.positions c.in_default.is)

pub request_of_value-requires-clause-fit : goal.request_of_value-requires-clause-fit
request_of_value-requires-clause-fit c =
    ap (λ w. unfit w c.args.shapes.now c.args.root.0 (view c.in_ok-value.value)) (sym c.in-Ok.ensures) ∙ sym c.expressible.ensures.unfit ∙ c.in_default.is

pub returns-clause-transcodes : goal.returns-clause-transcodes
returns-clause-transcodes c =
    let v = view c.in_ok-value.value in
    let told = c.request_of_value.ensures in
    request_transcodes c.args.shapes.now c.args.root.0 (json false false) c.args.line.now c.args.action.now c.args.version.now v c.request_of_value.result told.accepted c.requires.root c.in_ok-value.ensures.ok
    (ap (λ w. unfit w c.args.shapes.now c.args.root.0 v) (sym c.in-Ok.ensures) ∙ sym c.expressible.ensures.unfit ∙ c.in_default.is)
    (subst (λ w. CanCount w v) c.in-Ok.ensures (c.expressible.ensures.positions c.in_default.is)) (byte_texts c.in-Ok.to c.args.action.now c.args.version.now c.in-Ok.ensures)
    told.body told.short told.memory
