use Rattle.std.proofs.Common.{sym, ◌∙◌, ap}
use Rattle.smithy_transcode.specs.Wires.{wire_of}
use Rattle.smithy_replay.specs.LineBodies.{line_of}
use Rattle.smithy_replay.proofs.LineLemmas.{plain_line, same_added}
use Rattle.smithy_replay.proofs.line_bodies.push_body.Goals as goal

pub returns-in-Cbor : goal.returns-in-Cbor
returns-in-Cbor c =
    same_added c.extend_from_slice.result c.args.text.now.items c.extend_from_slice.new.self.items c.as_bytes.result.now _
    (c.as_bytes.ensures.value ∙ c.in_ok-encoded.ensures ∙ sym (ap (λ w. line_of (wire_of w) c.args.body.now) c.in-Cbor.is)) c.extend_from_slice.ensures.items

pub returns : goal.returns
returns c =
    same_added c.extend_from_slice-2.result c.args.text.now.items c.extend_from_slice-2.new.self.items c.args.body.now _ (plain_line c.args.wire.now c.args.body.now c.in_default.not-Cbor) c.extend_from_slice-2.ensures.items
