use Rattle.std.proofs.Common.{◌++◌, false, sym, ◌∙◌, ap, subst, append_assoc}
use Rattle.smithy_transcode.specs.Wires.{wire_of}
use Rattle.smithy_transcode.specs.Spelling.{body}
use Rattle.smithy_lines.specs.Lines.{HasNoFeed}
use Rattle.smithy_replay.specs.LineBodies.{line_of}
use Rattle.smithy_replay.specs.Replayed.{front}
use Rattle.smithy_replay.proofs.LineLemmas.{refusal_answers}
use Rattle.smithy_replay.proofs.NoFeedBodies.{of_answer}
use Rattle.smithy_replay.proofs.body_lines.BodyLinesAnswerLine.answer.Goals as goal

pub returns-in-Err : goal.returns-in-Err
returns-in-Err c =
    let self = c.args.self.now in
    refusal_answers self.shapes.now self.root.0 (wire_of self.from) (wire_of self.to) self.numbered c.args.number c.args.line.now c.args.text.now.items c.refuse.new.text.items c.in-Err.error c.refuse.result c.in-Err.ensures c.refuse.ensures

pub returns : goal.returns
returns c =
    let self = c.args.self.now in
    let gives = c.in-Ok.ensures in
    let before = front self.numbered c.args.number false in (
      before ++ line_of (wire_of self.to) c.in-Ok.body.items,
      c.in_ok-push_body.ensures ∙ ap (λ t. t ++ line_of (wire_of self.to) c.deref.result.now) c.in_ok-push_front.ensures ∙ append_assoc c.args.text.now.items before (line_of (wire_of self.to) c.deref.result.now) ∙ ap (λ b. c.args.text.now.items ++ (before ++ line_of (wire_of self.to) b)) c.deref.ensures.value,
      subst (λ b. HasNoFeed (before ++ line_of (wire_of self.to) b)) (sym gives.3) (of_answer self.numbered c.args.number (line_of (wire_of self.to) (body (wire_of self.to) self.shapes.now self.root.0 gives.0)) gives.5),
      (gives.0, gives.1, gives.2, ap (λ b. before ++ line_of (wire_of self.to) b) gives.3, gives.4),
    )
