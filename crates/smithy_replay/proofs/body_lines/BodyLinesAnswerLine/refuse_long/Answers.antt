use Rattle.smithy_replay.proofs.LineLemmas.{long_answers}
use Rattle.smithy_replay.proofs.body_lines.BodyLinesAnswerLine.refuse_long.Goals as goal

pub returns : goal.returns
returns c = long_answers c.args.self.now.numbered c.args.number c.args.text.now.items c.push_refusal.new.text.items c.push_refusal.result c.push_refusal.ensures
