use Rattle.smithy_lint.proofs.CborBodies.{value_within, verdict_there}
use Rattle.smithy_lint.proofs.cbor_body.CborBodyBody.scalar_finding.Goals as goal

pub finding_at-requires : goal.finding_at-requires
finding_at-requires c = value_within c.args.self.now.bytes.now c.args.depth c.args.at c.requires.there

pub returns : goal.returns
returns c = verdict_there c.args.kind c.args._time c.args.self.now.bytes.now c.args.at c.args.depth c.finding_at.result c.finding_at.ensures
