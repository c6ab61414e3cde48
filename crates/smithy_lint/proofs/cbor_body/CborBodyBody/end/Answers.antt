use Rattle.smithy_lint.proofs.CborBodies.{value_within, ends_there, ends_somewhere}
use Rattle.smithy_lint.proofs.cbor_body.CborBodyBody.end.Goals as goal

pub skipped_end-requires : goal.skipped_end-requires
skipped_end-requires c = value_within c.args.self.now.bytes.now c.args.depth c.args.at c.requires.there

pub unreachable-requires : goal.unreachable-requires
unreachable-requires c = ends_somewhere c.args.self.now.bytes.now c.args.depth c.args.at c.requires.there (rw c.in_default.is at c.in_ok-end.ensures)

pub returns : goal.returns
returns c = ends_there c.args.self.now.bytes.now c.args.depth c.args.at c.in-Some.end (rw c.in-Some.is at c.in_ok-end.ensures)
