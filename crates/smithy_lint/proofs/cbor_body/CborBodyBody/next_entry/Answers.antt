use Rattle.smithy_wire.specs.Node.{as_object}
use Rattle.smithy_lint.proofs.CborBodies.{goes_nowhere, goes_to_entry, key_skips}
use Rattle.smithy_lint.proofs.cbor_body.CborBodyBody.next_entry.Goals as goal

pub unreachable-requires : goal.unreachable-requires
unreachable-requires c =
    key_skips c.args.self.now.bytes.now c.args._depth c.args.at c.args.inner c.in-Some-Entry.due (rw c.in-Some-Entry.field-0-is at c.in-Some-Entry.ensures) c.requires.there
    (rw c.in_default.is at c.in_ok-value-in-Some-Entry.ensures)

pub unreachable-requires-in-None : goal.unreachable-requires-in-None
unreachable-requires-in-None c = goes_nowhere as_object c.args.self.now.bytes.now c.args._depth c.args.at c.args.inner c.in-None.ensures c.requires.there

pub returns-in-Some : goal.returns-in-Some
returns-in-Some c =
    goes_to_entry c.args.self.now.bytes.now c.args._depth c.args.at c.args.inner c.mark.result c.in-Some-Entry.due c.in-Some.value c.mark.ensures
    (rw c.in-Some-Entry.field-0-is at c.in-Some-Entry.ensures) (rw c.in-Some.is at c.in_ok-value-in-Some-Entry.ensures)
