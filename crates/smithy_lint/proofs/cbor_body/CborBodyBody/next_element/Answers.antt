use Rattle.smithy_wire.specs.Node.{as_array}
use Rattle.smithy_lint.proofs.CborBodies.{goes_nowhere, goes_to_element}
use Rattle.smithy_lint.proofs.cbor_body.CborBodyBody.next_element.Goals as goal

pub unreachable-requires : goal.unreachable-requires
unreachable-requires c = goes_nowhere as_array c.args.self.now.bytes.now c.args._depth c.args.at c.args.inner c.in-None.ensures c.requires.there

pub returns-in-Some-Entry : goal.returns-in-Some-Entry
returns-in-Some-Entry c =
    goes_to_element c.args.self.now.bytes.now c.args._depth c.args.at c.args.inner c.mark.result c.in-Some-Entry.due c.mark.ensures
    (rw c.in-Some-Entry.field-0-is at c.in-Some-Entry.ensures)
