use Rattle.std.proofs.Common.{None, refl}
use Rattle.smithy_json_values.specs.Codec.{held_grammar}
use Rattle.smithy_wire.specs.Node.{as_array}
use Rattle.smithy_lint.proofs.JsonNodes.{rest_within, list_goes, entry_goes, end_goes}
use Rattle.smithy_lint.proofs.json_body.JsonBodyBody.next_element.Goals as goal

pub next_in_list-requires : goal.next_in_list-requires
next_in_list-requires c = rest_within (held_grammar c.args.self.now.settings) c.args.self.now.bytes.now as_array c.args.depth c.args.at c.args.mark c.requires.there

pub unreachable-requires : goal.unreachable-requires
unreachable-requires c =
    let neither = c.in-None.ensures in
    list_goes (held_grammar c.args.self.now.settings) c.args.self.now.bytes.now c.args.depth c.args.at c.args.mark c.requires.there neither.0 neither.1

pub returns-in-Some-Element : goal.returns-in-Some-Element
returns-in-Some-Element c =
    let begins = rw c.in-Some-Element.field-0-is at c.in-Some-Element.ensures in
    entry_goes (held_grammar c.args.self.now.settings) c.args.self.now.bytes.now as_array c.args.depth c.args.at c.args.mark None c.in-Some-Element.place c.in-Some-Element.place _ (refl, refl, begins.0, begins.1) tt

pub returns-in-Some-End : goal.returns-in-Some-End
returns-in-Some-End c =
    let closes = rw c.in-Some-End.field-0-is at c.in-Some-End.ensures in
    end_goes (held_grammar c.args.self.now.settings) c.args.self.now.bytes.now as_array c.args.depth c.args.at c.args.mark c.in-Some-End.end closes.0
