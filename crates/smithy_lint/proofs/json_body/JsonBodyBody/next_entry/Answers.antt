use Rattle.std.proofs.Common.{refl, ap, ◌∙◌, arith}
use Rattle.smithy_json_values.specs.Codec.{held_grammar}
use Rattle.smithy_json_values.specs.LexicalGrammar.{grammar_of}
use Rattle.smithy_wire.specs.Node.{as_object}
use Rattle.smithy_lint.proofs.JsonNodes.{wire_is_standard, rest_within, object_goes, name_due, string_due, colon_due, name_goes, end_goes}
use Rattle.smithy_lint.proofs.json_body.JsonBodyBody.next_entry.Goals as goal

pub next_name_place-requires : goal.next_name_place-requires
next_name_place-requires c = rest_within (held_grammar c.args.self.now.settings) c.args.self.now.bytes.now as_object c.args.depth c.args.at c.args.mark c.requires.there

pub skip_blanks-start-requires : goal.skip_blanks-start-requires
skip_blanks-start-requires c =
    let b = c.args.self.now in
    let standard = ap grammar_of b.standard ∙ wire_is_standard b.settings.use_json_name b.settings.allow_integral_float_numbers in
    let due = rw c.in-Some-Element.field-0-is at c.in-Some-Element.ensures in
    let name = name_due (held_grammar c.args.self.now.settings) c.args.self.now.bytes.now standard c.args.depth c.args.at c.args.mark c.in-Some-Element.place c.requires.there due in
    omega (arith, name.2.0, name.2.1)

pub unreachable-requires : goal.unreachable-requires
unreachable-requires c =
    let b = c.args.self.now in
    let standard = ap grammar_of b.standard ∙ wire_is_standard b.settings.use_json_name b.settings.allow_integral_float_numbers in
    let due = rw c.in-Some-Element.field-0-is at c.in-Some-Element.ensures in
    string_due (held_grammar c.args.self.now.settings) c.args.self.now.bytes.now standard c.args.depth c.args.at c.args.mark c.in-Some-Element.place c.skip_blanks-start.result c.requires.there due c.skip_blanks-start.ensures c.in_default.ensures.none

pub unreachable-requires-in_default-byte_end : goal.unreachable-requires-in_default-byte_end
unreachable-requires-in_default-byte_end c =
    let b = c.args.self.now in
    let standard = ap grammar_of b.standard ∙ wire_is_standard b.settings.use_json_name b.settings.allow_integral_float_numbers in
    let due = rw c.in-Some-Element.field-0-is at c.in-Some-Element.ensures in
    colon_due (held_grammar c.args.self.now.settings) c.args.self.now.bytes.now standard c.args.depth c.args.at c.args.mark c.in-Some-Element.place c.skip_blanks-start.result c.requires.there due c.skip_blanks-start.ensures c.in-Some.name.closing c.in-Some.ensures.found
    c.in_default-byte_end.ensures.none

pub unreachable-requires-in-None : goal.unreachable-requires-in-None
unreachable-requires-in-None c =
    let neither = c.in-None.ensures in
    object_goes (held_grammar c.args.self.now.settings) c.args.self.now.bytes.now c.args.depth c.args.at c.args.mark c.requires.there neither.0 neither.1

pub returns-in-Some-byte_end : goal.returns-in-Some-byte_end
returns-in-Some-byte_end c =
    let b = c.args.self.now in
    let standard = ap grammar_of b.standard ∙ wire_is_standard b.settings.use_json_name b.settings.allow_integral_float_numbers in
    let due = rw c.in-Some-Element.field-0-is at c.in-Some-Element.ensures in
    name_goes (held_grammar c.args.self.now.settings) c.args.self.now.bytes.now standard c.args.depth c.args.at c.args.mark c.in-Some-Element.place c.skip_blanks-start.result c.requires.there due c.skip_blanks-start.ensures c.in-Some.name.closing c.in-Some.name.text.now
    c.in-Some.ensures.found c.in-Some.ensures.text c.in-Some.ensures.valid c.in-Some-byte_end.value c.in-Some-byte_end.ensures.found _ refl

pub returns-in-Some-End : goal.returns-in-Some-End
returns-in-Some-End c =
    let closes = rw c.in-Some-End.field-0-is at c.in-Some-End.ensures in
    end_goes (held_grammar c.args.self.now.settings) c.args.self.now.bytes.now as_object c.args.depth c.args.at c.args.mark c.in-Some-End.end closes.0
