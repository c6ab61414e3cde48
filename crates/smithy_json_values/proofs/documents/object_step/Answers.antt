use Rattle.std.proofs.Common.{string_bytes, option_map, ap, ◌∙◌}
use Rattle.smithy_types.specs.DocumentView.{properties_view}
use Rattle.smithy_json_values.specs.Private.OpenDocuments.{open_object, waiting_object}
use Rattle.smithy_json_values.specs.Codec.{held_settings, held_grammar}
use Rattle.smithy_json_values.proofs.DocumentSteps.{entry_taken, member_begins, no_member_step, nameless_step}
use Rattle.smithy_json_values.proofs.documents.object_step.Goals as goal

pub returns-in-Some : goal.returns-in-Some
returns-in-Some c =
    let stands = rw c.in-Some-Member.field-0-is at c.in-Some-Member.ensures in
    let ps = properties_view c.args.properties.entries in
    let name = string_bytes c.in-Some.key in
    let told = c.in_ok-key-in-Some-Member.ensures ∙ ap (option_map string_bytes) c.in-Some.is in
    entry_taken (held_grammar c.args.input.now.settings) (held_settings c.args.input.now.settings) c.args.depth c.args.input.now.bytes.now c.args.at c.args.entered (open_object ps) c.value_step.result (
      waiting_object ps name,
      c.in-Some-Member.name.end,
      member_begins (held_grammar c.args.input.now.settings) (held_settings c.args.input.now.settings) c.args.depth c.args.input.now.bytes.now c.args.at c.args.entered ps c.in-Some-Member.name.raw.now name c.in-Some-Member.name.end stands.names told,
      c.value_step.ensures,
    )

pub returns-in_default : goal.returns-in_default
returns-in_default c =
    let stands = rw c.in-Some-Member.field-0-is at c.in-Some-Member.ensures in
    nameless_step (held_grammar c.args.input.now.settings) (held_settings c.args.input.now.settings) c.args.depth c.args.input.now.bytes.now c.args.at c.args.entered (properties_view c.args.properties.entries)
    c.in-Some-Member.name.raw.now c.in-Some-Member.name.end stands.names (c.in_ok-key-in-Some-Member.ensures ∙ ap (option_map string_bytes) c.in_default.is)

pub returns-in-None : goal.returns-in-None
returns-in-None c =
    no_member_step (held_grammar c.args.input.now.settings) (held_settings c.args.input.now.settings) c.args.depth c.args.input.now.bytes.now c.args.at c.args.entered (properties_view c.args.properties.entries) c.in-None.ensures
