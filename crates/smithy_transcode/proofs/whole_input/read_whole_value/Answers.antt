use Rattle.std.proofs.Common.{◌∙◌, ap, false}
use Rattle.smithy_json_codec.specs.Cursor.{cursor_of, reader_settings_of}
use Rattle.smithy_cbor_codec.specs.Cursor.{cursor_of as cbor_cursor_of, reading_settings_of as cbor_settings_of}
use Rattle.smithy_json_settings.specs.Settings.{CodecSettings, Settings as JsonSettings}
use Rattle.smithy_cbor_values.specs.Settings.{Settings as CborSettings}
use Rattle.smithy_value.specs.View.{view}
use Rattle.smithy_transcode.specs.Wires.{wire_of}
use Rattle.smithy_transcode.proofs.Begun.{json_begins, cbor_begins, whole_read, form_unread}
use Rattle.smithy_transcode.proofs.whole_input.read_whole_value.Goals as goal

-- where nulls of members are dropped, whatever was asked for
abbrev json_dropping : CodecSettings → JsonSettings
json_dropping s = record s.json { dispatch_null_members = false }

abbrev cbor_dropping : CborSettings → CborSettings
cbor_dropping s = record s { dispatch_null_members = false }

pub returns-in-Json : goal.returns-in-Json
returns-in-Json c =
    let made = c.create_deserializer-reader.ensures.settings ∙ c.strict_with_integral_numbers-json.ensures in
    let begins = json_begins (wire_of c.args.from.now) c.in-Json.use_json_name c.in-Json.integral (json_dropping (reader_settings_of c.create_deserializer-reader.result)) (cursor_of c.create_deserializer-reader.result) c.schema-schema.result c.args.shapes.now c.args.root.0 c.args.input.now (ap wire_of c.in-Json.is) (ap json_dropping made) c.create_deserializer-reader.ensures.fresh c.schema-schema.ensures.site c.requires.root in
    whole_read begins _ view (cursor_of c.read_value.new.source) c.read_value.result (ap (λ (s : CodecSettings). s.json.enforce_strictness) made) c.read_value.ensures.reads

pub returns-in-Cbor : goal.returns-in-Cbor
returns-in-Cbor c =
    let made = c.create_deserializer-reader-in-Cbor.ensures.settings ∙ c.strict.ensures in
    let begins = cbor_begins (wire_of c.args.from.now) c.in-Cbor.definite (cbor_dropping (cbor_settings_of c.create_deserializer-reader-in-Cbor.result)) (cbor_cursor_of c.create_deserializer-reader-in-Cbor.result) c.schema-schema.result c.args.shapes.now c.args.root.0 c.args.input.now (ap wire_of c.in-Cbor.is) (ap cbor_dropping made) c.create_deserializer-reader-in-Cbor.ensures.fresh c.schema-schema.ensures.site c.requires.root in
    whole_read begins _ view (cbor_cursor_of c.read_value-in-Cbor.new.source) c.read_value-in-Cbor.result (ap (λ (s : CborSettings). s.enforce_strictness) made) c.read_value-in-Cbor.ensures.reads

pub returns-in-Query : goal.returns-in-Query
returns-in-Query c = form_unread view (wire_of c.args.from.now) _ _ c.args.shapes.now c.args.root.0 c.args.input.now (ap wire_of c.in-Query.is)
