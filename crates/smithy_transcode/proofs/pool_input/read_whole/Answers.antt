use Rattle.std.proofs.Common.{◌∙◌, ap}
use Rattle.smithy_json_codec.specs.Cursor.{cursor_of, reading_settings_of}
use Rattle.smithy_cbor_codec.specs.Cursor.{cursor_of as cbor_cursor_of, reading_settings_of as cbor_settings_of}
use Rattle.smithy_json_settings.specs.Settings.{CodecSettings}
use Rattle.smithy_cbor_values.specs.Settings.{Settings as CborSettings}
use Rattle.smithy_transcode.specs.Wires.{wire_of}
use Rattle.smithy_value.specs.Pooled.{slot_view}
use Rattle.smithy_transcode.proofs.Begun.{json_begins, cbor_begins, whole_read, form_unread}
use Rattle.smithy_transcode.proofs.PoolBodies.{pool_of_input, read_stands, read_keeps}
use Rattle.smithy_transcode.proofs.pool_input.read_whole.Goals as goal

pub read_tree-requires-clause-sound : goal.read_tree-requires-clause-sound
read_tree-requires-clause-sound c = pool_of_input c.args.pool.now c.args.input.now (cursor_of c.create_deserializer-source.result) c.requires.pool.sound c.requires.pool.input c.create_deserializer-source.ensures.fresh

pub read_tree-requires-in-Cbor-clause-sound : goal.read_tree-requires-in-Cbor-clause-sound
read_tree-requires-in-Cbor-clause-sound c = pool_of_input c.args.pool.now c.args.input.now (cbor_cursor_of c.create_deserializer-source-in-Cbor.result) c.requires.pool.sound c.requires.pool.input c.create_deserializer-source-in-Cbor.ensures.fresh

pub returns-in-Json-clause-read : goal.returns-in-Json-clause-read
returns-in-Json-clause-read c =
    let made = c.create_deserializer-source.ensures.settings ∙ c.strict_with_integral_numbers-codec.ensures in
    let begins = json_begins (wire_of c.args.from.now) c.in-Json.use_json_name c.in-Json.integral (reading_settings_of c.create_deserializer-source.result) (cursor_of c.create_deserializer-source.result) c.schema-schema.result c.args.shapes.now c.args.root.0 c.args.input.now (ap wire_of c.in-Json.is) (ap (λ (s : CodecSettings). s.json) made) c.create_deserializer-source.ensures.fresh c.schema-schema.ensures.site c.requires.root in
    whole_read begins _ (slot_view c.read_tree.new.trees) (cursor_of c.read_tree.new.source) c.read_tree.result (ap (λ (s : CodecSettings). s.json.enforce_strictness) made) c.read_tree.ensures.tree.reads

pub returns-in-Json-clause-sound : goal.returns-in-Json-clause-sound
returns-in-Json-clause-sound c = read_stands c.args.pool.now c.read_tree.new.trees c.read_tree.result c.read_tree.ensures.tree.adds

pub returns-in-Json-clause-keeps : goal.returns-in-Json-clause-keeps
returns-in-Json-clause-keeps c = read_keeps c.args.pool.now c.read_tree.new.trees c.read_tree.result c.read_tree.ensures.tree.adds

pub returns-in-Cbor-clause-read : goal.returns-in-Cbor-clause-read
returns-in-Cbor-clause-read c =
    let made = c.create_deserializer-source-in-Cbor.ensures.settings ∙ c.strict.ensures in
    let begins = cbor_begins (wire_of c.args.from.now) c.in-Cbor.definite (cbor_settings_of c.create_deserializer-source-in-Cbor.result) (cbor_cursor_of c.create_deserializer-source-in-Cbor.result) c.schema-schema.result c.args.shapes.now c.args.root.0 c.args.input.now (ap wire_of c.in-Cbor.is) made c.create_deserializer-source-in-Cbor.ensures.fresh c.schema-schema.ensures.site c.requires.root in
    whole_read begins _ (slot_view c.read_tree-in-Cbor.new.trees) (cbor_cursor_of c.read_tree-in-Cbor.new.source) c.read_tree-in-Cbor.result (ap (λ (s : CborSettings). s.enforce_strictness) made) c.read_tree-in-Cbor.ensures.tree.reads

pub returns-in-Cbor-clause-sound : goal.returns-in-Cbor-clause-sound
returns-in-Cbor-clause-sound c = read_stands c.args.pool.now c.read_tree-in-Cbor.new.trees c.read_tree-in-Cbor.result c.read_tree-in-Cbor.ensures.tree.adds

pub returns-in-Cbor-clause-keeps : goal.returns-in-Cbor-clause-keeps
returns-in-Cbor-clause-keeps c = read_keeps c.args.pool.now c.read_tree-in-Cbor.new.trees c.read_tree-in-Cbor.result c.read_tree-in-Cbor.ensures.tree.adds

pub returns-in-Query-clause-read : goal.returns-in-Query-clause-read
returns-in-Query-clause-read c = form_unread (slot_view c.args.pool.now) (wire_of c.args.from.now) _ _ c.args.shapes.now c.args.root.0 c.args.input.now (ap wire_of c.in-Query.is)
