-- What a JSON reader tells of itself.
use Rattle.std.specs.Prelude.{Bool, None, false, option_map}
use Rattle.smithy_schema.specs.Reading.{Cursor, Frame, ContainerKind, in_structure}
use Rattle.smithy_json_codec.specs.declared.deserializer.JsonDeserializer.{JsonDeserializer}
use Rattle.smithy_json_values.specs.Codec.{held_settings}
use Rattle.smithy_json_settings.specs.Settings.{CodecSettings}
use Rattle.smithy_json_values.specs.Settings.{Settings}
use Rattle.smithy_json_values.specs.Standing.{end_mark}
use Rattle.smithy_wire.specs.Walking.{cursor_of as walk_cursor}

-- where a reader of JSON stands
abbrev pub cursor_of : JsonDeserializer → Cursor
cursor_of d = walk_cursor d.walk

-- the settings under which a reader of JSON reads
abbrev pub reading_settings_of : JsonDeserializer → Settings
reading_settings_of d = held_settings d.settings

-- all that a reader of JSON is made with: its namespace is that of the codec, or else the one that it was given
abbrev pub reader_settings_of : JsonDeserializer → CodecSettings
reader_settings_of d = record {
  json = reading_settings_of d;
  protocol_id = d.protocol_id.now;
  default_namespace = option_map (λ n. n.now) d.namespace;
}

-- what a reader keeps of an open container, in which an entry has come or not
abbrev pub inside_of : ContainerKind → Bool → Frame
inside_of within entered = record {
  within = within;
  mark = record { entered = entered; at_end = false; due = None };
}

-- what a reader keeps of the structure as which an empty input is read
abbrev pub missing_frame : Frame
missing_frame = record { within = in_structure; mark = end_mark }
