-- What a CBOR reader tells of itself.
use Rattle.std.specs.Prelude.{ℕ, Option}
use Rattle.smithy_schema.specs.Reading.{Cursor, Frame, ContainerKind, in_structure}
use Rattle.smithy_cbor_codec.specs.declared.deserializer.CborDeserializer.{CborDeserializer}
use Rattle.smithy_cbor_body.specs.Codec.{held_settings}
use Rattle.smithy_cbor_values.specs.Settings.{Settings}
use Rattle.smithy_cbor_values.specs.Standing.{mark_with, end_mark}
use Rattle.smithy_wire.specs.Walking.{cursor_of as walk_cursor}

-- where a reader of CBOR stands
abbrev pub cursor_of : CborDeserializer → Cursor
cursor_of d = walk_cursor d.walk

-- the settings under which a reader of CBOR reads
abbrev pub reading_settings_of : CborDeserializer → Settings
reading_settings_of d = held_settings d.settings

-- what a reader keeps of an open container, with how many entries are due where that is told
abbrev pub inside_of : ContainerKind → Option ℕ → Frame
inside_of within due = record { within = within; mark = mark_with due }

-- what a reader keeps of the structure as which an empty input is read
abbrev pub missing_frame : Frame
missing_frame = record { within = in_structure; mark = end_mark }
