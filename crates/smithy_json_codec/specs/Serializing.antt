-- What contracts see of a serializer.
use Rattle.std.specs.Prelude.{Bool}
use Rattle.smithy_wire.specs.OpenContainers.{opens_of}
use Rattle.smithy_json_codec.specs.declared.serializer.JsonSerializer.{JsonSerializer}
use Rattle.smithy_json_values.specs.Codec.{held_settings}
use Rattle.smithy_json_codec.specs.Writing.{JsonState}

-- what the calls of a serializer of JSON depend on
abbrev pub state_of : JsonSerializer → JsonState
state_of s = record {
  settings = held_settings s.settings;
  out = s.out.items;
  needs_comma = s.needs_comma;
  frames = opens_of s.containers;
}

-- an earlier call was refused, or was `fail`
abbrev pub has_failed : JsonSerializer → Bool
has_failed s = s.containers.failed
