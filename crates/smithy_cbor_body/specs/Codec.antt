-- What contracts see of the settings that a codec, a reader and a serializer hold.
use Rattle.std.specs.Prelude.{false, true}
use Rattle.smithy_cbor_body.specs.declared.settings.CborCodecSettings.{CborCodecSettings}
use Rattle.smithy_cbor_values.specs.Settings.{Settings, kept}

-- the settings that are held, which keep the limits
abbrev pub held_settings : CborCodecSettings → Settings
held_settings s = record { max_depth = s.max_depth; limits = kept; enforce_strictness = s.enforce_strictness; dispatch_null_members = s.dispatch_null_members; use_definite_lengths = s.use_definite_lengths }

-- the settings of a strict codec
abbrev pub strict_settings : Settings
strict_settings = record { max_depth = 128; limits = kept; enforce_strictness = true; dispatch_null_members = false; use_definite_lengths = false }

-- those of a codec that is asked for nothing
abbrev pub default_settings : Settings
default_settings = record strict_settings { enforce_strictness = false; dispatch_null_members = true }
