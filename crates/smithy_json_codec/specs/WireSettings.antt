-- The settings under which JSON is read as a wire.
use Rattle.std.specs.Prelude.{Bool}
use Rattle.smithy_json_values.specs.Codec.{strict_settings}
use Rattle.smithy_json_values.specs.Settings.{Settings}

-- RFC 8259 to the letter, where an integer may have a fraction or an exponent if it is whole, or may not
abbrev pub wire_settings : (use_json_name integral : Bool) → Settings
wire_settings use_json_name integral =
    record (strict_settings use_json_name) { allow_integral_float_numbers = integral }
