-- What reading and writing JSON depend on beside table and place, and what a codec is asked for. Each setting stands in the record, in
-- the settings that read RFC 8259 to the letter, in the default ones if it differs there, and in what contracts see of the struct.
use Rattle.std.specs.Prelude.{ℕ, List, Bool, true, false, Option, None, codes}
use Rattle.smithy_instants.specs.declared.format.Format.{Format}
use Rattle.smithy_instants.specs.declared.format.Format.TheVariants.{EpochSeconds}
use Rattle.smithy_json_grammar.specs.NumberGrammar.{standard_numbers}
use Rattle.smithy_json_grammar.specs.declared.number_grammar.NumberGrammar.{NumberGrammar}
use Rattle.smithy_json_settings.specs.declared.settings.Settings.{Settings as HeldSettings}
use Rattle.smithy_shapes.specs.Limits.{Limits, kept}

pub record Settings : Type 0 where
  -- members go by their JSON names, where they have one
  pub use_json_name : Bool
  pub max_depth : ℕ
  -- the form of instants at a place that has none of its own
  pub default_timestamp_format : Format
  pub limits : Limits
  -- numbers are of the grammar, each value ends at a boundary, and strings that are read have no bytes below 0x20
  pub enforce_strictness : Bool
  -- an integer may have a fraction or an exponent, where it is whole
  pub allow_integral_float_numbers : Bool
  -- what numbers may have beyond RFC 8259
  pub numbers : NumberGrammar
  -- a skipped string has valid escapes alone
  pub validate_skipped_values : Bool
  -- a skipped string is in UTF-8, without bytes below 0x20
  pub validate_skipped_string_encoding : Bool
  -- a number stands for an instant under epoch seconds alone, and a string under the other forms alone
  pub strict_timestamp_formats : Bool
  -- a null of a structure or a union is handed on
  pub dispatch_null_members : Bool
  -- a big number is written as a string, or else as a number of RFC 8259 that is equal to it
  pub use_string_for_arbitrary_precision : Bool
  pub normalize_arbitrary_precision : Bool

-- those under which RFC 8259 is read to the letter
abbrev pub strict_settings : Bool → Settings
strict_settings use_json_name = record {
  use_json_name = use_json_name;
  max_depth = 128;
  default_timestamp_format = EpochSeconds;
  limits = kept;
  enforce_strictness = true;
  allow_integral_float_numbers = false;
  numbers = standard_numbers;
  validate_skipped_values = true;
  validate_skipped_string_encoding = true;
  strict_timestamp_formats = true;
  dispatch_null_members = false;
  use_string_for_arbitrary_precision = false;
  normalize_arbitrary_precision = false;
}

-- those of a client where none is set
abbrev pub default_settings : Settings
default_settings = record (strict_settings true) {
  enforce_strictness = false;
  validate_skipped_string_encoding = false;
  strict_timestamp_formats = false;
}

-- what contracts see of the settings that a codec, a reader and a serializer hold: they keep the limits
abbrev pub held_settings : HeldSettings → Settings
held_settings s = record {
  use_json_name = s.use_json_name;
  max_depth = s.max_depth;
  default_timestamp_format = s.default_timestamp_format;
  limits = kept;
  enforce_strictness = s.enforce_strictness;
  allow_integral_float_numbers = s.allow_integral_float_numbers;
  numbers = s.numbers;
  validate_skipped_values = s.validate_skipped_values;
  validate_skipped_string_encoding = s.validate_skipped_string_encoding;
  strict_timestamp_formats = s.strict_timestamp_formats;
  dispatch_null_members = s.dispatch_null_members;
  use_string_for_arbitrary_precision = s.use_string_for_arbitrary_precision;
  normalize_arbitrary_precision = s.normalize_arbitrary_precision;
}

-- all that a codec is asked for
pub record CodecSettings : Type 0 where
  pub json : Settings
  -- the identifier of the protocol, which documents carry
  pub protocol_id : List ℕ
  -- the namespace of the relative names that documents have
  pub default_namespace : Option (List ℕ)

abbrev pub default_codec_settings : CodecSettings
default_codec_settings = record {
  json = default_settings;
  protocol_id = codes "aws.smithy.json#JsonCodec";
  default_namespace = None;
}

-- those of a codec that is asked for nothing but RFC 8259 to the letter
abbrev pub strict_codec_settings : Bool → CodecSettings
strict_codec_settings use_json_name = record default_codec_settings { json = strict_settings use_json_name }
