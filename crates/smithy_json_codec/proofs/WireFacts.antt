-- That under the settings of a wire the grammar is that of the standard, whether or not an integer may have a fraction or an exponent,
-- and that they are the strict ones where it may not, by computing.
use Rattle.std.specs.Prelude.{◌≡◌, Bool, false, refl}
use Rattle.smithy_json_values.specs.Codec.{strict_settings}
use Rattle.smithy_json_values.specs.LexicalGrammar.{grammar_of, rfc_8259}
use Rattle.smithy_json_codec.specs.WireSettings.{wire_settings}

pub wire_is_standard : (use_json_name integral : Bool) → grammar_of (wire_settings use_json_name integral) ≡ rfc_8259
wire_is_standard use_json_name integral = refl

pub strict_is_not_integral : (use_json_name : Bool) → wire_settings use_json_name false ≡ strict_settings use_json_name
strict_is_not_integral use_json_name = refl
