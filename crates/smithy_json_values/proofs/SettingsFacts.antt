-- That under strict settings the grammar is that of the standard, by computing.
use Rattle.std.specs.Prelude.{◌≡◌, Bool, refl}
use Rattle.smithy_json_values.specs.Codec.{strict_settings}
use Rattle.smithy_json_values.specs.LexicalGrammar.{grammar_of, rfc_8259}

pub strict_is_standard : (use_json_name : Bool) → grammar_of (strict_settings use_json_name) ≡ rfc_8259
strict_is_standard use_json_name = refl
