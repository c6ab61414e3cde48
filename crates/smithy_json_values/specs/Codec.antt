-- What contracts see of the settings that a codec, a reader and a serializer hold.
use Rattle.std.specs.Prelude.{ℕ, List, Option}
use Rattle.std.specs.Option.{option_or}
use Rattle.smithy_json_values.specs.LexicalGrammar.{LexicalGrammar, grammar_of}
use Rattle.smithy_json_settings.specs.declared.settings.Settings.{Settings as HeldSettings}
pub use Rattle.smithy_json_settings.specs.Settings.{held_settings, strict_settings, strict_codec_settings, CodecSettings}

-- the grammar by which JSON is read under them
abbrev pub held_grammar : HeldSettings → LexicalGrammar
held_grammar s = grammar_of (held_settings s)

-- the settings of a reader that is given a namespace: that of the codec comes first
abbrev pub with_namespace : Option (List ℕ) → CodecSettings → CodecSettings
with_namespace namespace s = record s { default_namespace = option_or s.default_namespace namespace }
