-- Which document with the identifier of its shape stands in an input.
use Rattle.std.specs.Prelude.{◌≡◌, ℕ, List, Some}
use Rattle.smithy_types.specs.Coercion.{Coercion}
use Rattle.smithy_types.specs.Discriminated.{Discriminated}
use Rattle.smithy_types.specs.Document.{Document}
use Rattle.smithy_types.specs.Identifier.{named_document}
use Rattle.smithy_types.specs.declared.number.Number.{Number}
use Rattle.smithy_json_settings.specs.Settings.{CodecSettings}
use Rattle.smithy_json_values.specs.Documents.{DocumentStands}
use Rattle.smithy_json_values.specs.Standing.{json_grammar}

-- what texts and numbers of documents stand for that are read under these settings
abbrev pub coercion_by : CodecSettings → Coercion
coercion_by s = record { protocol_id = s.protocol_id; default_timestamp_format = s.json.default_timestamp_format }

-- from a to e stands a document, which by its entry `__type` may name the identifier of its shape in the namespace of the settings
pub record NamedStands (s : CodecSettings) (depth : ℕ) (input : List ℕ) (a : ℕ) (named : Discriminated) (e : ℕ) : Type 0 where
  pub document : Document Number
  pub stands : DocumentStands (json_grammar s.json) s.json depth input a document e
  pub is : named ≡ named_document s.default_namespace (Some (coercion_by s)) document
