-- A document with the identifier of its shape, and with what it stands for.
use Rattle.std.specs.Prelude.{ℕ, List, Option, None, option_map, string_bytes}
use Rattle.smithy_types.specs.Coercion.{Coercion, coercion_of}
use Rattle.smithy_types.specs.Document.{Document}
use Rattle.smithy_types.specs.DocumentView.{document_view}
use Rattle.smithy_types.specs.declared.discriminated_document.DiscriminatedDocument.{DiscriminatedDocument}
use Rattle.smithy_types.specs.declared.number.Number.{Number}

pub record Discriminated : Type 0 where
  pub document : Document Number
  pub discriminator : Option (List ℕ)
  pub settings : Option Coercion

abbrev pub discriminated_view : DiscriminatedDocument → Discriminated
discriminated_view d = record {
  document = document_view d.document;
  discriminator = option_map string_bytes d.discriminator;
  settings = option_map coercion_of d.settings;
}

-- a document alone
abbrev pub alone : Document Number → Discriminated
alone d = record { document = d; discriminator = None; settings = None }
