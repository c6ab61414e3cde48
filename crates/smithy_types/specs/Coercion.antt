-- What a document stands for as bytes and as an instant.
use Rattle.std.specs.Prelude.{ℕ, ◌*ℤ◌, ℤ, pos, List, Option, Some, None, if◌then◌else◌}
use Rattle.std.specs.Option.{option_map_or}
use Rattle.std.specs.Cow.{cow_str_bytes}
use Rattle.smithy_texts.specs.Ranges.{fits_signed}
use Rattle.smithy_texts.specs.Base64Text.{blob_of}
use Rattle.smithy_instants.specs.Instant.{nanos_per_second}
use Rattle.smithy_instants.specs.DateText.{date_of}
use Rattle.smithy_instants.specs.declared.format.Format.{Format}
use Rattle.smithy_instants.specs.declared.format.Format.TheVariants.{DateTimeWithOffset, HttpDate, EpochSeconds}
use Rattle.smithy_types.specs.Document.{Document, number, text, text_of}
use Rattle.smithy_types.specs.DocumentFault.{DocumentFault, type_mismatch, invalid_input, unsupported}
use Rattle.smithy_types.specs.Number.{whole_number}
use Rattle.smithy_types.specs.declared.document_settings.DocumentCoercion.{DocumentCoercion}
use Rattle.smithy_types.specs.declared.number.Number.{Number}

-- the protocol that a document came by, and the form of instants there
pub record Coercion : Type 0 where
  pub protocol_id : List ℕ
  pub default_timestamp_format : Format

abbrev pub coercion_of : DocumentCoercion → Coercion
coercion_of c = record { protocol_id = cow_str_bytes c.protocol_id; default_timestamp_format = c.default_timestamp_format }

-- a value, or why there is none
pub data Coerced (A : Type 0) : Type 0 where
  means : A → Coerced A
  refused : DocumentFault → Coerced A

abbrev pub or_invalid : {A : Type 0} → Option A → Coerced A
or_invalid None = refused invalid_input
or_invalid (Some x) = means x

-- the form of texts that stand for instants
abbrev pub date_form : Format → Format
date_form HttpDate = HttpDate
date_form form = DateTimeWithOffset

-- the instant of so many whole seconds, where these are a number of 64 bits
abbrev pub seconds_of_number : Number → Option ℤ
seconds_of_number n =
    if fits_signed 64 (whole_number n) then Some (whole_number n *ℤ pos nanos_per_second) else None

-- ---- by the settings

abbrev pub blob_by : Coercion → List ℕ → Coerced (List ℕ)
blob_by c s = or_invalid (blob_of s)

abbrev pub date_by : Coercion → List ℕ → Coerced ℤ
date_by c s = or_invalid (date_of (date_form c.default_timestamp_format) s)

abbrev pub seconds_by : Format → Number → Coerced ℤ
seconds_by EpochSeconds n = or_invalid (seconds_of_number n)
seconds_by form n = refused unsupported

-- ---- of a document, with settings or without them

abbrev pub blob_in : Option Coercion → Document Number → Coerced (List ℕ)
blob_in settings d =
    option_map_or (λ s. option_map_or (λ c. blob_by c s) settings (refused unsupported)) (text_of d) (refused type_mismatch)

abbrev pub instant_in : Option Coercion → Document Number → Coerced ℤ
instant_in None (text s) = refused unsupported
instant_in (Some c) (text s) = date_by c s
instant_in None (number n) = or_invalid (seconds_of_number n)
instant_in (Some c) (number n) = seconds_by c.default_timestamp_format n
instant_in settings d = refused type_mismatch

-- only a text takes memory, and only where there are settings
abbrev pub TakesMemory : Option Coercion → Document Number → Type 0
TakesMemory (Some c) (text s) = Unit {0}
TakesMemory settings d = ⊥
