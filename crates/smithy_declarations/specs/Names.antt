-- The names and words in a table: which are reserved, which can stand in a form, and whether two are equal.
use Rattle.std.specs.Prelude.{◌==◌, ◌||◌, ◌&&◌, ℕ, List, [], ◌∷◌, length, find, Bool, false, not, Option, option_map, is_some, codes, bytes_eq}
use Rattle.std.specs.List.{list_all, list_any}
use Rattle.std.specs.Char.{is_ascii_alphanumeric}
use Rattle.smithy_declarations.specs.declared.place.Target.{Target}
use Rattle.smithy_declarations.specs.declared.place.Target.TheVariants.{Simple, Document}
use Rattle.smithy_declarations.specs.declared.shape_type.Scalar.TheVariants as scalars
use Rattle.smithy_declarations.specs.declared.shape_type.TimestampFormat.{TimestampFormat}
use Rattle.smithy_declarations.specs.declared.shape_type.TimestampFormat.TheVariants.{EpochSeconds, DateTime, HttpDate}

-- the targets that no declaration gives, by their names: scalars and documents
abbrev pub simple_targets : List (List ℕ × Target)
simple_targets =
    (codes "boolean", Simple scalars.Boolean) ∷ (codes "byte", Simple scalars.Byte)
    ∷ (codes "short", Simple scalars.Short) ∷ (codes "integer", Simple scalars.Integer)
    ∷ (codes "long", Simple scalars.Long) ∷ (codes "string", Simple scalars.String)
    ∷ (codes "blob", Simple scalars.Blob) ∷ (codes "timestamp", Simple scalars.Timestamp)
    ∷ (codes "bigInteger", Simple scalars.BigInteger) ∷ (codes "bigDecimal", Simple scalars.BigDecimal)
    ∷ (codes "document", Document) ∷ []

-- the names of the scalars that no table can have
abbrev pub float_names : List (List ℕ)
float_names = codes "float" ∷ codes "double" ∷ []

-- the time forms by their words
abbrev pub time_formats : List (List ℕ × TimestampFormat)
time_formats =
    (codes "epoch-seconds", EpochSeconds) ∷ (codes "date-time", DateTime) ∷ (codes "http-date", HttpDate) ∷ []

-- what the name means in the list of names
abbrev pub named : {X : Type 0} → List (List ℕ × X) → List ℕ → Option X
named names name = option_map (λ p. p.1) (find (λ p. bytes_eq name p.0) names)

-- the name is that of a scalar or of documents
abbrev pub is_simple_name : List ℕ → Bool
is_simple_name name = is_some (named simple_targets name)

-- the name is that of documents
abbrev pub is_document_name : List ℕ → Bool
is_document_name name = bytes_eq name (codes "document")

-- the name is that of a scalar which no target can be
abbrev pub is_float_name : List ℕ → Bool
is_float_name name = list_any (bytes_eq name) float_names

-- no declaration may have the name
abbrev pub is_reserved : List ℕ → Bool
is_reserved name = is_simple_name name || is_float_name name

-- the word is that of a time form
abbrev pub is_time_format : List ℕ → Bool
is_time_format word = is_some (named time_formats word)

-- two of the texts are equal
abbrev pub has_equal_texts : List (List ℕ) → Bool
has_equal_texts [] = false
has_equal_texts (t ∷ ts) = list_any (bytes_eq t) ts || has_equal_texts ts

-- an ASCII letter or digit, `_`, `-` or `:`
abbrev pub is_name_byte : ℕ → Bool
is_name_byte b = is_ascii_alphanumeric b || list_any (λ c. b == c) (codes "_-:")

-- the name can stand in the path of a form
abbrev pub is_query_name : List ℕ → Bool
is_query_name name = list_all is_name_byte name && not (length name == 0)
