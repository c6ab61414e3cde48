-- The identifier of a shape that a document names by its entry `__type`.
use Rattle.std.specs.Prelude.{ℕ, ◌==◌, ◌&&◌, ◌||◌, not, length, List, [], ◌∷◌, ◌++◌, Bool, false, Option, Some, None, option_map, option_and_then, is_some, codes, if◌then◌else◌}
use Rattle.std.specs.List.{list_all, list_any, before_first, after_first}
use Rattle.std.specs.Char.{is_ascii_digit, is_ascii_alphanumeric}
use Rattle.std.specs.Str.{byte, bytes_eq}
use Rattle.smithy_types.specs.Coercion.{Coercion}
use Rattle.smithy_types.specs.Discriminated.{Discriminated}
use Rattle.smithy_types.specs.Document.{Document, object, text_of, properties_of, Properties, no_properties, property}
use Rattle.smithy_types.specs.declared.number.Number.{Number}

abbrev pub is_hash : ℕ → Bool
is_hash c = c == byte "#"

abbrev pub is_dollar : ℕ → Bool
is_dollar c = c == byte "$"

-- a namespace, `#` and a name, both not empty: no other `#`, and no `$`
abbrev pub is_absolute : List ℕ → Bool
is_absolute s =
    not (length (before_first is_hash s) == 0) && not (length (after_first is_hash s) == 0)
    && not (list_any is_hash (after_first is_hash s)) && not (list_any is_dollar s)

-- an ASCII letter, a digit or `_`
abbrev pub is_name_byte : ℕ → Bool
is_name_byte c = is_ascii_alphanumeric c || (c == byte "_")

-- bytes of a name, of which the first is no digit
abbrev pub is_name : List ℕ → Bool
is_name [] = false
is_name (c ∷ s) = not (is_ascii_digit c) && list_all is_name_byte (c ∷ s)

-- the identifier that a text gives: itself, or where it has no `#` its name behind the namespace
abbrev pub identifier_of : Option (List ℕ) → List ℕ → Option (List ℕ)
identifier_of namespace s =
    if list_any is_hash s then (if is_absolute s then Some s else None)
    else if is_name s then option_map (λ n. n ++ (byte "#" ∷ s)) namespace
    else None

-- ---- documents

-- the document under the name
abbrev pub under : {N : Type 0} → List ℕ → Properties N → Option (Document N)
under name no_properties = None
under name (property at d rest) = if bytes_eq name at then Some d else under name rest

-- the properties without the one under the name
abbrev pub without : {N : Type 0} → List ℕ → Properties N → Properties N
without name no_properties = no_properties
without name (property at d rest) = if bytes_eq name at then rest else property at d (without name rest)

abbrev pub type_name : List ℕ
type_name = codes "__type"

-- the text under `__type` of an object
abbrev pub type_in : {N : Type 0} → Document N → Option (List ℕ)
type_in d = option_and_then text_of (option_and_then (under type_name) (properties_of d))

-- the identifier that an object names, if it names one
abbrev pub identifier_in : {N : Type 0} → Option (List ℕ) → Document N → Option (List ℕ)
identifier_in namespace d = option_and_then (identifier_of namespace) (type_in d)

abbrev pub without_type : {N : Type 0} → Document N → Document N
without_type (object ps) = object (without type_name ps)
without_type d = d

-- the document that is read where names stand in this namespace: without the entry that names its shape, where it names one
abbrev pub named_document : Option (List ℕ) → Option Coercion → Document Number → Discriminated
named_document namespace settings d = record {
  document = if is_some (identifier_in namespace d) then without_type d else d;
  discriminator = identifier_in namespace d;
  settings = settings;
}
