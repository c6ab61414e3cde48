-- What is written of a document with the identifier of its shape.
use Rattle.std.specs.Prelude.{ℕ, ◌&&◌, not, List, [], ◌∷◌, ◌++◌, Option, Some, None, is_some, if◌then◌else◌}
use Rattle.std.specs.Fmt.{signed_decimal}
use Rattle.std.specs.List.{list_any}
use Rattle.std.specs.Option.{option_map_or}
use Rattle.smithy_types.specs.Document.{Document, Properties, properties_of, map_properties, whole_document}
use Rattle.smithy_types.specs.Identifier.{is_hash, type_name, under}
use Rattle.smithy_types.specs.Number.{whole_number}
use Rattle.smithy_types.specs.declared.number.Number.{Number}
use Rattle.smithy_json_grammar.specs.Ascii.{begin_object, end_object}
use Rattle.smithy_json.specs.DocumentText.{comma, properties_text_by}
use Rattle.smithy_json.specs.Escape.{quoted}
use Rattle.smithy_json_codec.specs.Canonical.{document_text}
use Rattle.smithy_json.specs.ValueTexts.{name_text}

-- the properties, each behind a comma
abbrev pub more_properties : Properties Number → List ℕ
more_properties ps = properties_text_by signed_decimal comma (map_properties whole_number ps)

-- an object that begins with the identifier
abbrev pub named_text : List ℕ → Properties Number → List ℕ
named_text identifier ps =
    begin_object ∷ (name_text type_name ++ (quoted identifier ++ (more_properties ps ++ end_object ∷ [])))

-- an identifier can stand in an object that has no such entry
abbrev pub may_name : List ℕ → Properties Number → List ℕ → Option (List ℕ)
may_name identifier ps text =
    if list_any is_hash identifier && not (is_some (under type_name ps)) then Some text else None

-- a document alone
abbrev pub alone : Document Number → List ℕ
alone d = document_text (whole_document d)

-- the bytes of a document with its identifier, unless it can't be written: what is no object is written alone
abbrev pub discriminated_text : Option (List ℕ) → Document Number → Option (List ℕ)
discriminated_text identifier d =
    option_map_or (λ id. option_map_or (λ ps. may_name id ps (named_text id ps)) (properties_of d) (Some (alone d)))
    identifier (Some (alone d))
