-- What a shape is, by its type (Smithy 2.0, "Simple types" and "Aggregate types").
use Rattle.std.specs.Prelude.{ℕ, List, ◌&&◌, Bool, false, Option, Some, None, option_map, option_and_then, if◌then◌else◌, codes, bytes_eq}
use Rattle.json.specs.Json.{Json}
use Rattle.smithy_model.specs.Objects.{text_in, is_set, has_trait}
use Rattle.smithy_model.specs.Model.{Kind, simple, float, event_stream, structure, union, list, map}
use Rattle.smithy_model.specs.Form.{Form, smithy}
use Rattle.smithy_model.specs.Members.{members_in, part_in}

-- the name in a table of a type of numbers but floats; an `intEnum` is an integer
abbrev pub number_name : List ℕ → Option (List ℕ)
number_name type =
    if bytes_eq type (codes "byte") then Some (codes "byte")
    else if bytes_eq type (codes "short") then Some (codes "short")
    else if bytes_eq type (codes "integer") then Some (codes "integer")
    else if bytes_eq type (codes "intEnum") then Some (codes "integer")
    else if bytes_eq type (codes "long") then Some (codes "long")
    else if bytes_eq type (codes "bigInteger") then Some (codes "bigInteger")
    else if bytes_eq type (codes "bigDecimal") then Some (codes "bigDecimal")
    else None

-- the name in a table of a type of scalars but floats, or of documents; an `enum` is a string
abbrev pub simple_name : List ℕ → Option (List ℕ)
simple_name type =
    if bytes_eq type (codes "boolean") then Some (codes "boolean")
    else if bytes_eq type (codes "string") then Some (codes "string")
    else if bytes_eq type (codes "enum") then Some (codes "string")
    else if bytes_eq type (codes "character") then Some (codes "string")
    else if bytes_eq type (codes "blob") then Some (codes "blob")
    else if bytes_eq type (codes "timestamp") then Some (codes "timestamp")
    else if bytes_eq type (codes "document") then Some (codes "document")
    else number_name type

-- a stream of events: a union that is streamed (Smithy 2.0, "Event streams"), in a service-2.json marked as one
abbrev pub is_event_stream : Form → List ℕ → Json → Bool
is_event_stream smithy type spec = bytes_eq type (codes "union") && has_trait (codes "smithy.api#streaming") spec
is_event_stream _ type spec = is_set (codes "eventstream") spec

-- a union: in a service-2.json a structure that is marked as one
abbrev pub is_union : Form → List ℕ → Json → Bool
is_union smithy type spec = bytes_eq type (codes "union")
is_union _ type spec = is_set (codes "union") spec

-- a document: in a service-2.json a structure that is marked as one
abbrev pub is_document : Form → Json → Bool
is_document smithy spec = false
is_document _ spec = is_set (codes "document") spec

-- a structure or a union of the type
abbrev pub structure_in : Form → List ℕ → Json → Option Kind
structure_in form type spec =
    if is_document form spec then Some (simple (codes "document"))
    else if is_event_stream form type spec then Some event_stream
    else if is_union form type spec then option_map union (members_in form spec)
    else option_map structure (members_in form spec)

-- a map
abbrev pub map_in : Form → Json → Option Kind
map_in form spec =
    option_and_then (λ key. option_map (λ value. map key value) (part_in form (codes "value") spec))
    (part_in form (codes "key") spec)

-- a shape of a type that is no scalar
abbrev pub aggregate_in : Form → List ℕ → Json → Option Kind
aggregate_in form type spec =
    if bytes_eq type (codes "float") then Some float
    else if bytes_eq type (codes "double") then Some float
    else if bytes_eq type (codes "structure") then structure_in form type spec
    else if bytes_eq type (codes "union") then structure_in form type spec
    else if bytes_eq type (codes "list") then option_map list (part_in form (codes "member") spec)
    else if bytes_eq type (codes "set") then option_map list (part_in form (codes "member") spec)
    else if bytes_eq type (codes "map") then map_in form spec
    else None

-- a shape of the type
abbrev pub kind_of_type : Form → Json → List ℕ → Option Kind
kind_of_type form spec type = elim (simple_name type) [ Some name ↦ Some (simple name) | None ↦ aggregate_in form type spec ]

-- what a shape is: none where its type isn't known, or a part of it is missing or without a target
abbrev pub kind_in : Form → Json → Option Kind
kind_in form spec = option_and_then (kind_of_type form spec) (text_in (codes "type") spec)
