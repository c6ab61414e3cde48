-- The declarations of a model's shapes: what each trait becomes (docs/TABLES.md, "From a Smithy model").
use Rattle.std.specs.Prelude.{ℕ, List, [], ◌++◌, take, drop, map as list_map, ◌||◌, ◌&&◌, not, Bool, false, Option, Some, None, option_and_then, unwrap_or, if◌then◌else◌, slice_get, codes, bytes_eq}
use Rattle.std.specs.Char.{to_ascii_uppercase}
use Rattle.std.specs.Option.{option_map_or, option_or}
use Rattle.smithy_model.specs.Model as model
use Rattle.smithy_model.specs.Model.{Member, Kind, Shape, Model}
use Rattle.smithy_declarations.specs.Decl.{MemberDecl, ListDecl, MapDecl}

-- the names of the shapes of a model, one by one
abbrev pub Names : Type 0
Names = List (List ℕ)

-- a name that is given, where it isn't the usual one
abbrev pub unless_usual : List ℕ → List ℕ → Option (List ℕ)
unless_usual usual given = if bytes_eq given usual then None else Some given

-- the target of a member
abbrev pub target_of : Model → Member → Option Shape
target_of m member = slice_get m.shapes member.number

-- the name of the shape of this number
abbrev pub name_of : Names → ℕ → List ℕ
name_of names number = unwrap_or (slice_get names number) []

-- the word of a target: a scalar or a document by itself, and any other shape by its name
abbrev pub word_of_kind : Kind → List ℕ → List ℕ
word_of_kind (model.simple word) name = word
word_of_kind _ name = name

abbrev pub target_word : Model → Names → Member → List ℕ
target_word m names member =
    option_map_or (λ (s : Shape). word_of_kind s.kind (name_of names member.number)) (target_of m member) member.target

-- the shape is a timestamp
abbrev pub is_timestamp : Kind → Bool
is_timestamp (model.simple word) = bytes_eq word (codes "timestamp")
is_timestamp _ = false

-- The time form of a member whose target is a timestamp: `@timestampFormat` of the member before that of its target (Smithy 2.0,
-- "timestampFormat trait").
abbrev pub time_of_shape : Member → Shape → Option (List ℕ)
time_of_shape member s = if is_timestamp s.kind then option_or member.time_format s.time_format else None

abbrev pub time_of : Model → Member → Option (List ℕ)
time_of m member = option_and_then (time_of_shape member) (target_of m member)

-- the entries of a list or a map stand under the member's own name; in ec2Query those of each list
abbrev pub is_flat_shape : Model → Member → Shape → Kind → Bool
is_flat_shape m member s (model.list element) = m.is_ec2 || member.is_flattened || s.is_flattened
is_flat_shape m member s (model.map key value) = member.is_flattened || s.is_flattened
is_flat_shape m member s _ = false

abbrev pub is_flat : Model → Member → Bool
is_flat m member = option_map_or (λ (s : Shape). is_flat_shape m member s s.kind) (target_of m member) false

-- the elements of this list name the entries of the member: in a service-2.json, where the list or the member is flattened (a shape of a
-- Smithy model is never flattened itself)
abbrev pub has_element_name : Model → Member → Shape → Bool
has_element_name m member s = s.is_flattened || m.is_service_json && member.is_flattened

-- `@xmlName`, or the name at the elements
abbrev pub xml_name_at : Model → Member → Shape → Kind → Option (List ℕ)
xml_name_at m member s (model.list element) =
    if has_element_name m member s then option_or element.xml_name member.xml_name else member.xml_name
xml_name_at m member s _ = member.xml_name

abbrev pub xml_name_of : Model → Member → Option (List ℕ)
xml_name_of m member = option_map_or (λ (s : Shape). xml_name_at m member s s.kind) (target_of m member) member.xml_name

-- a text with a capital in front, if it begins with a letter of ASCII
abbrev pub capitalized : List ℕ → List ℕ
capitalized text = list_map to_ascii_uppercase (take 1 text) ++ drop 1 text

-- The name in a form of ec2Query (Smithy 2.0, "AWS EC2 query protocol", "Query key resolution"): `@ec2QueryName`, else `@xmlName` with a
-- capital, else the member's name with a capital.
abbrev pub ec2_name_of : Member → List ℕ
ec2_name_of member = unwrap_or member.ec2_name (capitalized (unwrap_or member.xml_name member.name))

-- the name in a form, where it isn't the member's own
abbrev pub form_name_of : Model → Member → Option (List ℕ)
form_name_of m member =
    if m.is_ec2 then unless_usual member.name (ec2_name_of member)
    else option_and_then (unless_usual member.name) (xml_name_of m member)

-- the declaration of a member
abbrev pub member_decl : Model → Names → Member → MemberDecl
member_decl m names member = record {
  name = member.name;
  target = target_word m names member;
  json = option_and_then (unless_usual member.name) member.json_name;
  xml = form_name_of m member;
  is_flat = is_flat m member;
  time = time_of m member;
}

-- the name of a list's elements, a map's keys or its values, where it isn't the usual one; a form of ec2Query has none
abbrev pub part_name : Model → List ℕ → Member → Option (List ℕ)
part_name m usual part = if m.is_ec2 then None else option_and_then (unless_usual usual) part.xml_name

-- a list or a map is sparse where it isn't of documents: a null is one
abbrev pub is_sparse : Model → Names → Shape → Member → Bool
is_sparse m names s part = s.is_sparse && not (bytes_eq (target_word m names part) (codes "document"))

-- the declaration of a list
abbrev pub list_decl : Model → Names → Shape → Member → ListDecl
list_decl m names s element = record {
  target = target_word m names element;
  is_sparse = is_sparse m names s element;
  xml = part_name m (codes "member") element;
  time = time_of m element;
}

-- the declaration of a map
abbrev pub map_decl : Model → Names → Shape → Member → Member → MapDecl
map_decl m names s key value = record {
  target = target_word m names value;
  is_sparse = is_sparse m names s value;
  key = part_name m (codes "key") key;
  value = part_name m (codes "value") value;
  time = time_of m value;
}
