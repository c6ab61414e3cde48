-- Members of shapes, as a model's text has them (Smithy 2.0, "JSON AST", "Aggregate types", and the traits of protocols).
use Rattle.std.specs.Prelude.{ℕ, List, [], ◌∷◌, ◌||◌, Bool, Option, Some, None, option_map, option_and_then, unwrap_or, if◌then◌else◌, codes, bytes_eq, map as list_map}
use Rattle.json.specs.Json.{Json}
use Rattle.json.specs.Find.{get}
use Rattle.smithy_model.specs.Objects.{Entry, text_in, has_text, is_set, entries_in, is_no_object, trait_text, has_trait}
use Rattle.smithy_model.specs.Model.{Member}
use Rattle.smithy_model.specs.Form.{Form, smithy, json_service, xml_service, ec2_service}

-- a service-2.json binds the member to this part of a message
abbrev pub has_location : List ℕ → Json → Bool
has_location name spec = has_text (codes "location") name spec

-- the member is bound to headers (Smithy 2.0, "HTTP bindings")
abbrev pub is_in_headers : Form → Json → Bool
is_in_headers smithy spec =
    has_trait (codes "smithy.api#httpHeader") spec || has_trait (codes "smithy.api#httpPrefixHeaders") spec
is_in_headers _ spec = has_location (codes "header") spec || has_location (codes "headers") spec

-- to the path or the query
abbrev pub is_in_request_line : Form → Json → Bool
is_in_request_line smithy spec =
    has_trait (codes "smithy.api#httpLabel") spec || has_trait (codes "smithy.api#httpQuery") spec
    || has_trait (codes "smithy.api#httpQueryParams") spec
is_in_request_line _ spec = has_location (codes "uri") spec || has_location (codes "querystring") spec

-- to the status code
abbrev pub is_in_status_line : Form → Json → Bool
is_in_status_line smithy spec = has_trait (codes "smithy.api#httpResponseCode") spec
is_in_status_line _ spec = has_location (codes "statusCode") spec

-- a member of a Smithy model with its traits: none without a target; its number is given later
abbrev pub smithy_member : List ℕ → Json → Option Member
smithy_member name spec = option_map (λ target. record {
  name = name;
  target = target;
  number = 0;
  json_name = trait_text (codes "smithy.api#jsonName") spec;
  xml_name = trait_text (codes "smithy.api#xmlName") spec;
  ec2_name = trait_text (codes "aws.protocols#ec2QueryName") spec;
  is_flattened = has_trait (codes "smithy.api#xmlFlattened") spec;
  time_format = trait_text (codes "smithy.api#timestampFormat") spec;
  in_headers = is_in_headers smithy spec;
  in_request_line = is_in_request_line smithy spec;
  in_status_line = is_in_status_line smithy spec;
  is_payload = has_trait (codes "smithy.api#httpPayload") spec;
}) (text_in (codes "target") spec)

-- the time format of a service-2.json, by its name in Smithy
abbrev pub time_named : List ℕ → List ℕ
time_named given =
    if bytes_eq given (codes "iso8601") then codes "date-time"
    else if bytes_eq given (codes "rfc822") then codes "http-date"
    else if bytes_eq given (codes "unixTimestamp") then codes "epoch-seconds"
    else if bytes_eq given (codes "unixtimestamp") then codes "epoch-seconds"
    else given

abbrev pub service_time : Json → Option (List ℕ)
service_time spec = option_map time_named (text_in (codes "timestampFormat") spec)

-- the `locationName` where it is a name in JSON, or in XML
abbrev pub json_given : Form → Option (List ℕ) → Option (List ℕ)
json_given json_service given = given
json_given _ given = None

abbrev pub xml_given : Form → Option (List ℕ) → Option (List ℕ)
xml_given xml_service given = given
xml_given ec2_service given = given
xml_given _ given = None

-- the name of a form of EC2
abbrev pub ec2_given : Form → Option (List ℕ) → Option (List ℕ)
ec2_given ec2_service given = given
ec2_given _ given = None

-- a member of a service-2.json, whose structure may name it as its payload: none without a shape
abbrev pub service_member : Form → Json → List ℕ → Json → Option Member
service_member form outer name spec = option_map (λ target. record {
  name = name;
  target = target;
  number = 0;
  json_name = json_given form (text_in (codes "locationName") spec);
  xml_name = xml_given form (text_in (codes "locationName") spec);
  ec2_name = ec2_given form (text_in (codes "queryName") spec);
  is_flattened = is_set (codes "flattened") spec;
  time_format = service_time spec;
  in_headers = is_in_headers form spec;
  in_request_line = is_in_request_line form spec;
  in_status_line = is_in_status_line form spec;
  is_payload = has_text (codes "payload") name outer;
}) (text_in (codes "shape") spec)

-- the member that is given so in a shape
abbrev pub member_in : Form → Json → List ℕ → Json → Option Member
member_in smithy outer name spec = smithy_member name spec
member_in form outer name spec = service_member form outer name spec

-- the member of a list, the key or the value of a map: none where it isn't there
abbrev pub part_in : Form → List ℕ → Json → Option Member
part_in form name spec = option_and_then (member_in form spec name) (get name spec)

-- all of them, if each is one
abbrev pub all_some : {A : Type 0} → List (Option A) → Option (List A)
all_some [] = Some []
all_some (x ∷ xs) = option_and_then (λ a. option_map (λ more. a ∷ more) (all_some xs)) x

-- the members of a structure or a union, in the model's order: none where one isn't a member
abbrev pub members_in : Form → Json → Option (List Member)
members_in form spec =
    if is_no_object (codes "members") spec then None
    else all_some (list_map (λ (e : Entry). member_in form spec e.0 e.1) (unwrap_or (entries_in (codes "members") spec) []))
