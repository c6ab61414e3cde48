-- What the types of the crate stand for.
use Rattle.std.specs.Prelude.{ℕ, List, option_map, map as list_map}
use Rattle.std.specs.Borrow.{Bor}
use Rattle.std.specs.declared.alloc.Global.{Global}
use Rattle.json.specs.declared.value.Value.{Value}
use Rattle.json.specs.Value.{value_view}
use Rattle.smithy_model.specs.declared.model.Member as kept_member
use Rattle.smithy_model.specs.declared.model.Kind as kept_kind
use Rattle.smithy_model.specs.declared.model.Kind.TheVariants as kinds
use Rattle.smithy_model.specs.declared.model.Shape as kept_shape
use Rattle.smithy_model.specs.declared.model.Reference as kept_reference
use Rattle.smithy_model.specs.declared.model.Operation as kept_operation
use Rattle.smithy_model.specs.declared.model.Model as kept_model
use Rattle.smithy_model.specs.declared.numbers.Numbers as kept_numbers
use Rattle.smithy_model.specs.declared.mixins.Gathered as kept_gathered
use Rattle.smithy_model.specs.declared.format.Format as kept_format
use Rattle.smithy_model.specs.declared.format.Format.TheVariants as formats
use Rattle.smithy_model.specs.Objects.{Entry}
use Rattle.smithy_model.specs.Form.{Form, smithy, json_service, xml_service, ec2_service}
use Rattle.smithy_model.specs.Mixins.{Gathered}
use Rattle.smithy_model.specs.Model.{Member, Kind, simple, float, event_stream, structure, union, list, map, Shape, Reference, Operation, Model}

-- a member of an object
abbrev pub entry_view : Bor (List ℕ) × Value Global → Entry
entry_view e = (e.0.now, value_view e.1)

abbrev pub member_view : kept_member.Member → Member
member_view m = record {
  name = m.name.now;
  target = m.target.now;
  number = m.number;
  json_name = option_map (λ t. t.now) m.json_name;
  xml_name = option_map (λ t. t.now) m.xml_name;
  ec2_name = option_map (λ t. t.now) m.ec2_name;
  is_flattened = m.is_flattened;
  time_format = option_map (λ t. t.now) m.time_format;
  in_headers = m.in_headers;
  in_request_line = m.in_request_line;
  in_status_line = m.in_status_line;
  is_payload = m.is_payload;
}

abbrev pub kind_view : kept_kind.Kind → Kind
kind_view (kinds.Simple name) = simple name.now
kind_view kinds.Float = float
kind_view kinds.EventStream = event_stream
kind_view (kinds.Structure members) = structure (list_map member_view members.items)
kind_view (kinds.Union members) = union (list_map member_view members.items)
kind_view (kinds.List element) = list (member_view element)
kind_view (kinds.Map entry) = map (member_view entry.key) (member_view entry.value)

abbrev pub shape_view : kept_shape.Shape → Shape
shape_view s = record {
  id = s.id.now;
  kind = kind_view s.kind;
  mixins = list_map (λ t. t.now) s.mixins.items;
  is_sparse = s.is_sparse;
  is_flattened = s.is_flattened;
  time_format = option_map (λ t. t.now) s.time_format;
  has_local_sparse = s.has_local_sparse;
  has_local_time = s.has_local_time;
}

abbrev pub reference_view : kept_reference.Reference → Reference
reference_view r = record { target = r.target.now; number = r.number }

abbrev pub operation_view : kept_operation.Operation → Operation
operation_view o = record {
  id = o.id.now;
  input = option_map reference_view o.input;
  output = option_map reference_view o.output;
  errors = list_map reference_view o.errors.items;
}

abbrev pub model_view : kept_model.Model → Model
model_view m = record {
  shapes = list_map shape_view m.shapes.items;
  operations = list_map operation_view m.operations.items;
  has_http_bindings = m.has_http_bindings;
  is_ec2 = m.is_ec2;
  is_service_json = m.is_service_json;
}

abbrev pub form_view : kept_format.Format → Form
form_view formats.Smithy = smithy
form_view formats.Json = json_service
form_view formats.Xml = xml_service
form_view formats.Ec2 = ec2_service

-- the ids that have numbers
abbrev pub numbers_view : kept_numbers.Numbers → List (List ℕ)
numbers_view n = list_map (λ t. t.now) n.ids.items

abbrev pub gathered_view : kept_gathered.Gathered → Gathered
gathered_view g = record {
  members = list_map member_view g.members.items;
  agrees = g.agrees;
  is_sparse = g.is_sparse;
  time_format = option_map (λ t. t.now) g.time_format;
}
