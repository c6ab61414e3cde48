-- Where HTTP bindings count (Smithy 2.0, "HTTP bindings").
use Rattle.std.specs.Prelude.{◌==◌, ℕ, ◌||◌, ◌&&◌, not, Bool, false}
use Rattle.std.specs.List.{list_any}
use Rattle.std.specs.Option.{option_map_or}
use Rattle.smithy_model.specs.Model as model
use Rattle.smithy_model.specs.Model.{Member, Kind, Shape, Reference, Operation, Model}

-- bindings to headers, to the path and the query, and to the status code
pub record Bindings : Type 0 where
  pub headers : Bool
  pub request_line : Bool
  pub status_line : Bool

-- the structure of this number is the input of the operation, its output, one of its errors
abbrev pub has_input : ℕ → Operation → Bool
has_input number o = option_map_or (λ (r : Reference). r.number == number) o.input false

abbrev pub has_output : ℕ → Operation → Bool
has_output number o = option_map_or (λ (r : Reference). r.number == number) o.output false

abbrev pub has_error : ℕ → Operation → Bool
has_error number o = list_any (λ (r : Reference). r.number == number) o.errors

-- it is so in some operation
abbrev pub is_input : Model → ℕ → Bool
is_input m number = list_any (has_input number) m.operations

abbrev pub is_output : Model → ℕ → Bool
is_output m number = list_any (has_output number) m.operations

abbrev pub is_error : Model → ℕ → Bool
is_error m number = list_any (has_error number) m.operations

-- a part of the shape has the shape of this number as its target
abbrev pub leads_to : ℕ → Kind → Bool
leads_to number (model.structure members) = list_any (λ (part : Member). part.number == number) members
leads_to number (model.union members) = list_any (λ (part : Member). part.number == number) members
leads_to number (model.list element) = element.number == number
leads_to number (model.map key value) = key.number == number || value.number == number
leads_to number _ = false

-- a body of the shape of this number may stand inside of another
abbrev pub is_nested : Model → ℕ → Bool
is_nested m number = list_any (λ (s : Shape). leads_to number s.kind) m.shapes

-- The bindings that count in the structure of this number, wherever it stands: headers in the input, the output and the errors of
-- operations, the path and the query in an input, the status code in an output, and none inside of another structure.
abbrev pub bindings_of : Model → ℕ → Bindings
bindings_of m number = record {
  headers = m.has_http_bindings && (is_input m number || is_output m number || is_error m number) && not (is_nested m number);
  request_line = m.has_http_bindings && is_input m number && not (is_output m number || is_error m number || is_nested m number);
  status_line = m.has_http_bindings && is_output m number && not (is_input m number || is_error m number || is_nested m number);
}

-- those of a union
abbrev pub no_bindings : Bindings
no_bindings = record { headers = false; request_line = false; status_line = false }
