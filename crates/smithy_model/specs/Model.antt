-- The shapes of a model as plain data (Smithy 2.0, "The Smithy model").
use Rattle.std.specs.Prelude.{ℕ, List, Bool, Option}

-- A member (Smithy 2.0, "Aggregate types"): also the elements of a list, the keys and the values of a map.
pub record Member : Type 0 where
  pub name : List ℕ
  -- the id of its target, and the number of that shape in the model
  pub target : List ℕ
  pub number : ℕ
  -- traits of protocols: jsonName, xmlName, ec2QueryName, xmlFlattened, timestampFormat
  pub json_name : Option (List ℕ)
  pub xml_name : Option (List ℕ)
  pub ec2_name : Option (List ℕ)
  pub is_flattened : Bool
  pub time_format : Option (List ℕ)
  -- HTTP bindings: to headers, to the path or the query, to the status code, or to the whole body
  pub in_headers : Bool
  pub in_request_line : Bool
  pub in_status_line : Bool
  pub is_payload : Bool

-- what a shape is; a scalar but a float, or a document, by its name in a table
pub data Kind : Type 0 where
  simple : List ℕ → Kind
  float event_stream : Kind
  structure union : List Member → Kind
  list : Member → Kind
  -- of such keys and values
  map : Member → Member → Kind

-- a shape under its id, with the ids of its mixins
pub record Shape : Type 0 where
  pub id : List ℕ
  pub kind : Kind
  pub mixins : List (List ℕ)
  -- traits: sparse, xmlFlattened (of a service-2.json), timestampFormat
  pub is_sparse : Bool
  pub is_flattened : Bool
  pub time_format : Option (List ℕ)
  -- it is a mixin whose trait sparse, or timestampFormat, is local
  pub has_local_sparse : Bool
  pub has_local_time : Bool

-- what an operation refers to: the id of a shape, and its number in the model
pub record Reference : Type 0 where
  pub target : List ℕ
  pub number : ℕ

-- an operation under its id, with its structures
pub record Operation : Type 0 where
  pub id : List ℕ
  pub input : Option Reference
  pub output : Option Reference
  pub errors : List Reference

-- a model: shapes and operations in its order, whether each of its protocols has HTTP bindings, or is ec2Query, and whether it is a
-- service-2.json
pub record Model : Type 0 where
  pub shapes : List Shape
  pub operations : List Operation
  pub has_http_bindings : Bool
  pub is_ec2 : Bool
  pub is_service_json : Bool
