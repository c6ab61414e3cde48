-- Shapes and operations, as a model's text has them (Smithy 2.0, "JSON AST").
use Rattle.std.specs.Prelude.{ℕ, List, [], Bool, false, Option, Some, None, option_map, option_and_then, unwrap_or, if◌then◌else◌, codes, bytes_eq, map as list_map}
use Rattle.std.specs.List.{list_any}
use Rattle.std.specs.Option.{option_map_or}
use Rattle.json.specs.Json.{Json}
use Rattle.json.specs.Find.{get, as_str}
use Rattle.smithy_model.specs.Objects.{Entry, text_in, is_set, items_in, is_no_array, trait_text, has_trait}
use Rattle.smithy_model.specs.Model.{Shape, Reference, Operation}
use Rattle.smithy_model.specs.Form.{Form, smithy}
use Rattle.smithy_model.specs.Members.{service_time, all_some}
use Rattle.smithy_model.specs.Kinds.{kind_in}

-- the ids that the items of an array refer to by their member `key`, if there is an array: none where something else stands there, or an item
-- has no such member
abbrev pub references_in : List ℕ → List ℕ → Json → Option (List (List ℕ))
references_in name key spec =
    if is_no_array name spec then None else all_some (list_map (text_in key) (unwrap_or (items_in name spec) []))

-- a reference to the shape of this id; its number is given later
abbrev pub reference_to : List ℕ → Reference
reference_to id = record { target = id; number = 0 }

-- what a value refers to by its member `key`
abbrev pub reference_in : List ℕ → Json → Option Reference
reference_in key spec = option_map reference_to (text_in key spec)

-- what the member of this name refers to, if there is one: none where it refers to nothing
abbrev pub reference_if : List ℕ → List ℕ → Json → Option (Option Reference)
reference_if name key spec = option_map_or (λ value. option_map Some (reference_in key value)) (get name spec) (Some None)

-- what the errors of an operation refer to
abbrev pub errors_in : List ℕ → Json → Option (List Reference)
errors_in key spec = option_map (list_map reference_to) (references_in (codes "errors") key spec)

-- the member by which others refer to a shape
abbrev pub reference_key : Form → List ℕ
reference_key smithy = codes "target"
reference_key _ = codes "shape"

-- an operation with these errors
abbrev pub operation_with : List ℕ → Entry → List Reference → Option Operation
operation_with key e errors =
    option_and_then (λ input. option_map (λ output. record {
      id = e.0;
      input = input;
      output = output;
      errors = errors;
    }) (reference_if (codes "output") key e.1)) (reference_if (codes "input") key e.1)

-- an operation (Smithy 2.0, "Service types"): none where one of its structures is no reference
abbrev pub operation_in : Form → Entry → Option Operation
operation_in form e = option_and_then (operation_with (reference_key form) e) (errors_in (reference_key form) e.1)

-- the traits of a shape: `sparse`, flattened wherever it stands, `timestampFormat`
abbrev pub is_sparse_in : Form → Json → Bool
is_sparse_in smithy spec = has_trait (codes "smithy.api#sparse") spec
is_sparse_in _ spec = is_set (codes "sparse") spec

abbrev pub is_flattened_in : Form → Json → Bool
is_flattened_in smithy spec = false
is_flattened_in _ spec = is_set (codes "flattened") spec

abbrev pub time_in : Form → Json → Option (List ℕ)
time_in smithy spec = trait_text (codes "smithy.api#timestampFormat") spec
time_in _ spec = service_time spec

-- the traits that a mixin doesn't hand on (Smithy 2.0, "Mixins": the member `localTraits` of the trait `mixin`)
abbrev pub local_traits_in : Json → Option (List Json)
local_traits_in spec =
    option_and_then (items_in (codes "localTraits")) (option_and_then (get (codes "smithy.api#mixin")) (get (codes "traits") spec))

-- a trait of this name is one of them
abbrev pub is_text : List ℕ → Json → Bool
is_text wanted value = option_map_or (λ given. bytes_eq given wanted) (as_str value) false

abbrev pub is_local_in : List ℕ → Json → Bool
is_local_in name spec = option_map_or (list_any (is_text name)) (local_traits_in spec) false

-- a shape of values with its own members, those of mixins not yet among them
abbrev pub shape_in : Form → Entry → Option Shape
shape_in form e =
    option_and_then (λ kind. option_map (λ mixins. record {
      id = e.0;
      kind = kind;
      mixins = mixins;
      is_sparse = is_sparse_in form e.1;
      is_flattened = is_flattened_in form e.1;
      time_format = time_in form e.1;
      has_local_sparse = is_local_in (codes "smithy.api#sparse") e.1;
      has_local_time = is_local_in (codes "smithy.api#timestampFormat") e.1;
    }) (references_in (codes "mixins") (codes "target") e.1)) (kind_in form e.1)
