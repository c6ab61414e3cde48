-- Which model a text is (Smithy 2.0, "JSON AST"; a service-2.json has the same parts under other names).
use Rattle.std.specs.Prelude.{◌≡◌, ℕ, List, [], ◌++◌, true, slice_get, ◌||◌, ◌&&◌, not, Bool, false, Option, Some, None, option_and_then, unwrap_or, if◌then◌else◌, codes, bytes_eq, map as list_map}
use Rattle.std.specs.List.{filter, list_any, AllZip}
use Rattle.json.specs.Json.{Json, document}
use Rattle.json.specs.Strict.{HasUniqueKeys}
use Rattle.smithy_model.specs.Objects.{Entry, has_text, is_there, entries_in, has_trait, inner_text}
use Rattle.smithy_model.specs.Model.{Member, Kind, structure, union, list, map, Shape, Reference, Operation, Model}
use Rattle.smithy_model.specs.Form.{Form, smithy, json_service, xml_service, ec2_service}
use Rattle.smithy_model.specs.Members.{all_some}
use Rattle.smithy_model.specs.Shapes.{operation_in, shape_in}
use Rattle.smithy_model.specs.Mixins.{AreMixed}
use Rattle.smithy_model.specs.Prelude.{prelude}

-- the protocol that a service-2.json names
abbrev pub protocol_in : Json → List ℕ
protocol_in root = unwrap_or (inner_text (codes "metadata") (codes "protocol") root) []

abbrev pub form_of_protocol : List ℕ → Form
form_of_protocol protocol =
    if bytes_eq protocol (codes "ec2") then ec2_service
    else if bytes_eq protocol (codes "query") then xml_service
    else if bytes_eq protocol (codes "rest-xml") then xml_service
    else json_service

-- the form of a model, by a member of its root: none where it has neither
abbrev pub form_in : Json → Option Form
form_in root =
    if is_there (codes "smithy") root then Some smithy
    else if is_there (codes "metadata") root then Some (form_of_protocol (protocol_in root))
    else None

-- the type of what stands under an id
abbrev pub has_type : List ℕ → Json → Bool
has_type type spec = has_text (codes "type") type spec

-- a shape of values: in a Smithy model each entry of `shapes` but operations, services and resources
abbrev pub is_of_values : Form → Json → Bool
is_of_values smithy spec =
    not (has_type (codes "operation") spec || has_type (codes "service") spec || has_type (codes "resource") spec)
is_of_values _ spec = true

-- an operation: a service-2.json has a place for them
abbrev pub is_operation : Form → Json → Bool
is_operation smithy spec = has_type (codes "operation") spec
is_operation _ spec = true

abbrev pub operations_name : Form → List ℕ
operations_name smithy = codes "shapes"
operations_name _ = codes "operations"

-- the shapes of values among these, in order, with their own members: none where one isn't as its type asks
abbrev pub shapes_among : Form → List Entry → Option (List Shape)
shapes_among form es = all_some (list_map (shape_in form) (filter (λ (e : Entry). is_of_values form e.1) es))

-- the operations among these, in order
abbrev pub operations_among : Form → List Entry → Option (List Operation)
operations_among form es = all_some (list_map (operation_in form) (filter (λ (e : Entry). is_operation form e.1) es))

-- a service among these has the trait of this protocol (Smithy 2.0, "Protocol traits")
abbrev pub has_protocol : List ℕ → List Entry → Bool
has_protocol name es = list_any (λ (e : Entry). has_type (codes "service") e.1 && has_trait name e.1) es

-- a service has a protocol that binds members to other parts of a message than the body (Smithy 2.0, "HTTP bindings")
abbrev pub has_rest : List Entry → Bool
has_rest es = has_protocol (codes "aws.protocols#restJson1") es || has_protocol (codes "aws.protocols#restXml") es

abbrev pub has_ec2 : List Entry → Bool
has_ec2 es = has_protocol (codes "aws.protocols#ec2Query") es

-- or another one that sends all members in the body
abbrev pub has_rpc : List Entry → Bool
has_rpc es =
    has_protocol (codes "aws.protocols#awsJson1_0") es || has_protocol (codes "aws.protocols#awsJson1_1") es
    || has_protocol (codes "aws.protocols#awsQuery") es || has_protocol (codes "smithy.protocols#rpcv2Cbor") es

-- Bindings count: there is one of these protocols, and each one of them has them. Any other protocol counts as none. A service-2.json is
-- of the protocol that it names.
abbrev pub has_http_bindings_in : Form → Json → List Entry → Bool
has_http_bindings_in smithy root es = has_rest es && not (has_ec2 es || has_rpc es)
has_http_bindings_in _ root es = bytes_eq (protocol_in root) (codes "rest-json") || bytes_eq (protocol_in root) (codes "rest-xml")

-- there is one of these protocols, and each one of them is ec2Query
abbrev pub is_ec2_in : Form → Json → List Entry → Bool
is_ec2_in smithy root es = has_ec2 es && not (has_rest es || has_rpc es)
is_ec2_in _ root es = bytes_eq (protocol_in root) (codes "ec2")

abbrev pub is_service_json : Form → Bool
is_service_json smithy = false
is_service_json _ = true

-- the shapes that a model has without declaring them: those of the prelude in a Smithy model
abbrev pub undeclared : Form → List Shape
undeclared smithy = prelude
undeclared _ = []

-- The shapes with the members of their mixins. A service-2.json has none.
abbrev pub AreWhole : Form → List Shape → List Shape → Type 0
AreWhole smithy own whole = AreMixed own whole
AreWhole _ own whole = whole ≡ own

-- the member with the number of the shape that is its target
pub record IsNumbered (ids : List (List ℕ)) (given m : Member) : Type 0 where
  pub as_given : m ≡ record given { number = m.number }
  pub is_target : slice_get ids m.number ≡ Some given.target

-- the kind with the number of each target
abbrev pub IsKindNumbered : List (List ℕ) → Kind → Kind → Type 0
IsKindNumbered ids (structure given) k = (ms : List Member) × (k ≡ structure ms) × AllZip (IsNumbered ids) given ms
IsKindNumbered ids (union given) k = (ms : List Member) × (k ≡ union ms) × AllZip (IsNumbered ids) given ms
IsKindNumbered ids (list given) k = (m : Member) × (k ≡ list m) × IsNumbered ids given m
IsKindNumbered ids (map key value) k = (a b : Member) × (k ≡ map a b) × IsNumbered ids key a × IsNumbered ids value b
IsKindNumbered ids given k = k ≡ given

-- the shape with the number of each target
abbrev pub IsShapeNumbered : List (List ℕ) → Shape → Shape → Type 0
IsShapeNumbered ids given s = (s ≡ record given { kind = s.kind }) × IsKindNumbered ids given.kind s.kind

-- the ids of shapes
abbrev pub ids_of : List Shape → List (List ℕ)
ids_of shapes = list_map (λ (s : Shape). s.id) shapes

-- the reference with the number of the shape of its id
abbrev pub IsReferenceNumbered : List (List ℕ) → Reference → Reference → Type 0
IsReferenceNumbered ids given r = (r.target ≡ given.target) × (slice_get ids r.number ≡ Some given.target)

-- the same of one that may be missing
abbrev pub IsNumberedIf : List (List ℕ) → Option Reference → Option Reference → Type 0
IsNumberedIf ids None found = found ≡ None
IsNumberedIf ids (Some given) found = (r : Reference) × (found ≡ Some r) × IsReferenceNumbered ids given r

-- the operation with the number of each of its structures
pub record IsOperationNumbered (ids : List (List ℕ)) (given o : Operation) : Type 0 where
  pub as_given : o.id ≡ given.id
  pub input : IsNumberedIf ids given.input o.input
  pub output : IsNumberedIf ids given.output o.output
  pub errors : AllZip (IsReferenceNumbered ids) given.errors o.errors

-- What a model is before its targets have numbers.
pub record IsUnlinked (root : Json) (m : Model) : Type 0 where
  pub form : Form
  pub is_form : form_in root ≡ Some form
  pub entries : List Entry
  pub has_entries : entries_in (codes "shapes") root ≡ Some entries
  -- shapes with their own members, then with those of their mixins
  pub own : List Shape
  pub are_own : shapes_among form entries ≡ Some own
  pub whole : List Shape
  pub are_whole : AreWhole form own whole
  pub shapes : m.shapes ≡ whole ++ undeclared form
  pub operations : option_and_then (operations_among form) (entries_in (operations_name form) root) ≡ Some m.operations
  pub http : m.has_http_bindings ≡ has_http_bindings_in form root entries
  pub ec2 : m.is_ec2 ≡ is_ec2_in form root entries
  pub service_json : m.is_service_json ≡ is_service_json form

-- the model with the number of each target, and of each structure of an operation, among these ids
pub record AreTargetsNumbered (ids : List (List ℕ)) (given m : Model) : Type 0 where
  pub as_given : m ≡ record given { shapes = m.shapes; operations = m.operations }
  pub shapes : AllZip (IsShapeNumbered ids) given.shapes m.shapes
  pub operations : AllZip (IsOperationNumbered ids) given.operations m.operations

-- The number of a target is the place of the shape of its id.
abbrev pub IsLinked : Model → Model → Type 0
IsLinked given m = AreTargetsNumbered (ids_of given.shapes) given m

-- The model that a JSON value is.
abbrev pub IsModelOf : Json → Model → Type 0
IsModelOf root m = (given : Model) × IsUnlinked root given × IsLinked given m

-- The model that a text is.
pub record IsModelText (text : List ℕ) (m : Model) : Type 0 where
  pub root : Json
  pub is_root : document text ≡ Some root
  pub unique : HasUniqueKeys root
  pub is_model : IsModelOf root m
