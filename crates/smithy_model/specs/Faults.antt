-- Why a text is no model.
use Rattle.std.specs.Prelude.{◌≡◌, ◌⊎◌, ℕ, List, ◌&&◌, ◌||◌, Bool, true, false, Some, None, bytes_eq, codes, if◌then◌else◌}
use Rattle.std.specs.List.{list_any}
use Rattle.std.specs.Borrow.{Bor}
use Rattle.std.specs.Option.{IsSomeAnd, is_none, option_map_or}
use Rattle.std.specs.Str.{IsUtf8}
use Rattle.json.specs.Json.{Json, document}
use Rattle.json.specs.declared.error.Error.{Error}
use Rattle.json.specs.declared.error.Error.TheVariants as errors
use Rattle.json.specs.Strict.{HasUniqueKeys}
use Rattle.smithy_model.specs.declared.fault.ModelFault.{ModelFault}
use Rattle.smithy_model.specs.declared.fault.ModelFault.TheVariants as faults
use Rattle.smithy_model.specs.Objects.{Entry, entries_in}
use Rattle.smithy_model.specs.Model.{Member, Kind, structure, union, list, map, Shape, Reference, Operation, Model}
use Rattle.smithy_model.specs.Form.{Form}
use Rattle.smithy_model.specs.Shapes.{operation_in, shape_in}
use Rattle.smithy_model.specs.Mixins.{uses_of, MissesMixin, IsInCircle, Disagrees}
use Rattle.smithy_model.specs.Reading.{form_in, has_type, is_of_values, is_operation, operations_name, shapes_among, ids_of, IsUnlinked}

-- the fault of a text that isn't read as JSON
abbrev pub fault_of_json : Error → ModelFault
fault_of_json errors.OutOfMemory = faults.NoMemory
fault_of_json errors.DuplicateKey = faults.NameTwice
fault_of_json _ = faults.NotJson

-- the shape of this id isn't as its type asks
abbrev pub is_bad_shape : Form → List ℕ → Entry → Bool
is_bad_shape form id e = bytes_eq e.0 id && is_of_values form e.1 && is_none (shape_in form e)

-- a structure of the operation of this id is no reference
abbrev pub is_bad_operation : Form → List ℕ → Entry → Bool
is_bad_operation form id e = bytes_eq e.0 id && is_operation form e.1 && is_none (operation_in form e)

-- traits are applied from outside to the shape or the member of this id (Smithy 2.0, "JSON AST", "apply")
abbrev pub is_applied : List ℕ → Entry → Bool
is_applied id e = bytes_eq e.0 id && has_type (codes "apply") e.1

-- the member has this target
abbrev pub is_target : List ℕ → Member → Bool
is_target id m = bytes_eq m.target id

-- a member of the kind has this target
abbrev pub has_target : List ℕ → Kind → Bool
has_target id (structure members) = list_any (is_target id) members
has_target id (union members) = list_any (is_target id) members
has_target id (list element) = is_target id element
has_target id (map key value) = is_target id key || is_target id value
has_target id _ = false

-- an id is missing among these, though it is the target of something, as the test says
abbrev pub IsMissing : List (List ℕ) → (List ℕ → Bool) → List ℕ → Type 0
IsMissing ids is_a_target id = (is_a_target id ≡ true) × (list_any (λ other. bytes_eq other id) ids ≡ false)

-- the reference is to this id
abbrev pub refers_to : List ℕ → Reference → Bool
refers_to id r = bytes_eq r.target id

-- a structure of the operation has this id
abbrev pub has_structure : List ℕ → Operation → Bool
has_structure id o =
    option_map_or (refers_to id) o.input false || (option_map_or (refers_to id) o.output false || list_any (refers_to id) o.errors)

-- a member, or an operation, has this target
abbrev pub is_target_in : List ℕ → Model → Bool
is_target_in id m = list_any (λ (s : Shape). has_target id s.kind) m.shapes || list_any (has_structure id) m.operations

-- a target is no shape of the model
abbrev pub RefusesLinks : Model → ModelFault → Type 0
RefusesLinks m (faults.UnknownTarget id) = IsMissing (ids_of m.shapes) (λ other. is_target_in other m) id.now
RefusesLinks m faults.NoMemory = Unit {0}
RefusesLinks m _ = ⊥

-- a shape takes in a mixin that isn't there, or itself, or one that does so, or a member that it has with another target
abbrev pub RefusesMixins : List Shape → ModelFault → Type 0
RefusesMixins own (faults.BadMixin id) = MissesMixin (uses_of own) id.now ⊎ (IsInCircle own id.now ⊎ Disagrees own id.now)
RefusesMixins own faults.NoMemory = Unit {0}
RefusesMixins own _ = ⊥

-- the fault of what stands under an id and is no shape
abbrev pub refusal_of : Bor (List ℕ) → Json → ModelFault
refusal_of id spec = if has_type (codes "apply") spec then faults.Applied id else faults.BadShape id

-- why the shapes among these entries aren't read
abbrev pub RefusesShapes : Form → List Entry → ModelFault → Type 0
RefusesShapes form es (faults.BadShape id) = list_any (is_bad_shape form id.now) es ≡ true
RefusesShapes form es (faults.Applied id) = list_any (is_applied id.now) es ≡ true
RefusesShapes form es faults.NoMemory = Unit {0}
RefusesShapes form es _ = ⊥

-- why the operations among these entries aren't read
abbrev pub RefusesOperations : Form → List Entry → ModelFault → Type 0
RefusesOperations form es (faults.BadShape id) = list_any (is_bad_operation form id.now) es ≡ true
RefusesOperations form es faults.NoMemory = Unit {0}
RefusesOperations form es _ = ⊥

-- why a JSON value is no model
abbrev pub RefusesRoot : Json → ModelFault → Type 0
RefusesRoot root faults.NotAModel =
    (form_in root ≡ None) ⊎ ((form : Form) × (form_in root ≡ Some form)
    × ((entries_in (codes "shapes") root ≡ None) ⊎ (entries_in (operations_name form) root ≡ None)))
RefusesRoot root (faults.BadShape id) =
    (form : Form) × (es : List Entry) × (form_in root ≡ Some form)
    × (((entries_in (codes "shapes") root ≡ Some es) × (list_any (is_bad_shape form id.now) es ≡ true))
    ⊎ ((entries_in (operations_name form) root ≡ Some es) × (list_any (is_bad_operation form id.now) es ≡ true)))
RefusesRoot root (faults.Applied id) =
    (es : List Entry) × (entries_in (codes "shapes") root ≡ Some es) × (list_any (is_applied id.now) es ≡ true)
RefusesRoot root (faults.BadMixin id) =
    (form : Form) × (es : List Entry) × (own : List Shape) × (form_in root ≡ Some form) × (entries_in (codes "shapes") root ≡ Some es)
    × (shapes_among form es ≡ Some own) × RefusesMixins own (faults.BadMixin id)
RefusesRoot root (faults.UnknownTarget id) = (m : Model) × IsUnlinked root m × RefusesLinks m (faults.UnknownTarget id)
RefusesRoot root faults.NoMemory = Unit {0}
RefusesRoot root _ = ⊥

-- Why a text is no model: it is no JSON, or nests deeper than 128; an object of it has a name twice; or it is JSON without a name twice,
-- and no model.
abbrev pub RefusesText : List ℕ → ModelFault → Type 0
RefusesText text faults.NotJson = ¬ IsUtf8 text ⊎ (document text ≡ None)
RefusesText text faults.NameTwice = IsSomeAnd (document text) (λ root. ¬ HasUniqueKeys root)
RefusesText text faults.NoMemory = Unit {0}
RefusesText text fault = (root : Json) × (document text ≡ Some root) × HasUniqueKeys root × RefusesRoot root fault
