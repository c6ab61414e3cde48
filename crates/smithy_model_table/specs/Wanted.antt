-- What a table is wanted for, and the shapes of a model that this is.
use Rattle.std.specs.Prelude.{◌≡◌, ◌≢◌, ◌⊎◌, ◌||◌, ℕ, List, [], ◌∷◌, ◌++◌, length, Bool, true, false, Option, Some, None, if◌then◌else◌, slice_get, map, flat_map, option_map, option_and_then, option_to_list, bytes_eq}
use Rattle.std.specs.List.{list_any, filter, find}
use Rattle.std.specs.Option.{option_map_or}
use Rattle.smithy_model.specs.Model as model
use Rattle.smithy_model.specs.Model.{Member, Kind, Shape, Reference, Operation, Model}
use Rattle.smithy_model.specs.Reading.{ids_of}
use Rattle.smithy_model_table.specs.Naming.{name_in, is_declared}
use Rattle.smithy_model_table.specs.Leaving.{is_marked, AreFewest}

-- the input or the output of an operation, a shape, or each operation of the service
pub data Wanted : Type 0 where
  input output shape : List ℕ → Wanted
  service : Wanted

-- the id, or the name in it, is this
abbrev pub is_named : List ℕ → List ℕ → Bool
is_named name id = bytes_eq id name || bytes_eq (name_in id) name

-- the place of the only id that is named so
abbrev pub IsOnly : List (List ℕ) → List ℕ → ℕ → Type 0
IsOnly ids name number = (id : List ℕ) × (slice_get ids number ≡ Some id) × (filter (is_named name) ids ≡ id ∷ [])

-- none of these ids is named so, or several are
abbrev pub HasNotOne : List (List ℕ) → List ℕ → Type 0
HasNotOne ids name = length (filter (is_named name) ids) ≢ 1

-- none of these ids is this
abbrev pub IsUnknown : List (List ℕ) → List ℕ → Type 0
IsUnknown ids id = list_any (λ other. bytes_eq other id) ids ≡ false

-- the place of this id, or of the only one of this name
abbrev pub IsIdNamed : List (List ℕ) → List ℕ → ℕ → Type 0
IsIdNamed ids name number = (slice_get ids number ≡ Some name) ⊎ IsOnly ids name number

-- the ids of a model's operations
abbrev pub operation_ids : Model → List (List ℕ)
operation_ids m = map (λ (o : Operation). o.id) m.operations

-- the only operation of this id or name
abbrev pub IsOperationNamed : Model → List ℕ → Operation → Type 0
IsOperationNamed m name o = (number : ℕ) × IsOnly (operation_ids m) name number × (slice_get m.operations number ≡ Some o)

-- the members of the structure of this number
abbrev pub members_of : Kind → Option (List Member)
members_of (model.structure members) = Some members
members_of _ = None

abbrev pub structure_at : Model → ℕ → Option (List Member)
structure_at m number = option_and_then (λ (s : Shape). members_of s.kind) (slice_get m.shapes number)

-- the body of the structure of this number, which has these members: with HTTP bindings the target of the first with
-- `@httpPayload`, if there is one
abbrev pub body_of : Model → ℕ → List Member → ℕ
body_of m number members =
    if m.has_http_bindings
    then option_map_or (λ (p : Member). p.number) (find (λ (p : Member). p.is_payload) members) number
    else number

-- the structure that is the body of the one of this number: none where one of the two is no structure
abbrev pub body_at : Model → ℕ → Option ℕ
body_at m number =
    option_and_then (λ members. option_map (λ _. body_of m number members) (structure_at m (body_of m number members))) (structure_at m number)

-- the body of what an operation refers to, if it does
abbrev pub body_if : Model → Option Reference → Option ℕ
body_if m given = option_and_then (λ (r : Reference). body_at m r.number) given

-- the bodies of the structures of an operation, in this order, but for what has none
abbrev pub bodies_of : Model → Operation → List ℕ
bodies_of m o =
    option_to_list (body_if m o.input)
    ++ (option_to_list (body_if m o.output) ++ flat_map (λ (r : Reference). option_to_list (body_at m r.number)) o.errors)

-- the shape of this id or name has a declaration
abbrev pub IsDeclared : Model → List Bool → List ℕ → ℕ → Type 0
IsDeclared m marks name number =
    (s : Shape) × IsIdNamed (ids_of m.shapes) name number × (slice_get m.shapes number ≡ Some s)
    × (is_declared s.kind ≡ true) × (is_marked marks number ≡ false)

-- the numbers of the shapes that are wanted
abbrev pub AreRoots : Model → List Bool → Wanted → List ℕ → Type 0
AreRoots m marks (input name) roots =
    (o : Operation) × (root : ℕ) × IsOperationNamed m name o × (body_if m o.input ≡ Some root) × (roots ≡ root ∷ [])
AreRoots m marks (output name) roots =
    (o : Operation) × (root : ℕ) × IsOperationNamed m name o × (body_if m o.output ≡ Some root) × (roots ≡ root ∷ [])
AreRoots m marks (shape name) roots = (root : ℕ) × IsDeclared m marks name root × (roots ≡ root ∷ [])
AreRoots m marks service roots = roots ≡ flat_map (bodies_of m) m.operations

-- no table declares the shape of this number: it is a scalar, or nothing of it can stand in one
abbrev pub IsUndeclared : Model → List Bool → ℕ → Type 0
IsUndeclared m marks number =
    (s : Shape) × (slice_get m.shapes number ≡ Some s) × ((is_declared s.kind ≡ false) ⊎ (is_marked marks number ≡ true))

-- no declaration stands for what is wanted, by the marks of the shapes of which nothing can stand in a table
abbrev pub HasNoDeclaration : Model → List Bool → Wanted → Type 0
HasNoDeclaration m marks (input name) = (o : Operation) × IsOperationNamed m name o × (body_if m o.input ≡ None)
HasNoDeclaration m marks (output name) = (o : Operation) × IsOperationNamed m name o × (body_if m o.output ≡ None)
HasNoDeclaration m marks (shape name) =
    (number : ℕ) × IsIdNamed (ids_of m.shapes) name number × IsUndeclared m marks number
HasNoDeclaration m marks service = ⊥

abbrev pub LacksDeclaration : Model → Wanted → Type 0
LacksDeclaration m w = (marks : List Bool) × AreFewest m marks × HasNoDeclaration m marks w

-- what is wanted has no name in the model, or not that of one alone
abbrev pub LacksName : Model → Wanted → Type 0
LacksName m (input name) = HasNotOne (operation_ids m) name
LacksName m (output name) = HasNotOne (operation_ids m) name
LacksName m (shape name) = IsUnknown (ids_of m.shapes) name × HasNotOne (ids_of m.shapes) name
LacksName m service = ⊥
